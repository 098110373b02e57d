-- Beats in parts: what is so of each of them, of those before and of those behind; how many have ended, and how old what flies is.
use Rattle.std.proofs.Common.{◌≡◌, refl, sym, ap, subst, ℕ, zero, suc, ◌+◌, ◌-◌, ◌<◌, ◌≤◌, nat_le, Bool, true, false, if◌then◌else◌, List, [], ◌∷◌, ◌++◌, length, map, flat_map, Option, None, Some, slice_get, arith, append_assoc, append-nil, length-append, ◌∙◌}
use Rattle.std.specs.List.{AllByRecursion}
use Rattle.ipx_table.specs.Alive.{lifetime}
use Rattle.ipx_router.specs.History.{Event, History, Packet}
use Rattle.ipx_internet.specs.Internet.{Internet}
use Rattle.ipx_internet.specs.Ticks.{seconds_of}
use Rattle.ipx_internet.specs.Queue.{Delivery, deliveries_of, sends_at}
use Rattle.ipx_internet.proofs.lists.EachElement.{all_of, all_then, all-append, all_mapped}
use Rattle.ipx_laws.specs.InTime.{seconds_in, AreQuick}
use Rattle.ipx_laws.specs.Wires.{as_step, Flight, Wires, WireStep, Occurs, Lands, flying, beaten, occurs, lands, wired, wires_of, beats_of, Along, EachBeat}

-- a list in two parts, the first of that length
pub parted : {X : Type 0} (k : ℕ) (xs : List X) → k ≤ length xs → (front : List X) × (back : List X) × (xs ≡ front ++ back) × (length front ≡ k)
parted zero xs some = ([], xs, refl, refl)
parted (suc k) [] some = absurd (omega (arith, some))
parted (suc k) (x ∷ xs) some =
    let (front, back, same, count) = parted k xs (omega (arith, some)) in (x ∷ front, back, ap (λ (ys : List _). x ∷ ys) same, ap suc count)

-- beats up to one, others while which all that flew then comes too late, and a window
pub record Cut (start delay window : ℕ) (front : List (List WireStep)) : Type 0 where
  pub zeroth : List (List WireStep)
  pub before : List (List WireStep)
  pub inside : List (List WireStep)
  pub same : front ≡ (zeroth ++ before) ++ inside
  pub count : length zeroth ≡ start
  pub flushed : delay ≤ length before
  pub wide : length inside ≡ window

pub cut_of : (start delay window : ℕ) (front : List (List WireStep)) → start + delay + window ≤ length front → Cut start delay window front
cut_of start delay window front late =
    let (zeroth, tail, one, count) = parted start front (omega (arith, late)) in
    let sum : length front ≡ length zeroth + length tail = ap length one ∙ length-append zeroth tail in
    let (before, inside, two, flush) = parted (length tail - window) tail (omega arith) in
    let total : length tail ≡ length before + length inside = ap length two ∙ length-append before inside in
    record {
      zeroth = zeroth;
      before = before;
      inside = inside;
      same = one ∙ ap (λ (t : List (List WireStep)). zeroth ++ t) two ∙ sym (append_assoc zeroth before inside);
      count = count;
      flushed = omega (arith, late, sum, count, flush);
      wide = omega (arith, late, sum, count, flush, total);
    }

module _ (net : Internet) (most_routes most_services delay : ℕ) where
  abbrev by : Wires → List (List WireStep) → Wires
  by = beats_of net most_routes most_services delay

  abbrev Each : (Wires → List WireStep → Type 0) → Wires → List (List WireStep) → Type 0
  Each = EachBeat net most_routes most_services delay

  -- ---- one after the other

  pub beats_more : (w : Wires) (front rest : List (List WireStep)) → by w (front ++ rest) ≡ by (by w front) rest
  beats_more w [] rest = refl
  beats_more w (steps ∷ front) rest = beats_more (beaten (wires_of net most_routes most_services delay w steps)) front rest

  pub each_parts : (Is : Wires → List WireStep → Type 0) (w : Wires) (front rest : List (List WireStep)) → Each Is w (front ++ rest)
      → Each Is w front × Each Is (by w front) rest
  each_parts Is w [] rest each = (tt, each)
  each_parts Is w (steps ∷ front) rest each =
      let parts = each_parts Is (beaten (wires_of net most_routes most_services delay w steps)) front rest each.1 in ((each.0, parts.0), parts.1)

  -- what is so of each of the rest, after those before it
  pub each_at : (Is : Wires → List WireStep → Type 0) (w : Wires) (front rest : List (List WireStep))
      → ((earlier : List (List WireStep)) (steps : List WireStep) (later : List (List WireStep)) → rest ≡ earlier ++ steps ∷ later → Is (by w (front ++ earlier)) steps)
      → Each Is (by w front) rest
  each_at Is w front [] so = tt
  each_at Is w front (steps ∷ rest) so = (
    subst (λ (f : List (List WireStep)). Is (by w f) steps) (append-nil front) (so [] steps rest refl),
    subst (λ (v : Wires). Each Is v rest) (beats_more w front (steps ∷ []))
        (each_at Is w (front ++ steps ∷ []) rest (λ earlier next later e.
        subst (λ (f : List (List WireStep)). Is (by w f) next) (sym (append_assoc front (steps ∷ []) earlier)) (so (steps ∷ earlier) next later (ap (λ r. steps ∷ r) e)))),
  )

  -- what is so of each that as many others come before is so of each of a part
  pub each_behind : (Is : Wires → List WireStep → Type 0) (w : Wires) (beats front part rest : List (List WireStep)) → beats ≡ front ++ (part ++ rest)
      → ((earlier : List (List WireStep)) (steps : List WireStep) (later : List (List WireStep)) → beats ≡ earlier ++ steps ∷ later → length front ≤ length earlier
      → Is (by w earlier) steps)
      → Each Is (by w front) part
  each_behind Is w beats front part rest parts so =
      each_at Is w front part (λ earlier steps later e.
      let sum = length-append front earlier in
      so (front ++ earlier) steps (later ++ rest) (parts ∙ ap (λ (p : List (List WireStep)). front ++ (p ++ rest)) e ∙ ap (λ (p : List (List WireStep)). front ++ p)
      (append_assoc earlier (steps ∷ later) rest) ∙ sym (append_assoc front earlier (steps ∷ (later ++ rest)))) (omega (arith, sum)))

  -- and says something else
  pub each_then : (Is So : Wires → List WireStep → Type 0) → ((w : Wires) (steps : List WireStep) → Is w steps → So w steps) → (w : Wires)
      (beats : List (List WireStep)) → Each Is w beats → Each So w beats
  each_then Is So so w [] each = tt
  each_then Is So so w (steps ∷ beats) each =
      (so w steps each.0, each_then Is So so (beaten (wires_of net most_routes most_services delay w steps)) beats each.1)

  -- what is so of each of something, all along
  pub along_each : {X : Type 0} (Is : X → Wires → Type 0) (w : Wires) (steps : List WireStep) → ((x : X) → Along net most_routes most_services delay (Is x) w steps)
      → Along net most_routes most_services delay (λ now. (x : X) → Is x now) w steps
  along_each Is w [] all = all
  along_each Is w (step ∷ steps) all =
      ((λ x. (all x).0), along_each Is (wired net most_routes most_services delay w step) steps (λ x. (all x).1))

  pub along_both : (Is So : Wires → Type 0) (w : Wires) (steps : List WireStep) → Along net most_routes most_services delay Is w steps
      → Along net most_routes most_services delay So w steps → Along net most_routes most_services delay (λ now. Is now × So now) w steps
  along_both Is So w [] one two = (one, two)
  along_both Is So w (step ∷ steps) one two = ((one.0, two.0), along_both Is So (wired net most_routes most_services delay w step) steps one.1 two.1)

  -- after the first of the steps
  pub along_prefix : (Is : Wires → Type 0) (w : Wires) (steps rest : List WireStep) → Along net most_routes most_services delay Is w (steps ++ rest)
      → Is (wires_of net most_routes most_services delay w steps)
  along_prefix Is w [] [] along = along
  along_prefix Is w [] (step ∷ rest) along = along.0
  along_prefix Is w (step ∷ steps) rest along = along_prefix Is (wired net most_routes most_services delay w step) steps rest along.1

  -- ---- stamps

  abbrev Stamped : ℕ → Wires → Type 0
  Stamped most w = AllByRecursion (λ f. f.sent ≤ most) w.flights

  -- so many beats have ended, and nothing was sent later
  pub record IsAt (beats : ℕ) (w : Wires) : Type 0 where
    pub count : w.beats ≡ beats
    pub stamped : Stamped beats w

  occurs_at : (beats : ℕ) (w : Wires) (router : ℕ) (event : Event) → IsAt beats w → IsAt beats (occurs net most_routes most_services delay w router event)
  occurs_at beats w router event is = record {
    count = is.count;
    stamped =
        all-append (λ f. f.sent ≤ beats) w.flights _ is.stamped
        (all_mapped (λ f. f.sent ≤ beats) (λ d. record { delivery = d; sent = w.beats })
        (flat_map (deliveries_of net router) (sends_at net most_routes most_services w.histories router event))
        (all_of (λ d. w.beats ≤ beats) (λ d. let same = is.count in omega (arith, same))
        (flat_map (deliveries_of net router) (sends_at net most_routes most_services w.histories router event))));
  }

  lands_at : (beats : ℕ) (w : Wires) (f : Flight) → IsAt beats w → IsAt beats (lands net most_routes most_services delay w f)
  lands_at beats w f is = either (nat_le w.beats (f.sent + delay))
    where
      at : Wires
      at = occurs net most_routes most_services delay w f.delivery.to.router (Packet f.delivery.to.port f.delivery.bytes)

      either : (c : Bool) → IsAt beats (if c then at else w)
      either true = occurs_at beats w f.delivery.to.router (Packet f.delivery.to.port f.delivery.bytes) is
      either false = is

  abbrev landed : Wires → Option Flight → Wires
  landed w o = elim o [ Some f ↦ lands net most_routes most_services delay w f | None ↦ w ]

  step_at : (beats : ℕ) (w : Wires) (step : WireStep) → IsAt beats w → IsAt beats (wired net most_routes most_services delay w step)
  step_at beats w (Occurs router event) is = occurs_at beats w router event is
  step_at beats w (Lands which) is = found (slice_get w.flights which)
    where
      found : (o : Option Flight) → IsAt beats (landed w o)
      found None = is
      found (Some f) = lands_at beats w f is

  steps_at : (beats : ℕ) (w : Wires) (steps : List WireStep) → IsAt beats w → IsAt beats (wires_of net most_routes most_services delay w steps)
  steps_at beats w [] is = is
  steps_at beats w (step ∷ steps) is = steps_at beats (wired net most_routes most_services delay w step) steps (step_at beats w step is)

  -- when a beat begins, what flies was sent in one that has ended
  pub record Begins (beats : ℕ) (w : Wires) : Type 0 where
    pub count : w.beats ≡ beats
    pub before : AllByRecursion (λ f. f.sent < beats) w.flights

  pub beats_begin : (beats : ℕ) (w : Wires) (steps : List WireStep) (rest : List (List WireStep)) → IsAt beats w → Begins (length (steps ∷ rest) + beats) (by w (steps ∷ rest))
  beats_begin beats w steps [] is =
      let after = steps_at beats w steps is in
      let sum : suc beats ≡ length (steps ∷ []) + beats = omega arith in
      subst (λ (n : ℕ). Begins n (by w (steps ∷ []))) sum (record {
        count = ap suc after.count;
        before = all_then (λ f. f.sent ≤ beats) (λ f. f.sent < suc beats) (λ f less. omega (arith, less)) _ after.stamped;
      })
  beats_begin beats w steps (more ∷ rest) is =
      let after = steps_at beats w steps is in
      let next = beaten (wires_of net most_routes most_services delay w steps) in
      let sum : length (more ∷ rest) + suc beats ≡ length (steps ∷ more ∷ rest) + beats = omega arith in
      subst (λ (n : ℕ). Begins n (by w (steps ∷ more ∷ rest))) sum
      (beats_begin (suc beats) next more rest (record {
        count = ap suc after.count;
        stamped = all_then (λ f. f.sent ≤ beats) (λ f. f.sent ≤ suc beats) (λ f less. omega (arith, less)) _ after.stamped;
      }))

  -- so it is behind any beats, whatever flew at first
  pub sent_before : (histories : List History) (deliveries : List Delivery) (front : List (List WireStep)) → 1 ≤ length front
      → Begins (length front) (by (flying histories deliveries) front)
  sent_before histories deliveries [] none = absurd (omega (arith, none))
  sent_before histories deliveries (steps ∷ more) some =
      let sum : length (steps ∷ more) + 0 ≡ length (steps ∷ more) = omega arith in
      subst (λ (n : ℕ). Begins n (by (flying histories deliveries) (steps ∷ more))) sum
      (beats_begin 0 (flying histories deliveries) steps more (record {
        count = refl;
        stamped = all_mapped (λ f. f.sent ≤ 0) (λ d. record { delivery = d; sent = 0 }) deliveries (all_of (λ d. 0 ≤ 0) (λ d. omega arith) deliveries);
      }))

-- ---- how long they are by a clock

seconds_more : (router : ℕ) (inside : List (List WireStep)) (steps : List WireStep)
    → seconds_in router (inside ++ steps ∷ []) ≡ seconds_in router inside + seconds_of router (map as_step steps)
seconds_more router [] steps = omega arith
seconds_more router (first ∷ inside) steps = let more = seconds_more router inside steps in omega (arith, more)

-- a window, and a beat that follows it
module _ (net : Internet) (window : ℕ) (beats : List (List WireStep)) (quick : AreQuick net window beats) (router : ℕ) (there : router < length net)
    (behind inside : List (List WireStep)) (wide : length inside ≡ window) where
  pub window_quick : (rest : List (List WireStep)) → beats ≡ behind ++ inside ++ rest → seconds_in router inside < lifetime
  window_quick rest parts = quick router behind inside rest there parts (omega (arith, wide))

  pub beat_quick : (steps : List WireStep) (more : List (List WireStep)) → beats ≡ behind ++ inside ++ steps ∷ more
      → seconds_of router (map as_step steps) + seconds_in router inside < lifetime
  beat_quick steps more parts =
      let regrouped = sym (append_assoc (behind ++ inside) (steps ∷ []) more) ∙ ap (λ (l : List (List WireStep)). l ++ more) (append_assoc behind inside (steps ∷ [])) in
      let longer = length-append inside (steps ∷ []) in
      let all = quick router behind (inside ++ steps ∷ []) more there (parts ∙ regrouped) (omega (arith, wide, longer)) in
      let sum = seconds_more router inside steps in
      omega (arith, all, sum)
