-- What a router has while some have still to be heard: it has it once each was heard in a window of beats, and at each moment of the beat that
-- follows.
use Rattle.std.proofs.Common.{◌≡◌, ◌≢◌, refl, sym, ap, ◌∙◌, subst, ◌⊎◌, ℕ, suc, ◌+◌, ◌<◌, ◌≤◌, nat_le, Bool, true, false, if◌then◌else◌, List, [], ◌∷◌, ◌++◌, length, map, Option, None, Some, slice_get, inl, inr, arith, get_or-set_same, get_or-set_other}
use Rattle.std.specs.List.{AllByRecursion}
use Rattle.std.proofs.lemmas.Bool.{cases_eq, leb-true, leb-false}
use Rattle.ipx_table.specs.Alive.{lifetime}
use Rattle.ipx_router.specs.Facts.{heard_after}
use Rattle.ipx_router.specs.Heard.{Heard}
use Rattle.ipx_router.specs.History.{Event, History, Start, Stop, Second, Packet, PortDown, PortUp}
use Rattle.ipx_internet.specs.Internet.{Internet, IsInternet, Place, ports_of}
use Rattle.ipx_internet.specs.Queue.{history_of}
use Rattle.ipx_internet.specs.Run.{Happens, IsStep}
use Rattle.ipx_internet.specs.Ticks.{seconds_of}
use Rattle.ipx_internet.proofs.lists.FoundInAList.{nothing, it_is}
use Rattle.ipx_internet.proofs.packets.SentOnOrReply.{Layouts}
use Rattle.ipx_laws.specs.HeardInTicks.{IsHeardOutside}
use Rattle.ipx_laws.specs.InTime.{IsHeardLanding, seconds_in}
use Rattle.ipx_laws.specs.Meanwhile.{LeavesPorts}
use Rattle.ipx_laws.specs.Wires.{Flight, Wires, WireStep, Occurs, Lands, as_step, beaten, occurs, lands, wired, wires_of, beats_of, Along, EachBeat, IsBeat, InSteps, InBeats}
use Rattle.ipx_laws.proofs.ticks.EventOfOneRouter.{own_seconds}
use Rattle.ipx_laws.proofs.ticks.TickAfterTick.{second_there}
use Rattle.ipx_laws.proofs.wires.BeatAfterBeat.{Going, StepArises, AreSuch, Keeps, along_first, found_at, step_goes, beat_goes, more_seconds}

-- at a port of a router such is heard in a step, of a flight that lands or from outside
abbrev pub IsHeardAt : Internet → (delay : ℕ) → Place → (Heard → Type 0) → Wires → WireStep → Type 0
IsHeardAt net delay to Says now step = IsHeardLanding net delay to Says now step ⊎ IsHeardOutside net to Says now.histories (as_step step)

-- those that are waited for, each at a port, what each says, and what a router has while some have still to be heard
module _ (net : Internet) (x : ℕ) (Who : Type 0) (port_of_it : Who → ℕ) (Says : Who → Heard → Type 0) (State : ℕ → (Who → Type 0) → History → Type 0) where
  -- one is heard of a packet
  abbrev pub IsHeardOf : ℕ → List ℕ → History → Who → Type 0
  IsHeardOf number bytes history s =
      (number ≡ port_of_it s) × (m : Heard) × (heard_after (ports_of net x) history number bytes ≡ Some m) × Says s m

  -- after a packet those that are heard of it needn't be heard any more
  abbrev pub Takes : ℕ → ℕ → List ℕ → History → Type 1
  Takes top number bytes history =
      (Before After : Who → Type 0) → ((s : Who) → Before s → IsHeardOf number bytes history s ⊎ After s) → State top Before history
      → State top After (history ++ Packet number bytes ∷ [])

module _ (net : Internet) (laws : Layouts) (is : IsInternet net) (most_routes most_services delay : ℕ) (Lasts : ℕ → ℕ → History → Type 0) (Flies : Flight → Type 0)
    (Arises : ℕ → List History → ℕ → Event → Type 0) (Good : List History → Type 0) (x : ℕ) (inside : x < length net) (Who : Type 0) (port_of_it : Who → ℕ)
    (Says : Who → Heard → Type 0) (State : ℕ → (Who → Type 0) → History → Type 0) (Has : History → Type 0) (Enough : ℕ → Type 0) where
  abbrev GoesOn : ℕ → (ℕ → ℕ) → Wires → Type 0
  GoesOn = Going net laws is most_routes most_services delay Lasts Flies Arises Good

  abbrev SuchBeat : Wires → List WireStep → Type 0
  SuchBeat = AreSuch net laws is most_routes most_services delay Lasts Flies Arises Good

  abbrev place_of : Who → Place
  place_of s = record { router = x; port = port_of_it s }

  -- one is heard in a step, and of a packet
  abbrev IsHeard : Who → Wires → WireStep → Type 0
  IsHeard s = IsHeardAt net delay (place_of s) (Says s)

  abbrev IsOf : ℕ → List ℕ → History → Who → Type 0
  IsOf = IsHeardOf net x Who port_of_it Says State

  abbrev Taken : ℕ → ℕ → List ℕ → History → Type 1
  Taken = Takes net x Who port_of_it Says State

  -- what is asked of the router's state, with what is no older than so many seconds: of a second, and of a packet from outside or one that lands
  pub record Tracks : Type 1 where
    pub has : (top : ℕ) (history : History) → State top (λ s. ⊥) history → Has history
    pub passes : (top : ℕ) (Before After : Who → Type 0) (history : History) → ((s : Who) → Before s → After s) → State top Before history → State top After history
    pub second : (top : ℕ) → suc top < lifetime → (Late : Who → Type 0) (history : History) → State top Late history → State (suc top) Late (history ++ Second ∷ [])
    pub leaves : (beats : ℕ) (histories : List History) (event : Event) → Arises beats histories x event → LeavesPorts (Happens x event)
    pub later : (beats more : ℕ) → beats ≤ more → Enough beats → Enough more
    pub outside : (beats : ℕ) → Enough beats → (histories : List History) (number : ℕ) (bytes : List ℕ) → IsStep net (Happens x (Packet number bytes))
        → Arises beats histories x (Packet number bytes) → (top : ℕ) (history : History) → Lasts x beats history → Taken top number bytes history
    pub landing : (beats : ℕ) → Enough beats → (f : Flight) → f.delivery.to.router ≡ x → beats ≤ f.sent + delay → Flies f
        → (top : ℕ) (history : History) → Lasts x beats history → Taken top f.delivery.to.port f.delivery.bytes history

  module _ (tracks : Tracks) where
    -- ---- one step

    abbrev At : ℕ → (Who → Type 0) → Wires → Type 0
    At top Late now = State top Late (history_of now.histories x)

    later_of : {A B : Type 0} → (A → ⊥) → A ⊎ B → B
    later_of none (inl now) = absurd (none now)
    later_of none (inr later) = later

    -- what is heard in a step of a router is heard by that router
    hearer : (s : Who) (now : Wires) (router : ℕ) (event : Event) → IsHeard s now (Occurs router event) → router ≡ x
    hearer s now router (Packet number bytes) (inr heard) = heard.0
    hearer s now router (Packet number bytes) (inl none) = absurd none
    hearer s now router Second (inr none) = absurd none
    hearer s now router Second (inl none) = absurd none
    hearer s now router Start (inr none) = absurd none
    hearer s now router Start (inl none) = absurd none
    hearer s now router Stop (inr none) = absurd none
    hearer s now router Stop (inl none) = absurd none
    hearer s now router (PortDown number) (inr none) = absurd none
    hearer s now router (PortDown number) (inl none) = absurd none
    hearer s now router (PortUp number) (inr none) = absurd none
    hearer s now router (PortUp number) (inl none) = absurd none

    -- no event of another router changes it
    elsewhere : (top : ℕ) (now : Wires) (router : ℕ) (event : Event) → x ≢ router → (Before After : Who → Type 0) → ((s : Who) → Before s → After s)
        → At top Before now → At top After (occurs net most_routes most_services delay now router event)
    elsewhere top now router event off Before After still state =
        let stays = get_or-set_other now.histories router x (history_of now.histories router ++ event ∷ []) [] off in
        subst (λ (h : History). State top After h) (sym stays) (tracks.passes top Before After (history_of now.histories x) still state)

    module _ (beats : ℕ) (seconds : ℕ → ℕ) (now : Wires) (going : GoesOn beats seconds now) (enough : Enough beats) (top : ℕ) where
      abbrev past : History
      past = history_of now.histories x

      listed : x < length now.histories
      listed = let each = going.are.each in omega (arith, each, inside)

      lasted : Lasts x beats past
      lasted = going.routers x beats inside (omega arith) (omega arith)

      -- an event of its own
      own : (later : ℕ) (event : Event) (After : Who → Type 0) → State later After (past ++ event ∷ [])
          → At later After (occurs net most_routes most_services delay now x event)
      own later event After state =
          subst (λ (h : History). State later After h) (sym (get_or-set_same now.histories x (past ++ event ∷ []) [] listed)) state

      own_outside : (event : Event) (After : Who → Type 0) → LeavesPorts (Happens x event) → IsStep net (Happens x event) → Arises beats now.histories x event
          → seconds_of x (Happens x event ∷ []) + top < lifetime → At top (λ s. IsHeard s now (Occurs x event) ⊎ After s) now
          → At (seconds_of x (Happens x event ∷ []) + top) After (occurs net most_routes most_services delay now x event)
      own_outside Second After leaves is_step arises young state =
          let one = own_seconds x Second [] in
          let more : suc top ≡ seconds_of x (Happens x Second ∷ []) + top = omega (arith, one) in
          subst (λ (n : ℕ). At n After (occurs net most_routes most_services delay now x Second)) more
          (own (suc top) Second After (tracks.second top (omega (arith, young, one)) After past
          (tracks.passes top (λ s. IsHeard s now (Occurs x Second) ⊎ After s) After past (λ s either. later_of none either) state)))
        where
          none : ⊥ ⊎ ⊥ → ⊥
          none (inl never) = never
          none (inr never) = never
      own_outside (Packet number bytes) After leaves is_step arises young state =
          let none = own_seconds x (Packet number bytes) [] in
          let same : top ≡ seconds_of x (Happens x (Packet number bytes) ∷ []) + top = omega (arith, none) in
          subst (λ (n : ℕ). At n After (occurs net most_routes most_services delay now x (Packet number bytes))) same
          (own top (Packet number bytes) After
          (tracks.outside beats enough now.histories number bytes is_step arises top past lasted (λ s. IsHeard s now (Occurs x (Packet number bytes)) ⊎ After s) After
          split state))
        where
          split : (s : Who) → IsHeard s now (Occurs x (Packet number bytes)) ⊎ After s → IsOf number bytes past s ⊎ After s
          split s (inr later) = inr later
          split s (inl (inl none)) = absurd none
          split s (inl (inr (there, on, m, is_heard, says))) = inl (on, m, ap (λ (n : ℕ). heard_after (ports_of net x) past n bytes) on ∙ is_heard, says)
      own_outside Start After leaves is_step arises young state = absurd leaves
      own_outside Stop After leaves is_step arises young state = absurd leaves
      own_outside (PortDown number) After leaves is_step arises young state = absurd leaves
      own_outside (PortUp number) After leaves is_step arises young state = absurd leaves

      outside_tracks : (router : ℕ) (event : Event) (After : Who → Type 0) → IsStep net (Happens router event) → Arises beats now.histories router event
          → seconds_of x (Happens router event ∷ []) + top < lifetime → At top (λ s. IsHeard s now (Occurs router event) ⊎ After s) now
          → At (seconds_of x (Happens router event ∷ []) + top) After (occurs net most_routes most_services delay now router event)
      outside_tracks router event After is_step arises young state = elim (cases_eq x router) [
        | inl same ↦
            subst (λ (k : ℕ). IsStep net (Happens k event) → Arises beats now.histories k event → seconds_of x (Happens k event ∷ []) + top < lifetime
            → At top (λ s. IsHeard s now (Occurs k event) ⊎ After s) now
            → At (seconds_of x (Happens k event ∷ []) + top) After (occurs net most_routes most_services delay now k event)) same
            (λ is_own its. own_outside event After (tracks.leaves beats now.histories event its) is_own its) is_step arises young state
        | inr off ↦
            let none = second_there router x event [] off in
            let sum : top ≡ seconds_of x (Happens router event ∷ []) + top = omega (arith, none) in
            subst (λ (n : ℕ). At n After (occurs net most_routes most_services delay now router event)) sum
            (elsewhere top now router event off (λ s. IsHeard s now (Occurs router event) ⊎ After s) After
            (λ s either. later_of (λ (heard : IsHeard s now (Occurs router event)). off (sym (hearer s now router event heard))) either) state)
      ]

      -- a flight that lands
      module _ (which : ℕ) (After : Who → Type 0) (state : At top (λ s. IsHeard s now (Lands which) ⊎ After s) now) where
        -- it isn't heard from outside
        landing : (s : Who) → IsHeard s now (Lands which) → IsHeardLanding net delay (place_of s) (Says s) now (Lands which)
        landing s (inl lands) = lands
        landing s (inr none) = absurd none

        module _ (fl : Flight) (found : slice_get now.flights which ≡ Some fl) (flies : Flies fl) where
          abbrev to_router : ℕ
          to_router = fl.delivery.to.router

          abbrev arrival : Event
          arrival = Packet fl.delivery.to.port fl.delivery.bytes

          same_flight : (f : Flight) → slice_get now.flights which ≡ Some f → f ≡ fl
          same_flight f it = it_is (λ (k : Flight). k ≡ fl) f fl (sym found ∙ it) refl

          landed : nat_le now.beats (fl.sent + delay) ≡ true → At top After (occurs net most_routes most_services delay now to_router arrival)
          landed e = elim (cases_eq x to_router) [
            | inr off ↦
                elsewhere top now to_router arrival off (λ s. IsHeard s now (Lands which) ⊎ After s) After (λ s either. later_of (never off s) either) state
            | inl same ↦
                subst (λ (k : ℕ). At top After (occurs net most_routes most_services delay now k arrival)) same
                (own top arrival After
                (tracks.landing beats enough fl (sym same) timely flies top past lasted (λ s. IsHeard s now (Lands which) ⊎ After s) After split state))
          ]
            where
              never : x ≢ to_router → (s : Who) → IsHeard s now (Lands which) → ⊥
              never off s heard =
                  let (k, it, to, soon, m, is_heard, says) = landing s heard in
                  off (sym (ap (λ (q : Place). q.router) (sym (ap (λ (j : Flight). j.delivery.to) (same_flight k it)) ∙ to)))

              timely : beats ≤ fl.sent + delay
              timely = let count = going.count in let soon = leb-true now.beats (fl.sent + delay) e in omega (arith, count, soon)

              heard_of_it : (s : Who) → IsHeard s now (Lands which) → IsOf fl.delivery.to.port fl.delivery.bytes past s
              heard_of_it s heard =
                  let (k, it, to, soon, m, is_heard, says) = landing s heard in
                  let flight = same_flight k it in
                  let on : fl.delivery.to.port ≡ port_of_it s = ap (λ (q : Place). q.port) (sym (ap (λ (j : Flight). j.delivery.to) flight) ∙ to) in (
                    on,
                    m,
                    ap (λ (b : List ℕ). heard_after (ports_of net x) past fl.delivery.to.port b) (sym (ap (λ (j : Flight). j.delivery.bytes) flight))
                        ∙ ap (λ (n : ℕ). heard_after (ports_of net x) past n k.delivery.bytes) on ∙ is_heard,
                    says,
                  )

              split : (s : Who) → IsHeard s now (Lands which) ⊎ After s → IsOf fl.delivery.to.port fl.delivery.bytes past s ⊎ After s
              split s (inl heard) = inl (heard_of_it s heard)
              split s (inr later) = inr later

          late_one : nat_le now.beats (fl.sent + delay) ≡ false → At top After now
          late_one e = tracks.passes top (λ s. IsHeard s now (Lands which) ⊎ After s) After past (λ s either. later_of (never s) either) state
            where
              never : (s : Who) → IsHeard s now (Lands which) → ⊥
              never s heard =
                  let (k, it, to, soon, m, is_heard, says) = landing s heard in
                  let sent = ap (λ (j : Flight). j.sent) (same_flight k it) in
                  let over = leb-false now.beats (fl.sent + delay) e in
                  omega (arith, soon, sent, over)

          lands_tracks : At top After (lands net most_routes most_services delay now fl)
          lands_tracks = by (nat_le now.beats (fl.sent + delay)) refl
            where
              by : (c : Bool) → nat_le now.beats (fl.sent + delay) ≡ c
                  → At top After (if c then occurs net most_routes most_services delay now to_router arrival else now)
              by true e = landed e
              by false e = late_one e

        abbrev found_in : Option Flight → Wires
        found_in o = elim o [ Some f ↦ lands net most_routes most_services delay now f | None ↦ now ]

        which_tracks : (o : Option Flight) → slice_get now.flights which ≡ o → At top After (found_in o)
        which_tracks None e =
            tracks.passes top (λ s. IsHeard s now (Lands which) ⊎ After s) After past
            (λ s either. later_of (λ (heard : IsHeard s now (Lands which)). nothing (sym e ∙ (landing s heard).1)) either) state
        which_tracks (Some f) e = lands_tracks f e (found_at Flies now.flights which f going.flights e)

      step_tracks : (step : WireStep) → IsStep net (as_step step) → StepArises net laws is most_routes most_services delay Lasts Flies Arises Good now step
          → seconds_of x (as_step step ∷ []) + top < lifetime → (After : Who → Type 0) → At top (λ s. IsHeard s now step ⊎ After s) now
          → At (seconds_of x (as_step step ∷ []) + top) After (wired net most_routes most_services delay now step)
      step_tracks (Occurs router event) is_step arises young After state =
          outside_tracks router event After is_step (subst (λ (n : ℕ). Arises n now.histories router event) going.count arises) young state
      step_tracks (Lands which) is_step arises young After state =
          let sum : top ≡ seconds_of x (as_step (Lands which) ∷ []) + top = omega arith in
          subst (λ (n : ℕ). At n After (wired net most_routes most_services delay now (Lands which))) sum
          (which_tracks which After state (slice_get now.flights which) refl)

    -- ---- steps

    module _ (keeps : Keeps net laws is most_routes most_services delay Lasts Flies Arises Good) where
      next_goes : (beats : ℕ) (now : Wires) (seconds : ℕ → ℕ) (step : WireStep) (steps : List WireStep) → IsStep net (as_step step) → SuchBeat now (step ∷ steps)
          → GoesOn beats seconds now
          → GoesOn beats (λ router. seconds_of router (as_step step ∷ []) + seconds router) (wired net most_routes most_services delay now step)
      next_goes beats now seconds step steps is_step such going =
          step_goes net laws is most_routes most_services delay Lasts Flies Arises Good keeps beats now seconds step is_step such.arise.0 such.good.0
          (along_first net most_routes most_services delay (λ n. Good n.histories) (wired net most_routes most_services delay now step) steps such.good.1) going

      seconds_sum : (step : WireStep) (steps : List WireStep)
          → seconds_of x (map as_step (step ∷ steps)) ≡ seconds_of x (as_step step ∷ []) + seconds_of x (map as_step steps)
      seconds_sum step steps = more_seconds net laws is most_routes most_services delay Lasts Flies Arises Good keeps step steps x

      steps_track : (beats : ℕ) → Enough beats → (steps : List WireStep) (now : Wires) (seconds : ℕ → ℕ) (top : ℕ)
          → AllByRecursion (λ step. IsStep net (as_step step)) steps → SuchBeat now steps → GoesOn beats seconds now
          → seconds_of x (map as_step steps) + top < lifetime → (After : Who → Wires → Type 0)
          → At top (λ s. InSteps net most_routes most_services delay (IsHeard s) (After s) now steps) now
          → At (seconds_of x (map as_step steps) + top) (λ s. After s (wires_of net most_routes most_services delay now steps))
          (wires_of net most_routes most_services delay now steps)
      steps_track beats enough [] now seconds top are such going young After state =
          let same : top ≡ 0 + top = omega arith in subst (λ (n : ℕ). At n (λ s. After s now) now) same state
      steps_track beats enough (step ∷ steps) now seconds top are such going young After state =
          let next = wired net most_routes most_services delay now step in
          let sum = seconds_sum step steps in
          let now_state = step_tracks beats seconds now going enough top step are.0 such.arise.0 (omega (arith, sum, young))
          (λ s. InSteps net most_routes most_services delay (IsHeard s) (After s) next steps) state in
          let later = steps_track beats enough steps next (λ router. seconds_of router (as_step step ∷ []) + seconds router) (seconds_of x (as_step step ∷ []) + top) are.1
          (record { arise = such.arise.1; good = such.good.1 }) (next_goes beats now seconds step steps are.0 such going) (omega (arith, sum, young)) After now_state in
          let total : seconds_of x (map as_step steps) + (seconds_of x (as_step step ∷ []) + top) ≡ seconds_of x (map as_step (step ∷ steps)) + top = omega (arith, sum) in
          subst (λ (n : ℕ). At n (λ s. After s (wires_of net most_routes most_services delay next steps))
          (wires_of net most_routes most_services delay next steps)) total later

      -- it stays at each moment, while it is young enough
      steps_stay : (beats : ℕ) → Enough beats → (steps : List WireStep) (now : Wires) (seconds : ℕ → ℕ) (top : ℕ)
          → AllByRecursion (λ step. IsStep net (as_step step)) steps → SuchBeat now steps → GoesOn beats seconds now
          → seconds_of x (map as_step steps) + top < lifetime → At top (λ s. ⊥) now
          → Along net most_routes most_services delay (λ n. Has (history_of n.histories x)) now steps
      steps_stay beats enough [] now seconds top are such going young state = tracks.has top (history_of now.histories x) state
      steps_stay beats enough (step ∷ steps) now seconds top are such going young state =
          let next = wired net most_routes most_services delay now step in
          let sum = seconds_sum step steps in (
            tracks.has top (history_of now.histories x) state,
            steps_stay beats enough steps next (λ router. seconds_of router (as_step step ∷ []) + seconds router) (seconds_of x (as_step step ∷ []) + top) are.1
                (record { arise = such.arise.1; good = such.good.1 }) (next_goes beats now seconds step steps are.0 such going) (omega (arith, sum, young))
                (step_tracks beats seconds now going enough top step are.0 such.arise.0 (omega (arith, sum, young)) (λ s. ⊥)
                (tracks.passes top (λ s. ⊥) (λ s. IsHeard s now step ⊎ ⊥) (history_of now.histories x) (λ s none. absurd none) state)),
          )

      -- ---- beats

      beats_track : (so_far : ℕ) → Enough so_far → (beats : List (List WireStep)) (now : Wires) (top : ℕ) → AllByRecursion (IsBeat net) beats
          → EachBeat net most_routes most_services delay SuchBeat now beats → GoesOn so_far (λ router. 0) now
          → seconds_in x beats + top < lifetime → At top (λ s. InBeats net most_routes most_services delay (IsHeard s) now beats) now
          → At (seconds_in x beats + top) (λ s. ⊥) (beats_of net most_routes most_services delay now beats)
      beats_track so_far enough [] now top are such going young state =
          let same : top ≡ 0 + top = omega arith in subst (λ (n : ℕ). At n (λ s. ⊥) now) same state
      beats_track so_far enough (steps ∷ beats) now top are such going young state =
          let next = beaten (wires_of net most_routes most_services delay now steps) in
          let total : seconds_in x (steps ∷ beats) ≡ seconds_of x (map as_step steps) + seconds_in x beats = refl in
          let after = steps_track so_far enough steps now (λ router. 0) top are.0.happens such.0 going (omega (arith, young, total))
          (λ s next. InBeats net most_routes most_services delay (IsHeard s) (beaten next) beats) state in
          let going_on = beat_goes net laws is most_routes most_services delay Lasts Flies Arises Good keeps so_far steps now are.0 such.0 going in
          let sum : seconds_in x beats + (seconds_of x (map as_step steps) + top) ≡ seconds_in x (steps ∷ beats) + top = omega (arith, total) in
          subst (λ (n : ℕ). At n (λ s. ⊥) (beats_of net most_routes most_services delay next beats)) sum
          (beats_track (suc so_far) (tracks.later so_far (suc so_far) (omega arith) enough) beats next (seconds_of x (map as_step steps) + top) are.1 such.1 going_on (omega (arith, young, total)) after)

      -- a window in which each of them is heard
      module _ (so_far : ℕ) (enough : Enough so_far) (window : List (List WireStep)) (now : Wires) (are : AllByRecursion (IsBeat net) window)
          (such : EachBeat net most_routes most_services delay SuchBeat now window)
          (going : GoesOn so_far (λ router. 0) now) (quick : seconds_in x window < lifetime)
          (begins : At 0 (λ s. InBeats net most_routes most_services delay (IsHeard s) now window) now) where
        abbrev last : Wires
        last = beats_of net most_routes most_services delay now window

        heard : At (seconds_in x window + 0) (λ s. ⊥) last
        heard = beats_track so_far enough window now 0 are such going (omega (arith, quick)) begins

        pub window_has : Has (history_of last.histories x)
        window_has = tracks.has (seconds_in x window + 0) (history_of last.histories x) heard

        -- and at each moment of a beat more
        pub beat_has : (steps : List WireStep) → IsBeat net steps → SuchBeat last steps → GoesOn (length window + so_far) (λ router. 0) last
            → seconds_of x (map as_step steps) + seconds_in x window < lifetime
            → Along net most_routes most_services delay (λ n. Has (history_of n.histories x)) last steps
        beat_has steps beat such_then going_then shorter =
            steps_stay (length window + so_far) (tracks.later so_far (length window + so_far) (omega arith) enough) steps last (λ router. 0) (seconds_in x window + 0) beat.happens such_then going_then
            (omega (arith, shorter)) heard
