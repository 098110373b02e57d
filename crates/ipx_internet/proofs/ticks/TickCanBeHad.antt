-- From any run a tick can be had: all seconds, in any order, and then as many deliveries as it takes; and a busy one, whatever happens.
use Rattle.std.proofs.Common.{◌≡◌, refl, sym, ap, ◌∙◌, subst, ℕ, zero, suc, ◌+◌, ◌<◌, ◌≤◌, ◌==◌, true, false, List, [], ◌∷◌, ◌++◌, length, map, filter, flat_map, replicate, None, arith, length-append, inl, inr, rules}
use Rattle.std.specs.List.{AllByRecursion}
use Rattle.std.proofs.lemmas.Bool.{cases_lt, eq-eqb, ne_eqb}
use Rattle.std.proofs.lemmas.List.Elements.{filter-append}
use Rattle.ipx_wire.specs.Piece.{IsBytes}
use Rattle.ipx_router.specs.History.{Event, History, Second, IsOnPort, IsOfBytes}
use Rattle.ipx_router.specs.Port.{numbers}
use Rattle.ipx_internet.specs.BusyTick.{IsBusyTick}
use Rattle.ipx_internet.specs.Internet.{Internet, IsInternet, ports_of}
use Rattle.ipx_internet.specs.Queue.{Delivery, Queued, deliveries_of, history_of, sends_at, queued, settled_one}
use Rattle.ipx_internet.specs.Rounds.{IsDelivery, handed_out, most_rounds}
use Rattle.ipx_internet.specs.Run.{Step, Happens, Settles, IsStep, AreHistories, Waiting, Run, forgotten, stepped, run_of}
use Rattle.ipx_internet.specs.Ticks.{is_second_of, seconds_of, IsOfTick, IsTick, AreTicks, a_tick_by, a_tick, IsOrder}
use Rattle.ipx_internet.proofs.deliveries.QueueOfARun.{events, deliveries, many_deliveries}
use Rattle.ipx_internet.proofs.lists.EachElement.{all_mapped, all_then, all-append, all-map, numbers_below}
use Rattle.ipx_internet.proofs.packets.SentOnOrReply.{Layouts}
use Rattle.ipx_internet.proofs.places.OneReceiverOfANode.{ports_at}
use Rattle.ipx_internet.proofs.rounds.OneRound.{each_delivery}
use Rattle.ipx_internet.proofs.rounds.QuietAfterRounds.{enough}
use Rattle.ipx_internet.proofs.trees.RunIsALog.{histories_more, router_there}

-- ---- how many seconds a router has in it

abbrev second : ℕ → Step
second router = Happens router Second

-- as often as it is in the order
pub seconds_by : (router : ℕ) (order : List ℕ) → seconds_of router (map second order) ≡ length (filter (λ other. other == router) order)
seconds_by router [] = refl
seconds_by router (other ∷ order) = grind (arith, seconds_by router order)

pub seconds_more : (router : ℕ) (first rest : List Step) → seconds_of router (first ++ rest) ≡ seconds_of router first + seconds_of router rest
seconds_more router first rest =
    ap length (filter-append (is_second_of router) first rest) ∙ length-append (filter (is_second_of router) first) (filter (is_second_of router) rest)

none_settles : (router n : ℕ) → seconds_of router (replicate n Settles) ≡ 0
none_settles router zero = refl
none_settles router (suc n) = none_settles router n

-- deliveries behind add none
pub seconds_then : (router : ℕ) (steps : List Step) (n : ℕ) → seconds_of router steps ≡ 1 → seconds_of router (steps ++ replicate n Settles) ≡ 1
seconds_then router steps n one = omega (arith, seconds_more, none_settles)

-- ---- the order of the numbers

occurs_more : (router : ℕ) (first rest : List ℕ)
    → length (filter (λ other. other == router) (first ++ rest)) ≡ length (filter (λ other. other == router) first) + length (filter (λ other. other == router) rest)
occurs_more router first rest =
    ap length (filter-append (λ other. other == router) first rest)
    ∙ length-append (filter (λ other. other == router) first) (filter (λ other. other == router) rest)

none_of : (router n : ℕ) → n ≤ router → length (filter (λ other. other == router) (numbers n)) ≡ 0
none_of router zero few = refl
none_of router (suc n) few =
    let off : (n == router) ≡ false = ne_eqb n router (λ e. omega (arith, few, e)) in
    let before = none_of router n (omega (arith, few)) in
    let last : length (filter (λ other. other == router) (n ∷ [])) ≡ 0 = rw off refl in
    let sum = occurs_more router (numbers n) (n ∷ []) in
    omega (arith, before, last, sum)

pub one_of : (router n : ℕ) → router < n → length (filter (λ other. other == router) (numbers n)) ≡ 1
one_of router zero there = absurd (omega (arith, there))
one_of router (suc n) there =
    let sum = occurs_more router (numbers n) (n ∷ []) in
    elim (cases_lt router n) [
      | inl before ↦
          let off : (n == router) ≡ false = ne_eqb n router (λ e. omega (arith, before, e)) in
          let one = one_of router n before in
          let last : length (filter (λ other. other == router) (n ∷ [])) ≡ 0 = rw off refl in
          omega (arith, one, last, sum)
      | inr here ↦
          let same : (n == router) ≡ true = eq-eqb n router (omega (arith, here, there)) in
          let none = none_of router n here in
          let last : length (filter (λ other. other == router) (n ∷ [])) ≡ 1 = rw same refl in
          omega (arith, none, last, sum)
    ]

-- nothing waits where there is no delivery
pub none_waits : (waiting : List Waiting) → map (λ w. w.delivery) waiting ≡ [] → waiting ≡ []
none_waits [] e = refl
none_waits (w ∷ waiting) e =
    let no : suc (length (map (λ (w : Waiting). w.delivery) waiting)) ≡ 0 = ap length e in
    absurd (omega (arith, no))

module _ (net : Internet) (laws : Layouts) (is : IsInternet net) (most_routes most_services : ℕ) where
  by_number : IsOrder net (numbers (length net))
  by_number = record { there = numbers_below (length net); once = λ router within. one_of router (length net) within }

  run_more : (run : Run) (first rest : List Step)
      → run_of net most_routes most_services run (first ++ rest) ≡ run_of net most_routes most_services (run_of net most_routes most_services run first) rest
  run_more run [] rest = refl
  run_more run (step ∷ first) rest = run_more (stepped net most_routes most_services run step) first rest

  -- ---- steps

  settles_all : (P : Step → Type 0) → P Settles → (n : ℕ) → AllByRecursion P (replicate n Settles)
  settles_all P one zero = tt
  settles_all P one (suc n) = (one, settles_all P one n)

  -- of a tick, each is one that there is
  pub of_tick : (step : Step) → IsOfTick net step → IsStep net step
  of_tick step is = grind arith

  pub tick_steps : (steps : List Step) → AllByRecursion (IsOfTick net) steps → AllByRecursion (IsStep net) steps
  tick_steps steps all = all_then (IsOfTick net) (IsStep net) of_tick steps all

  seconds_of_tick : (order : List ℕ) → AllByRecursion (λ router. router < length net) order → AllByRecursion (IsOfTick net) (map second order)
  seconds_of_tick order there = all-map (λ router. router < length net) (IsOfTick net) second (λ router within. (within, refl)) order there

  -- histories and deliveries as they should be
  pub record Sound (q : Queued) : Type 0 where
    pub are : AreHistories net q.histories
    pub waits : AllByRecursion (IsDelivery net) q.queue

  event_sound : (histories : List History) (queue : List Delivery) (router : ℕ) (event : Event) → router < length net → IsOnPort (ports_of net router) event
      → IsOfBytes event → Sound (record { histories = histories; queue = queue })
      → Sound (queued net most_routes most_services (record { histories = histories; queue = queue }) router event)
  event_sound histories queue router event within on of_bytes sound =
      let ports = ports_of net router in
      let history = history_of histories router in
      let sent = sends_at net most_routes most_services histories router event in
      let bytes = laws.bytes ports most_routes most_services history event (ports_at net is router)
      (all-append (IsOnPort ports) history (event ∷ []) (sound.are.on_ports router) (on, tt))
      (all-append IsOfBytes history (event ∷ []) (sound.are.of_bytes router) (of_bytes, tt)) in
      record {
        are = histories_more net histories router event sound.are within on of_bytes;
        waits =
            all-append (IsDelivery net) queue (flat_map (deliveries_of net router) sent) sound.waits
            (each_delivery net most_routes most_services (IsDelivery net) (λ s. IsBytes s.bytes) router
            (λ s to are_bytes place received. record { place = place; bytes = are_bytes }) sent bytes);
      }

  pub delivery_sound : (histories : List History) (queue : List Delivery) → Sound (record { histories = histories; queue = queue })
      → Sound (settled_one net most_routes most_services (record { histories = histories; queue = queue }))
  delivery_sound histories [] sound = sound
  delivery_sound histories (d ∷ queue) sound = search (rules, event_sound, router_there)

  pub step_sound : (run : Run) (step : Step) → IsStep net step → Sound (forgotten run) → Sound (forgotten (stepped net most_routes most_services run step))
  step_sound run (Happens router event) is_step sound =
      subst (λ (q : Queued). Sound q) (sym (events net most_routes most_services run router event None))
      (event_sound run.histories (map (λ w. w.delivery) run.waiting) router event is_step.0 is_step.1 is_step.2 sound)
  step_sound run Settles is_step sound =
      subst (λ (q : Queued). Sound q) (sym (deliveries net most_routes most_services run))
      (delivery_sound run.histories (map (λ w. w.delivery) run.waiting) sound)

  pub steps_sound : (run : Run) (steps : List Step) → AllByRecursion (IsStep net) steps → Sound (forgotten run)
      → Sound (forgotten (run_of net most_routes most_services run steps))
  steps_sound run [] all sound = sound
  steps_sound run (step ∷ steps) all sound = steps_sound (stepped net most_routes most_services run step) steps all.1 (step_sound run step all.0 sound)

  pub sound_run : (run : Run) → AreHistories net run.histories → AllByRecursion (λ w. IsDelivery net w.delivery) run.waiting → Sound (forgotten run)
  sound_run run are waits = record { are = are; waits = all_mapped (IsDelivery net) (λ (w : Waiting). w.delivery) run.waiting waits }

  unmapped : (waiting : List Waiting) → AllByRecursion (IsDelivery net) (map (λ w. w.delivery) waiting) → AllByRecursion (λ w. IsDelivery net w.delivery) waiting
  unmapped [] all = tt
  unmapped (w ∷ waiting) all = (all.0, unmapped waiting all.1)

  pub stays : (run : Run) (steps : List Step) → AreHistories net run.histories → AllByRecursion (λ w. IsDelivery net w.delivery) run.waiting
      → AllByRecursion (IsStep net) steps
      → let after = run_of net most_routes most_services run steps in AreHistories net after.histories × AllByRecursion (λ w. IsDelivery net w.delivery) after.waiting
  stays run steps are waits all =
      let sound = steps_sound run steps all (sound_run run are waits) in
      (sound.are, unmapped (run_of net most_routes most_services run steps).waiting sound.waits)

  -- ---- with deliveries enough behind them nothing waits

  record Ends (run : Run) (steps : List Step) : Type 0 where
    pub count : ℕ
    pub quiet : (run_of net most_routes most_services run (steps ++ replicate count Settles)).waiting ≡ []
    pub sound : Sound (forgotten (run_of net most_routes most_services run (steps ++ replicate count Settles)))

  ends : (run : Run) (steps : List Step) → AllByRecursion (IsStep net) steps → Sound (forgotten run) → Ends run steps
  ends run steps all sound =
      let after = run_of net most_routes most_services run steps in
      let now = steps_sound run steps all sound in
      let n = handed_out net most_routes most_services (most_rounds net) (forgotten after) in
      let last = run_of net most_routes most_services after (replicate n Settles) in
      let quiet = ap (λ (q : Queued). q.queue) (many_deliveries net most_routes most_services after n)
      ∙ enough net most_routes most_services laws is (forgotten after) now.are now.waits n (omega arith) in
      let whole = run_more run steps (replicate n Settles) in
      record {
        count = n;
        quiet = ap (λ (r : Run). r.waiting) whole ∙ none_waits last.waiting quiet;
        sound = subst (λ (r : Run). Sound (forgotten r)) (sym whole) (steps_sound after (replicate n Settles) (settles_all (IsStep net) tt n) now);
      }

  -- ---- ticks

  -- a tick, after which all is as it should be
  record Passes (run : Run) (steps : List Step) : Type 0 where
    pub count : ℕ
    pub tick : IsTick net most_routes most_services run (steps ++ replicate count Settles)
    pub sound : Sound (forgotten (run_of net most_routes most_services run (steps ++ replicate count Settles)))

  passes : (run : Run) (steps : List Step) → AllByRecursion (IsOfTick net) steps → ((router : ℕ) → router < length net → seconds_of router steps ≡ 1)
      → Sound (forgotten run) → Passes run steps
  passes run steps all each sound =
      let it = ends run steps (tick_steps steps all) sound in
      record {
        count = it.count;
        tick = record {
          passes = all-append (IsOfTick net) steps (replicate it.count Settles) all (settles_all (IsOfTick net) tt it.count);
          each = λ router within. seconds_then router steps it.count (each router within);
          quiet = it.quiet;
        };
        sound = it.sound;
      }

  passes_by : (run : Run) (order : List ℕ) → IsOrder net order → Sound (forgotten run) → Passes run (map second order)
  passes_by run order each sound =
      passes run (map second order) (seconds_of_tick order each.there) (λ router within. seconds_by router order ∙ each.once router within) sound

  pub in_between : (run : Run) (steps : List Step) → AreHistories net run.histories → AllByRecursion (λ w. IsDelivery net w.delivery) run.waiting
      → AllByRecursion (IsOfTick net) steps → ((router : ℕ) → router < length net → seconds_of router steps ≡ 1)
      → (n : ℕ) × IsTick net most_routes most_services run (steps ++ replicate n Settles)
  in_between run steps are waits all each =
      let one = passes run steps all each (sound_run run are waits) in
      (one.count, one.tick)

  pub in_order : (run : Run) (order : List ℕ) → AreHistories net run.histories → AllByRecursion (λ w. IsDelivery net w.delivery) run.waiting → IsOrder net order
      → (n : ℕ) × IsTick net most_routes most_services run (a_tick_by order n)
  in_order run order are waits each =
      let one = passes_by run order each (sound_run run are waits) in
      (one.count, one.tick)

  pub can_pass : (run : Run) → AreHistories net run.histories → AllByRecursion (λ w. IsDelivery net w.delivery) run.waiting
      → (n : ℕ) × IsTick net most_routes most_services run (a_tick (length net) n)
  can_pass run are waits = in_order run (numbers (length net)) are waits by_number

  pub can_be_busy : (run : Run) (steps : List Step) → AreHistories net run.histories → AllByRecursion (λ w. IsDelivery net w.delivery) run.waiting
      → AllByRecursion (IsStep net) steps → ((router : ℕ) → router < length net → seconds_of router steps ≡ 1)
      → (n : ℕ) × IsBusyTick net most_routes most_services run (steps ++ replicate n Settles)
  can_be_busy run steps are waits all each =
      let it = ends run steps all (sound_run run are waits) in (
        it.count,
        record {
          happens = all-append (IsStep net) steps (replicate it.count Settles) all (settles_all (IsStep net) tt it.count);
          each = λ router within. seconds_then router steps it.count (each router within);
          quiet = it.quiet;
        },
      )

  several : (n : ℕ) (run : Run) → Sound (forgotten run) → (ticks : List (List Step)) × (length ticks ≡ n) × AreTicks net most_routes most_services run ticks
  several zero run sound = ([], refl, tt)
  several (suc n) run sound =
      let one = passes_by run (numbers (length net)) by_number sound in
      let steps = a_tick (length net) one.count in
      let (ticks, as_many, are) = several n (run_of net most_routes most_services run steps) one.sound in
      (steps ∷ ticks, ap suc as_many, (one.tick, are))

  pub as_many : (run : Run) (n : ℕ) → AreHistories net run.histories → AllByRecursion (λ w. IsDelivery net w.delivery) run.waiting
      → (ticks : List (List Step)) × (length ticks ≡ n) × AreTicks net most_routes most_services run ticks
  as_many run n are waits = several n run (sound_run run are waits)
