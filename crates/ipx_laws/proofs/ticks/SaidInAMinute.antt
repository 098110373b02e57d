-- In lock step, what a router has all the time of a minute it says in that minute, and what it says is handed out.
use Rattle.std.proofs.Common.{◌≡◌, ◌≢◌, refl, sym, ap, ◌∙◌, subst, ◌⊎◌, ℕ, ◌+◌, ◌%◌, ◌<◌, ◌≤◌, true, List, [], ◌∷◌, ◌++◌, length, map, filter, flat_map, None, inl, inr, arith, get_or-set_same, get_or-set_other, length-append}
use Rattle.std.specs.List.{AllByRecursion}
use Rattle.std.proofs.lemmas.Bool.{cases_eq, eq-eqb}
use Rattle.std.proofs.lemmas.List.Elements.{filter-append}
use Rattle.std.proofs.lemmas.Nat.{mod_below}
use Rattle.ipx_router.specs.History.{Event, History, Start, Stop, Second, Packet, PortDown, PortUp, is_second, present_run, running, seconds_run}
use Rattle.ipx_router.specs.Numbers.{period}
use Rattle.ipx_router.specs.Port.{is_up}
use Rattle.ipx_router.specs.Sends.{is_periodic}
use Rattle.ipx_router.proofs.histories.OneEventMore.{present_run-more, seconds_stay, none_up}
use Rattle.ipx_router.proofs.port_values.PortOfEachNumber.{ports_up-within, one_up}
use Rattle.ipx_internet.specs.Internet.{Internet, Place, IsInternet, IsPlace}
use Rattle.ipx_internet.specs.Queue.{Delivery, Queued, deliveries_of, history_of, with_event, sends_at, queued}
use Rattle.ipx_internet.specs.Log.{Reception}
use Rattle.ipx_internet.specs.Run.{Step, Happens, Settles, IsStep, AreHistories, Run, Waiting, forgotten, stepped, run_of}
use Rattle.ipx_internet.specs.Ticks.{seconds_of}
use Rattle.ipx_internet.specs.BusyTick.{IsBusyTick}
use Rattle.ipx_internet.proofs.deliveries.QueueOfARun.{events, deliveries}
use Rattle.ipx_internet.proofs.packets.SentOnOrReply.{Layouts}
use Rattle.ipx_internet.proofs.trees.RunIsALog.{router_there}
use Rattle.ipx_laws.specs.HeardInTicks.{InSteps, InTicks}
use Rattle.ipx_laws.specs.Meanwhile.{LeavesPorts, EachTick}
use Rattle.ipx_laws.specs.Ups.{ups}
use Rattle.ipx_laws.proofs.lists.SomeElement.{AnyIs, any_in_front, any_behind}
use Rattle.ipx_laws.proofs.records.RecordsGrowOld.{passed}
use Rattle.ipx_laws.proofs.ticks.AfterRest.{Kept, steps_keep}
use Rattle.ipx_laws.proofs.ticks.TickAfterTick.{second_there}

-- the seconds of a router that runs, and goes on to run
seconds_more : (router : ℕ) (history : History) (event : Event) → LeavesPorts (Happens router event) → running history ≡ true
    → seconds_run (history ++ event ∷ []) ≡ passed event 0 + seconds_run history
seconds_more router history Second leaves runs =
    let longer = ap (λ (events : List Event). length (filter is_second events)) (present_run-more history Second refl runs)
    ∙ ap length (filter-append is_second (present_run history) (Second ∷ []))
    ∙ length-append (filter is_second (present_run history)) (Second ∷ []) in
    let one : seconds_run (history ++ Second ∷ []) ≡ seconds_run history + 1 = longer in
    omega (arith, one)
seconds_more router history (Packet number bytes) leaves runs =
    let same = seconds_stay history (Packet number bytes) refl refl runs in
    omega (arith, same)
seconds_more router history Start leaves runs = absurd leaves
seconds_more router history Stop leaves runs = absurd leaves
seconds_more router history (PortDown number) leaves runs = absurd leaves
seconds_more router history (PortUp number) leaves runs = absurd leaves

module _ (net : Internet) (laws : Layouts) (is : IsInternet net) (most_routes most_services : ℕ) (up : ℕ → List ℕ) where
  abbrev pub Stay : List History → Type 0
  Stay histories = (router : ℕ) → ups net histories router ≡ up router

  pub is_place : (histories : List History) → Stay histories → (place : Place) → is_up (up place.router) place.port ≡ true → IsPlace net place
  is_place histories stay place on = grind (arith, one_up, ports_up-within)

  pub runs_there : (histories : List History) → Stay histories → (place : Place) → is_up (up place.router) place.port ≡ true
      → running (history_of histories place.router) ≡ true
  runs_there histories stay place on = grind (arith, none_up)

  abbrev pub IsKept : Run → Type 0
  IsKept run = Kept net laws is most_routes most_services up (forgotten run)

module _ (net : Internet) (laws : Layouts) (is : IsInternet net) (most_routes most_services : ℕ) (up : ℕ → List ℕ) (from : Place)
    (on : is_up (up from.router) from.port ≡ true) (Has : History → Type 0) (Names : Delivery → Type 0)
    (says : (histories : List History) → AreHistories net histories → Stay net laws is most_routes most_services up histories
    → running (history_of histories from.router) ≡ true → is_periodic (history_of histories from.router) ≡ true → Has (history_of histories from.router ++ Second ∷ [])
    → AnyIs Names (flat_map (deliveries_of net from.router) (sends_at net most_routes most_services histories from.router Second))) where
  abbrev Remain : List History → Type 0
  Remain = Stay net laws is most_routes most_services up

  abbrev Held : Run → Type 0
  Held = IsKept net laws is most_routes most_services up

  -- the router has it
  abbrev Holds : Run → Type 0
  Holds run = Has (history_of run.histories from.router)

  -- before the first of some steps and after each
  abbrev pub HasAlong : Run → List Step → Type 0
  HasAlong run [] = Holds run
  HasAlong run (step ∷ steps) = Holds run × HasAlong (stepped net most_routes most_services run step) steps

  has_first : (run : Run) (steps : List Step) → HasAlong run steps → Holds run
  has_first run [] has = has
  has_first run (step ∷ steps) has = has.0

  -- such a delivery is handed out
  abbrev pub HandsOut : Run → Step → Type 0
  HandsOut run (Happens router event) = ⊥
  HandsOut run Settles = (d : Delivery) × (rest : List Delivery) × ((forgotten run).queue ≡ d ∷ rest) × Names d × Held run

  abbrev HandedIn : (Run → Type 0) → Run → List Step → Type 0
  HandedIn = InSteps net most_routes most_services HandsOut

  abbrev pub HandedInTicks : Run → List (List Step) → Type 0
  HandedInTicks = InTicks net most_routes most_services HandsOut

  runs : (histories : List History) → Remain histories → running (history_of histories from.router) ≡ true
  runs histories stay = runs_there net laws is most_routes most_services up histories stay from on

  from_there : (histories : List History) → Remain histories → from.router < length net
  from_there histories stay = router_there net from.router from.port (is_place net laws is most_routes most_services up histories stay from on)

  -- ---- one event

  abbrev clock : List History → ℕ
  clock histories = seconds_run (history_of histories from.router) % period

  -- the neighbour's periodic second is due in this tick
  abbrev Due : ℕ → List History → Type 0
  Due left histories = (clock histories + 1 ≡ period) × (left ≡ 1)

  -- or what it says waits
  abbrev State : ℕ → Queued → Type 0
  State left q = Due left q.histories ⊎ AnyIs Names q.queue

  module _ (histories : List History) (queue : List Delivery) (are : AreHistories net histories) (stay : Remain histories) where
    abbrev past : History
    past = history_of histories from.router

    listed : from.router < length histories
    listed = grind (arith, from_there)

    -- one of the neighbour's own
    own_state : (event : Event) (left rest : ℕ) → LeavesPorts (Happens from.router event) → left ≡ passed event 0 + rest
        → Has (past ++ event ∷ [])
        → Due left histories
        → (seconds_run (past ++ event ∷ []) % period + 1 ≡ period) × (rest ≡ 1)
        ⊎ AnyIs Names (flat_map (deliveries_of net from.router) (sends_at net most_routes most_services histories from.router event))
    own_state Second left rest leaves same holds due =
        let last = due.0 in
        let next : (seconds_run past + 1) % period ≡ 0 = omega (arith, last) in
        inr (says histories are stay (runs histories stay) (eq-eqb ((seconds_run past + 1) % period) 0 next) holds)
    own_state (Packet number bytes) left rest leaves same holds due =
        let more = seconds_more from.router past (Packet number bytes) leaves (runs histories stay) in
        let last = due.0 in
        let one = due.1 in
        let as_many : seconds_run (past ++ Packet number bytes ∷ []) ≡ seconds_run past = omega (arith, more) in
        inl (ap (λ n. n % period + 1) as_many ∙ last, omega (arith, same, one))
    own_state Start left rest leaves same holds due = absurd leaves
    own_state Stop left rest leaves same holds due = absurd leaves
    own_state (PortDown number) left rest leaves same holds due = absurd leaves
    own_state (PortUp number) left rest leaves same holds due = absurd leaves

    -- one of any router's
    event_state : (k : ℕ) (event : Event) (left rest : ℕ) → LeavesPorts (Happens k event) → (from.router ≡ k → left ≡ passed event 0 + rest)
        → (from.router ≢ k → left ≡ rest)
        → Has (history_of (with_event histories k event) from.router)
        → State left (record { histories = histories; queue = queue })
        → State rest (queued net most_routes most_services (record { histories = histories; queue = queue }) k event)
    event_state k event left rest leaves own other holds (inr any) =
        inr (any_in_front Names queue (flat_map (deliveries_of net k) (sends_at net most_routes most_services histories k event)) any)
    event_state k event left rest leaves own other holds (inl due) = elim (cases_eq from.router k) [
      | inr off ↦
          let same = other off in
          let one = due.1 in
          let stays = get_or-set_other histories k from.router (history_of histories k ++ event ∷ []) [] off in
          inl (ap (λ (h : History). seconds_run h % period + 1) stays ∙ due.0, omega (arith, same, one))
      | inl here_now ↦ moved here_now leaves (own here_now) holds
    ]
      where
        Own : ℕ → Type 0
        Own r = LeavesPorts (Happens r event) → left ≡ passed event 0 + rest
            → Has (history_of (with_event histories r event) from.router)
            → State rest (queued net most_routes most_services (record { histories = histories; queue = queue }) r event)

        at_from : Own from.router
        at_from leave same has =
            let is_now = get_or-set_same histories from.router (past ++ event ∷ []) [] listed in
            elim (own_state event left rest leave same
            (subst Has is_now has) due) [
              | inl later ↦ inl (ap (λ (h : History). seconds_run h % period + 1) is_now ∙ later.0, later.1)
              | inr waits ↦
                  inr (any_behind Names queue (flat_map (deliveries_of net from.router) (sends_at net most_routes most_services histories from.router event)) waits)
            ]

        moved : from.router ≡ k → Own k
        moved e = subst Own e at_from

    -- how many seconds the neighbour has had
    event_counts : (k : ℕ) (event : Event) (left rest : ℕ) → LeavesPorts (Happens k event) → (from.router ≡ k → left ≡ passed event 0 + rest)
        → (from.router ≢ k → left ≡ rest)
        → seconds_run (history_of (with_event histories k event) from.router) + rest ≡ seconds_run past + left
    event_counts k event left rest leaves own other = elim (cases_eq from.router k) [
      | inr off ↦
          let same = other off in
          let stays = ap (λ (h : History). seconds_run h) (get_or-set_other histories k from.router (history_of histories k ++ event ∷ []) [] off) in
          omega (arith, same, stays)
      | inl here_now ↦ moved here_now leaves (own here_now)
    ]
      where
        Own : ℕ → Type 0
        Own r = LeavesPorts (Happens r event) → left ≡ passed event 0 + rest
            → seconds_run (history_of (with_event histories r event) from.router) + rest ≡ seconds_run past + left

        at_from : Own from.router
        at_from leave same =
            let is_now = ap (λ (h : History). seconds_run h) (get_or-set_same histories from.router (past ++ event ∷ []) [] listed) in
            let more = seconds_more from.router past event leave (runs histories stay) in
            omega (arith, is_now, more, same)

        moved : from.router ≡ k → Own k
        moved e = subst Own e at_from

  -- ---- one tick

  abbrev left_of : List Step → ℕ
  left_of steps = seconds_of from.router steps

  own_of : (k : ℕ) (event : Event) (steps : List Step) → from.router ≡ k → left_of (Happens k event ∷ steps) ≡ passed event 0 + left_of steps
  own_of k event steps same = grind arith

  other_of : (k : ℕ) (event : Event) (steps : List Step) → from.router ≢ k → left_of (Happens k event ∷ steps) ≡ left_of steps
  other_of k event steps off = second_there k from.router event steps off

  step_keeps : (run : Run) (step : Step) → IsStep net step → LeavesPorts step → Held run → Held (stepped net most_routes most_services run step)
  step_keeps run step is_step leaves kept = steps_keep net laws is most_routes most_services up run (step ∷ []) (is_step, tt) (leaves, tt) kept

  -- the first that waits is handed out
  settles_state : (histories : List History) (waiting : List Waiting) (log : List Reception) (left : ℕ)
      → Held (record { histories = histories; waiting = waiting; log = log })
      → Holds (stepped net most_routes most_services (record { histories = histories; waiting = waiting; log = log }) Settles)
      → State left (forgotten (record { histories = histories; waiting = waiting; log = log }))
      → HandsOut (record { histories = histories; waiting = waiting; log = log }) Settles
      ⊎ State left (forgotten (stepped net most_routes most_services (record { histories = histories; waiting = waiting; log = log }) Settles))
  settles_state histories [] log left kept holds state = inr state
  settles_state histories (w ∷ waiting) log left kept holds state = by state
    where
      run : Run
      run = record { histories = histories; waiting = w ∷ waiting; log = log }

      rest : List Delivery
      rest = map (λ (x : Waiting). x.delivery) waiting

      goes_on : State left (record { histories = histories; queue = rest })
          → State left (forgotten (stepped net most_routes most_services (record { histories = histories; waiting = w ∷ waiting; log = log }) Settles))
      goes_on now =
          subst (λ (q : Queued). State left q) (sym (deliveries net most_routes most_services (record { histories = histories; waiting = w ∷ waiting; log = log })))
          (event_state histories rest kept.sound.are kept.stay w.delivery.to.router (Packet w.delivery.to.port w.delivery.bytes) left left tt
          (λ same. omega arith) (λ off. refl) holds now)

      by : State left (forgotten (record { histories = histories; waiting = w ∷ waiting; log = log }))
          → HandsOut (record { histories = histories; waiting = w ∷ waiting; log = log }) Settles
          ⊎ State left (forgotten (stepped net most_routes most_services (record { histories = histories; waiting = w ∷ waiting; log = log }) Settles))
      by (inl due) = inr (goes_on (inl due))
      by (inr (inl names)) = inl (w.delivery, rest, refl, names, kept)
      by (inr (inr any)) = inr (goes_on (inr any))

  none_wait : (waiting : List Waiting) → waiting ≡ [] → AnyIs Names (map (λ w. w.delivery) waiting) → ⊥
  none_wait waiting none any = grind arith

  steps_say : (Later : Run → Type 0) (steps : List Step) (run : Run) → AllByRecursion (IsStep net) steps → AllByRecursion LeavesPorts steps → Held run
      → HasAlong run steps → (run_of net most_routes most_services run steps).waiting ≡ []
      → State (left_of steps) (forgotten run) → HandedIn Later run steps
  steps_say Later [] run are leave kept holds quiet (inl due) = let one = due.1 in absurd (omega (arith, one))
  steps_say Later [] run are leave kept holds quiet (inr any) = absurd (none_wait run.waiting quiet any)
  steps_say Later (Happens k event ∷ steps) run are leave kept holds quiet state =
      let next = stepped net most_routes most_services run (Happens k event) in
      let now = event_state run.histories (map (λ w. w.delivery) run.waiting) kept.sound.are kept.stay k event (left_of (Happens k event ∷ steps)) (left_of steps) leave.0
      (own_of k event steps) (other_of k event steps) (has_first next steps holds.1) state in
      inr (steps_say Later steps next are.1 leave.1 (step_keeps run (Happens k event) are.0 leave.0 kept) holds.1 quiet
      (subst (λ (q : Queued). State (left_of steps) q) (sym (events net most_routes most_services run k event None)) now))
  steps_say Later (Settles ∷ steps) run are leave kept holds quiet state =
      let next = stepped net most_routes most_services run Settles in
      elim (settles_state run.histories run.waiting run.log (left_of steps) kept (has_first next steps holds.1) state) [
        | inl now ↦ inl now
        | inr later ↦ inr (steps_say Later steps next are.1 leave.1 (step_keeps run Settles are.0 leave.0 kept) holds.1 quiet later)
      ]

  -- ---- ticks

  later_says : (Later : Run → Type 0) (steps : List Step) (run : Run) → Later (run_of net most_routes most_services run steps)
      → HandedIn Later run steps
  later_says Later [] run later = later
  later_says Later (step ∷ steps) run later = inr (later_says Later steps (stepped net most_routes most_services run step) later)

  steps_count : (steps : List Step) (run : Run) → AllByRecursion (IsStep net) steps → AllByRecursion LeavesPorts steps → Held run
      → seconds_run (history_of (run_of net most_routes most_services run steps).histories from.router)
      ≡ seconds_run (history_of run.histories from.router) + left_of steps
  steps_count [] run are leave kept = omega arith
  steps_count (Happens k event ∷ steps) run are leave kept =
      let next = stepped net most_routes most_services run (Happens k event) in
      let rest = steps_count steps next are.1 leave.1 (step_keeps run (Happens k event) are.0 leave.0 kept) in
      let now = event_counts run.histories [] kept.sound.are kept.stay k event (left_of (Happens k event ∷ steps)) (left_of steps) leave.0
      (own_of k event steps) (other_of k event steps) in
      rest ∙ now
  steps_count (Settles ∷ steps) run are leave kept =
      let next = stepped net most_routes most_services run Settles in
      steps_count steps next are.1 leave.1 (step_keeps run Settles are.0 leave.0 kept) ∙ ap (λ n. n + left_of steps) (settles_count run.histories run.waiting run.log kept)
    where
      settles_count : (histories : List History) (waiting : List Waiting) (log : List Reception)
          → Held (record { histories = histories; waiting = waiting; log = log })
          → seconds_run (history_of (stepped net most_routes most_services (record { histories = histories; waiting = waiting; log = log }) Settles).histories from.router)
          ≡ seconds_run (history_of histories from.router)
      settles_count histories [] log kept = refl
      settles_count histories (w ∷ waiting) log kept =
          let now = event_counts histories [] kept.sound.are kept.stay w.delivery.to.router (Packet w.delivery.to.port w.delivery.bytes) 0 0 tt
          (λ same. omega arith) (λ off. refl) in
          omega (arith, now)

  pub said_once : (run : Run) (ticks : List (List Step)) → Held run → period ≤ clock run.histories + length ticks
      → EachTick net most_routes most_services (IsBusyTick net most_routes most_services) run ticks → AllByRecursion (AllByRecursion LeavesPorts) ticks
      → EachTick net most_routes most_services HasAlong run ticks
      → HandedInTicks run ticks
  said_once run [] kept long busy leave holds =
      let below = mod_below (seconds_run (history_of run.histories from.router)) period (omega arith) in
      absurd (omega (arith, long, below))
  said_once run (steps ∷ ticks) kept long busy leave holds =
      let one = busy.0.each from.router (from_there run.histories kept.stay) in
      elim (cases_eq (clock run.histories + 1) period) [
        | inl last ↦
            steps_say (λ next. HandedInTicks next ticks) steps run busy.0.happens leave.0 kept holds.0 busy.0.quiet
            (inl (last, one))
        | inr early ↦
            let next = run_of net most_routes most_services run steps in
            let below = mod_below (seconds_run (history_of run.histories from.router)) period (omega arith) in
            let count = steps_count steps run busy.0.happens leave.0 kept in
            let more : clock next.histories ≡ clock run.histories + 1 = omega (arith, count, one, early, below) in
            later_says (λ now. HandedInTicks now ticks) steps run
            (said_once next ticks (steps_keep net laws is most_routes most_services up run steps busy.0.happens leave.0 kept) (omega (arith, more, long))
            busy.1 leave.1 holds.1)
      ]
