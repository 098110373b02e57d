-- The weight of an internet is that of the histories that its routers stand for, and falls with each delivery.
use Rattle.std.proofs.Common.{◌≡◌, refl, sym, ap, ap₂, ◌∙◌, subst, ℕ, zero, suc, ◌+◌, ◌<◌, List, [], ◌∷◌, length, slice_get, Some, arith}
use Rattle.std.specs.List.{AllByRecursion, sum_by}
use Rattle.std.proofs.lemmas.List.{length-map, get_or-map}
use Rattle.std.proofs.lemmas.List.Sums.{sum_by-cons, sum_by_push}
use Rattle.std.proofs.lemmas.Option.{get_or_from_slice_get, slice_get_within}
use Rattle.ipx_router.specs.Facts.{routes_held, services_held}
use Rattle.ipx_router.specs.History.{History, IsOnPort, IsOfBytes}
use Rattle.ipx_router.specs.Port.{Port, numbers}
use Rattle.ipx_router.specs.RouterOf.{HasPast}
use Rattle.ipx_router.specs.Stands.{State, StandsFor as RouterStandsFor}
use Rattle.ipx_internet.specs.Internet.{Internet, ports_of}
use Rattle.ipx_internet.specs.InternetWeight.{delivery_weight, weight_of, records_of, queued_weight, internet_weight}
use Rattle.ipx_internet.specs.Moment.{Moment, StandsFor, net_at}
use Rattle.ipx_internet.specs.Queue.{Delivery, Queued, history_of, settled_one}
use Rattle.ipx_internet.specs.Rounds.{IsDelivery}
use Rattle.ipx_internet.specs.Run.{AreHistories}
use Rattle.ipx_internet.specs.Settled.{HasSettled, IsToldOf}
use Rattle.ipx_internet.specs.inside.Simulated.{moment, net_among}
use Rattle.ipx_internet.specs.declared.internet.Settled.{Settled}
use Rattle.ipx_internet.specs.declared.internet.Settled.TheVariants.{Quiet}
use Rattle.ipx_internet.proofs.lists.FoundInAList.{nothing, it_is}
use Rattle.ipx_internet.proofs.weights.PagesAtTheirProcess.{at_least_one}

-- ---- sums by number

first_apart : (f : ℕ → ℕ) (n : ℕ) → sum_by f (numbers (suc n)) ≡ f 0 + sum_by (λ k. f (suc k)) (numbers n)
first_apart f zero = let one = sum_by-cons f 0 [] in omega (arith, one)
first_apart f (suc n) = omega (arith, first_apart f n, sum_by_push)

counted : (count : State → ℕ) (f : ℕ → ℕ) (states : List State) → ((k : ℕ) (s : State) → slice_get states k ≡ Some s → count s ≡ f k)
    → sum_by count states ≡ sum_by f (numbers (length states))
counted count f [] at = refl
counted count f (s ∷ states) at =
    let sum = sum_by-cons count s states in
    let first = at 0 s refl in
    let rest = counted count (λ k. f (suc k)) states (λ k t there. at (suc k) t there) in
    let parts = first_apart f (length states) in
    omega (arith, sum, first, rest, parts)

module _ (most_routes most_services : ℕ) where
  -- ---- histories that routers stand for

  abbrev pub pasts : (states : List State) → AllByRecursion (HasPast most_routes most_services) states → List History
  pasts [] all = []
  pasts (s ∷ states) all = all.0.past ∷ pasts states all.1

  as_many : (states : List State) (all : AllByRecursion (HasPast most_routes most_services) states) → length (pasts states all) ≡ length states
  as_many [] all = refl
  as_many (s ∷ states) all = ap suc (as_many states all.1)

  each_stands : (states : List State) (all : AllByRecursion (HasPast most_routes most_services) states) (k : ℕ) (s : State) → slice_get states k ≡ Some s
      → RouterStandsFor most_routes most_services s (history_of (pasts states all) k)
  each_stands [] all k s there = nothing there
  each_stands (x ∷ states) all zero s there = it_is (λ z. RouterStandsFor most_routes most_services z all.0.past) s x there all.0.stands
  each_stands (x ∷ states) all (suc k) s there = each_stands states all.1 k s there

  on_ports : (states : List State) (all : AllByRecursion (HasPast most_routes most_services) states) (k : ℕ)
      → AllByRecursion (IsOnPort (ports_of (net_among states) k)) (history_of (pasts states all) k)
  on_ports [] all k = tt
  on_ports (x ∷ states) all zero = all.0.on_ports
  on_ports (x ∷ states) all (suc k) = on_ports states all.1 k

  of_bytes : (states : List State) (all : AllByRecursion (HasPast most_routes most_services) states) (k : ℕ)
      → AllByRecursion IsOfBytes (history_of (pasts states all) k)
  of_bytes [] all k = tt
  of_bytes (x ∷ states) all zero = all.0.of_bytes
  of_bytes (x ∷ states) all (suc k) = of_bytes states all.1 k

  pub are_pasts : (states : List State) (all : AllByRecursion (HasPast most_routes most_services) states) → AreHistories (net_among states) (pasts states all)
  are_pasts states all = grind (arith, as_many, length-map, on_ports, of_bytes)

  pub pasts_stand : (states : List State) (all : AllByRecursion (HasPast most_routes most_services) states) (queue : List Delivery)
      → StandsFor most_routes most_services (moment states queue) (record { histories = pasts states all; queue = queue })
  pasts_stand states all queue = record { each = as_many states all; routers = each_stands states all; queue = refl }

  -- ---- they weigh the same

  pub weighs_as : (m : Moment) (q : Queued) → StandsFor most_routes most_services m q
      → internet_weight most_routes most_services m ≡ queued_weight (net_at m) most_routes most_services q
  weighs_as m q stands =
      ap₂ (weight_of (net_at m) most_routes most_services)
      (counted (λ s. length s.routes + length s.services) (records_of (net_at m) most_routes most_services q.histories) m.routers one
      ∙ ap (λ (n : ℕ). sum_by (records_of (net_at m) most_routes most_services q.histories) (numbers n)) (sym (length-map m.routers (λ (s : State). s.ports))))
      stands.queue
    where
      held : List Port → History → ℕ
      held ports history = length (routes_held ports most_routes history) + length (services_held ports most_services history)

      one : (k : ℕ) (s : State) → slice_get m.routers k ≡ Some s → length s.routes + length s.services ≡ records_of (net_at m) most_routes most_services q.histories k
      one k s there =
          let ports : ports_of (net_at m) k ≡ s.ports =
          get_or-map (λ (s : State). s.ports) m.routers k s [] (slice_get_within m.routers k s there)
          ∙ ap (λ (s : State). s.ports) (get_or_from_slice_get m.routers k s s there) in
          let is = stands.routers k s there in
          ap₂ (λ (a b : ℕ). a + b) (ap length is.routes_stand) (ap length is.services_stand)
          ∙ ap (λ (ports : List Port). held ports (history_of q.histories k)) (sym ports)

  -- ---- one delivery

  pub falls_at : (net : Internet)
      → ((histories : List History) (d : Delivery) (queue : List Delivery) → AreHistories net histories → IsDelivery net d
      → queued_weight net most_routes most_services (settled_one net most_routes most_services (record { histories = histories; queue = d ∷ queue }))
      < queued_weight net most_routes most_services (record { histories = histories; queue = d ∷ queue }))
      → (old new : Moment) → net_at old ≡ net → net_at new ≡ net → AllByRecursion (HasPast most_routes most_services) old.routers
      → HasSettled most_routes most_services 1 old new → (d : Delivery) (queue : List Delivery) → old.queue ≡ d ∷ queue → IsDelivery net d
      → internet_weight most_routes most_services new < internet_weight most_routes most_services old
  falls_at net falls old new of_old of_new all settles d queue first is =
      let histories = pasts old.routers all in
      let before : Queued = record { histories = histories; queue = old.queue } in
      let stands : StandsFor most_routes most_services old before = pasts_stand old.routers all old.queue in
      let after = settled_one (net_at old) most_routes most_services before in
      let weighed = weighs_as old before stands in
      let weighed_then = weighs_as new after (settles before stands) in
      let are : AreHistories net histories = subst (λ (n : Internet). AreHistories n histories) of_old (are_pasts old.routers all) in
      let Falls : List Delivery → Type 0 = λ ds.
      queued_weight net most_routes most_services (settled_one net most_routes most_services (record { histories = histories; queue = ds }))
      < queued_weight net most_routes most_services (record { histories = histories; queue = ds }) in
      let less = subst Falls (sym first) (falls histories d queue are is) in
      let same = ap (λ (n : Internet). queued_weight n most_routes most_services before) of_old in
      let same_then = ap₂ (λ (n o : Internet). queued_weight n most_routes most_services (settled_one o most_routes most_services before)) of_new of_old in
      omega (arith, weighed, weighed_then, less, same, same_then)

  -- nothing waits in an internet that weighs nothing
  pub weightless : (m : Moment) → internet_weight most_routes most_services m ≡ 0 → m.queue ≡ []
  weightless m none = by m.queue (omega (arith, none))
    where
      by : (queue : List Delivery) → sum_by (delivery_weight (net_at m) most_routes most_services) queue ≡ 0 → queue ≡ []
      by [] none = refl
      by (d ∷ queue) none =
          let sum = sum_by-cons (delivery_weight (net_at m) most_routes most_services) d queue in
          let some = at_least_one (net_at m) most_routes most_services d in
          absurd (omega (arith, none, sum, some))

-- so it is told
pub quiet_told : (queue : List Delivery) (s : Settled) → IsToldOf queue s → queue ≡ [] → s ≡ Quiet
quiet_told queue s told none = grind arith
