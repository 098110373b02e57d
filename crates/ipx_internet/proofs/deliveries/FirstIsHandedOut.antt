-- The first delivery that waits is handed out to its router.
use Rattle.std.proofs.lemmas.Grind.{common_steps}
use Rattle.std.proofs.Common.{◌≡◌, refl, sym, ap, ◌∙◌, subst, ℕ, ◌+◌, ◌<◌, ◌≤◌, List, [], ◌∷◌, ◌++◌, length, drop, slice_get, Some, Result, OnErr, arith}
use Rattle.std.specs.List.{AllByRecursion}
use Rattle.std.proofs.lemmas.List.{drop_more, length-map}
use Rattle.std.proofs.lemmas.Option.{slice_get_within, get_or_from_slice_get}
use Rattle.ipx_wire.specs.Piece.{IsBytes}
use Rattle.ipx_router.specs.History.{Packet}
use Rattle.ipx_router.specs.Stands.{State}
use Rattle.ipx_internet.specs.Internet.{Internet, ports_of}
use Rattle.ipx_internet.specs.Moment.{Moment, StandsFor, IsThere, net_at}
use Rattle.ipx_internet.specs.Queue.{Delivery, Queued, queued, settled_one}
use Rattle.ipx_internet.specs.Rounds.{IsDelivery}
use Rattle.ipx_internet.specs.inside.Simulated.{moment, net_among, AreRouters, IsSimulated}
use Rattle.ipx_internet.specs.declared.stations.Station.{Station}
use Rattle.ipx_internet.proofs.deliveries.AllThatWaitsStands.{all_front, all_behind}
use Rattle.ipx_internet.proofs.lists.EachElement.{all-append}

-- ---- lists

module _ {X : Type 0} where
  -- what is there stands first behind those before it
  pub first_left : (xs : List X) (k : ℕ) (x : X) → slice_get xs k ≡ Some x → drop k xs ≡ x ∷ drop (k + 1) xs
  first_left xs k x got =
      drop_more xs k x (slice_get_within xs k x got) ∙ ap (λ y. y ∷ drop (k + 1) xs) (get_or_from_slice_get xs k x x got)

-- ---- where a place is

pub within_net : (net : Internet) (router port : ℕ) → port < length (ports_of net router) → router < length net
within_net net router port less = grind (arith, common_steps)

-- where something waits, there is a router
pub some_router : (routers : List State) (queue : List Delivery) → AllByRecursion (IsDelivery (net_among routers)) queue → 0 < length queue → 0 < length routers
some_router routers [] coming waits = absurd (omega (arith, waits))
some_router routers (d ∷ queue) coming waits = grind (arith, within_net, length-map)

-- ---- what is handed out

module _ (most_routes most_services : ℕ) (routers : List State) (front back : List Delivery) (done : ℕ) (d : Delivery) (got : slice_get front done ≡ Some d) where
  abbrev net : Internet
  net = net_among routers

  abbrev rest : List Delivery
  rest = drop (done + 1) front

  pub first : drop done front ++ back ≡ d ∷ (rest ++ back)
  first = ap (λ ds. ds ++ back) (first_left front done d got)

  -- its router has the port
  pub it_is_there : AllByRecursion (IsDelivery net) (drop done front ++ back) → (bytes : List ℕ) → IsThere (moment routers []) d.to.router (Packet d.to.port bytes)
  it_is_there coming bytes = grind (arith, first, within_net, length-map)

  -- and it is bytes
  pub it_is_bytes : AllByRecursion (IsDelivery net) (drop done front ++ back) → IsBytes d.bytes
  it_is_bytes coming = (subst (λ ds. AllByRecursion (IsDelivery net) ds) first coming).0.bytes

  -- so is what is left
  pub left_coming : AllByRecursion (IsDelivery net) (drop done front ++ back) → AllByRecursion (IsDelivery net) rest
  left_coming coming = all_front (IsDelivery net) rest back (subst (λ ds. AllByRecursion (IsDelivery net) ds) first coming).1

  -- what is settled by it
  next_is : (q : Queued) → q.queue ≡ drop done front ++ back → settled_one net most_routes most_services q
      ≡ queued net most_routes most_services (record { histories = q.histories; queue = rest ++ back }) d.to.router (Packet d.to.port d.bytes)
  next_is q is = ap (λ ds. settled_one net most_routes most_services (record { histories = q.histories; queue = ds })) (is ∙ first)

  pub settled_next : (after : List State) (later : List Delivery)
      → ((before : List Delivery) (q : Queued) → StandsFor most_routes most_services (moment routers (before ++ back)) q
      → StandsFor most_routes most_services (moment after (before ++ later)) (queued net most_routes most_services q d.to.router (Packet d.to.port d.bytes)))
      → (q : Queued) → StandsFor most_routes most_services (moment routers (drop done front ++ back)) q
      → StandsFor most_routes most_services (moment after (rest ++ later)) (settled_one net most_routes most_services q)
  settled_next after later step q stands =
      subst (λ p. StandsFor most_routes most_services (moment after (rest ++ later)) p) (sym (next_is q (sym stands.queue)))
      (step rest (record { histories = q.histories; queue = rest ++ back })
      (record { each = stands.each; routers = stands.routers; queue = refl }))

-- ---- what is kept

module _ (most_routes most_services : ℕ) (routers after : List State) (list : List Station) (front back later : List Delivery) (done : ℕ) where
  pub still_simulated : AreRouters most_routes most_services after list → net_among after ≡ net_among routers
      → AllByRecursion (IsDelivery (net_among routers)) (drop done front)
      → AllByRecursion (IsDelivery (net_among routers)) later → done ≤ length front → IsSimulated most_routes most_services after list front done later
  still_simulated are same coming more within = grind (arith, all-append)

pub coming_front : (net : Internet) (front back : List Delivery) → AllByRecursion (IsDelivery net) (front ++ back) → AllByRecursion (IsDelivery net) front
coming_front net front back all = all_front (IsDelivery net) front back all

pub coming_behind : (net : Internet) (front back : List Delivery) → AllByRecursion (IsDelivery net) (front ++ back) → AllByRecursion (IsDelivery net) back
coming_behind net front back all = all_behind (IsDelivery net) front back all

pub at_error : {T E : Type 0} {X : Type 0} (r : Result T E) → X → OnErr r X
at_error r holds = grind arith

-- the same, of a moment that is given
pub at_moment : (most_routes most_services : ℕ) (m n o : Moment) → m ≡ n
    → ((q : Queued) → StandsFor most_routes most_services m q → StandsFor most_routes most_services o (settled_one (net_at m) most_routes most_services q))
    → (q : Queued) → StandsFor most_routes most_services n q → StandsFor most_routes most_services o (settled_one (net_at n) most_routes most_services q)
at_moment most_routes most_services m n o is step = grind arith
