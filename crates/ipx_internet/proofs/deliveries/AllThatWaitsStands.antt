-- What holds of what an event adds to the queue holds of all that waits then, and all of it stands for that event more.
use Rattle.std.proofs.Common.{◌≡◌, sym, subst, ℕ, List, [], ◌∷◌, ◌++◌, arith}
use Rattle.std.specs.List.{AllByRecursion}
use Rattle.ipx_router.specs.History.{Event}
use Rattle.ipx_router.specs.Stands.{State}
use Rattle.ipx_internet.specs.Internet.{Internet}
use Rattle.ipx_internet.specs.Moment.{Moment, StandsFor, net_at}
use Rattle.ipx_internet.specs.Queue.{Delivery, Queued, queued}
use Rattle.ipx_internet.specs.Rounds.{IsDelivery}
use Rattle.ipx_internet.specs.inside.Simulated.{moment, net_among}
use Rattle.ipx_internet.proofs.lists.EachElement.{all-append}

module _ {X : Type 0} (P : X → Type 0) where
  pub all_front : (xs ys : List X) → AllByRecursion P (xs ++ ys) → AllByRecursion P xs
  all_front [] ys all = tt
  all_front (x ∷ xs) ys all = (all.0, all_front xs ys all.1)

  pub all_behind : (xs ys : List X) → AllByRecursion P (xs ++ ys) → AllByRecursion P ys
  all_behind [] ys all = all
  all_behind (x ∷ xs) ys all = all_behind xs ys all.1

-- what waited still comes to a port that there is, where what was added does
pub still_coming : (net new_net : Internet) (front back new_back : List Delivery) → new_net ≡ net → AllByRecursion (IsDelivery net) (front ++ back)
    → (AllByRecursion (IsDelivery net) back → AllByRecursion (IsDelivery net) new_back) → AllByRecursion (IsDelivery new_net) (front ++ new_back)
still_coming net new_net front back new_back same all added = grind (arith, all-append, all_front, all_behind)

-- what the routers stand for after an event, over all that waits
pub stands_then : (most_routes most_services : ℕ) (routers new_routers : List State) (front back new_back : List Delivery) (old : Moment)
    (router : ℕ) (event : Event)
    → moment routers (front ++ back) ≡ old
    → ((before : List Delivery) (q : Queued) → StandsFor most_routes most_services (moment routers (before ++ back)) q
    → StandsFor most_routes most_services (moment new_routers (before ++ new_back)) (queued (net_among routers) most_routes most_services q router event))
    → (q : Queued) → StandsFor most_routes most_services old q
    → StandsFor most_routes most_services (moment new_routers (front ++ new_back)) (queued (net_at old) most_routes most_services q router event)
stands_then most_routes most_services routers new_routers front back new_back old router event view then q stands =
    subst (λ m. StandsFor most_routes most_services (moment new_routers (front ++ new_back)) (queued (net_at m) most_routes most_services q router event)) view
    (then front q (subst (λ m. StandsFor most_routes most_services m q) (sym view) stands))
