-- The routers of an internet that stands for histories, as a tree sees them.
use Rattle.std.proofs.Common.{◌≡◌, refl, sym, ap, ap₂, ◌∙◌, ℕ, zero, suc, List, [], ◌∷◌, length, map, slice_get, Some, subst, arith}
use Rattle.std.proofs.lemmas.List.{length-map, map-append, get_or-map}
use Rattle.std.proofs.lemmas.Option.{get_or_from_slice_get, slice_get_within}
use Rattle.std.specs.List.{AllByRecursion}
use Rattle.ipx_router.specs.History.{History, IsOnPort}
use Rattle.ipx_router.specs.Port.{Port, numbers}
use Rattle.ipx_router.specs.RouterOf.{HasPast}
use Rattle.ipx_router.specs.Stands.{State, StandsFor as RouterStandsFor}
use Rattle.ipx_internet.specs.Internet.{ports_of}
use Rattle.ipx_internet.specs.Moment.{Moment, StandsFor, net_at}
use Rattle.ipx_internet.specs.Queue.{Queued, history_of}
use Rattle.ipx_internet.specs.Traced.{router_of, routers_of, routers_after}
use Rattle.ipx_internet.specs.Tree.{Router, router_now, IsRouter}

-- a router that stands for a history is as it is after it
pub stands_now : (most_routes most_services : ℕ) (s : State) (history : History) → RouterStandsFor most_routes most_services s history
    → router_of s ≡ router_now s.ports most_routes history
stands_now most_routes most_services s history stands = grind arith

-- the numbers from the front
pub numbers_front : (n : ℕ) → numbers (suc n) ≡ 0 ∷ map suc (numbers n)
numbers_front zero = refl
numbers_front (suc n) = grind (arith, numbers_front n, map-append)

module _ {X : Type 0} where
  pub joint : (f : ℕ → X) (ns : List ℕ) → map f (map suc ns) ≡ map (λ n. f (suc n)) ns
  joint f [] = refl
  joint f (n ∷ ns) = ap (λ (xs : List X). f (suc n) ∷ xs) (joint f ns)

module _ (most_routes most_services : ℕ) (m : Moment) (q : Queued) (stands : StandsFor most_routes most_services m q) where
  abbrev now : ℕ → Router
  now number = router_now (ports_of (net_at m) number) most_routes (history_of q.histories number)

  one : (k : ℕ) (s : State) → slice_get m.routers k ≡ Some s → router_of s ≡ now k
  one k s there =
      let ports : ports_of (net_at m) k ≡ s.ports =
      get_or-map (λ (s : State). s.ports) m.routers k s [] (slice_get_within m.routers k s there)
      ∙ ap (λ (s : State). s.ports) (get_or_from_slice_get m.routers k s s there) in
      stands_now most_routes most_services s (history_of q.histories k) (stands.routers k s there)
      ∙ ap (λ (ports : List Port). router_now ports most_routes (history_of q.histories k)) (sym ports)

  mapped : (f : ℕ → Router) (states : List State) → ((k : ℕ) (s : State) → slice_get states k ≡ Some s → router_of s ≡ f k)
      → routers_of states ≡ map f (numbers (length states))
  mapped f [] at = refl
  mapped f (s ∷ states) at =
      ap₂ (λ (y : Router) (ys : List Router). y ∷ ys) (at 0 s refl) (mapped (λ n. f (suc n)) states (λ k t there. at (suc k) t there)
      ∙ sym (joint f (numbers (length states))))
      ∙ ap (λ (ns : List ℕ). map f ns) (sym (numbers_front (length states)))

  pub after_histories : routers_of m.routers ≡ routers_after (net_at m) most_routes q.histories
  after_histories = grind (arith, mapped, one, length-map)

-- routers with pasts have tables such as a tree is said of
module _ (most_routes most_services : ℕ)
    (as_they_are : (ports : List Port) (most : ℕ) (history : History) → AllByRecursion (IsOnPort ports) history → IsRouter (router_now ports most history)) where
  pub are_tabled : (routers : List State) → AllByRecursion (HasPast most_routes most_services) routers → AllByRecursion IsRouter (routers_of routers)
  are_tabled [] all = tt
  are_tabled (s ∷ routers) all =
      let now : IsRouter (router_now s.ports most_routes all.0.past) = as_they_are s.ports most_routes all.0.past all.0.on_ports in
      (subst (λ (r : Router). IsRouter r) (sym (stands_now most_routes most_services s all.0.past all.0.stands)) now, are_tabled routers all.1)
