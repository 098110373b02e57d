-- Offers that ascend by key: what is told of them rises.
use Rattle.std.proofs.Common.{◌≡◌, ℕ, zero, suc, nat_lt, Bool, true, false, List, [], ◌∷◌, drop, map, filter, inl, inr, arith, Ordering, is_lt}
use Rattle.std.specs.List.{AllByRecursion}
use Rattle.std.specs.Ordering.{nat_cmp}
use Rattle.std.proofs.lemmas.Bool.{cases_Bool}
use Rattle.ipx_table.specs.Stands.{IsAscending, Ascends}
use Rattle.ipx_table.specs.declared.held.Held.{Held}
use Rattle.ipx_table.proofs.Order.{not_both, not_below_through}
use Rattle.ipx_router.specs.Facts.{offers}
use Rattle.ipx_router.specs.inside.Ended.{by_route, by_service}
use Rattle.ipx_router.specs.Services.{service_order}
use Rattle.ipx_router.specs.Told.{network_before, name_before, told_at, entry_of, farther, is_route_told, is_service_told, learned}
use Rattle.ipx_router.specs.declared.route_offer.RouteOffer.{RouteOffer}
use Rattle.ipx_router.specs.declared.service_offer.ServiceOffer.{ServiceOffer}
use Rattle.ipx_router.proofs.bounds.PacketsOfEachEvent.{service_total}
use Rattle.ipx_router.proofs.lists.EachElement.{all-filter}
use Rattle.ipx_router.proofs.lists.PutInOrder.{IsOrder, IsFirst, Rises, rises-map}

-- ---- the two orders

pub network_orders : IsOrder network_before
network_orders = grind arith

pub name_orders : IsOrder name_before
name_orders = record {
  one_way = λ a b less. not_both service_order service_total (a.kind, a.name) (b.kind, b.name) less;
  through = λ a b c ab bc. not_below_through service_order service_total (c.kind, c.name) (b.kind, b.name) (a.kind, a.name) bc ab;
}

-- a number that is less isn't greater
pub not_greater : (a b : ℕ) → is_lt (nat_cmp a b) ≡ true → nat_lt b a ≡ false
not_greater a b less = grind arith

-- ---- what ascends

module _ {O : Type 0} (by_key : O → O → Ordering) where
  offers_above : (o : O) (records : List (Held O)) → AllByRecursion (λ h. is_lt (by_key o h.offer) ≡ true) records
      → AllByRecursion (λ x. is_lt (by_key o x) ≡ true) (offers records)
  offers_above o [] above = tt
  offers_above o (h ∷ records) above = (above.0, offers_above o records above.1)

  pub ascends-offers : (records : List (Held O)) → IsAscending by_key records → Ascends by_key (offers records)
  ascends-offers [] up = tt
  ascends-offers (h ∷ records) up = (offers_above h.offer records up.0, ascends-offers records up.1)

  pub ascends-drop : (k : ℕ) (xs : List O) → Ascends by_key xs → Ascends by_key (drop k xs)
  ascends-drop zero xs up = up
  ascends-drop (suc k) [] up = tt
  ascends-drop (suc k) (x ∷ xs) up = ascends-drop k xs up.1

  -- what is read of those that are chosen rises, where reading keeps the order
  pub rises-chosen : {X : Type 0} (comes_before : X → X → Bool) (f : O → X) (chosen : O → Bool)
      → ((a b : O) → is_lt (by_key a b) ≡ true → comes_before (f b) (f a) ≡ false)
      → (xs : List O) → Ascends by_key xs → Rises comes_before (map f (filter chosen xs))
  rises-chosen comes_before f chosen kept [] up = tt
  rises-chosen comes_before f chosen kept (x ∷ xs) up = elim (cases_Bool (chosen x)) [
    | inl e ↦ rw e (behind (filter chosen xs) (all-filter (λ y. is_lt (by_key x y) ≡ true) chosen xs up.0), rises-chosen comes_before f chosen kept xs up.1)
    | inr e ↦ rw e (rises-chosen comes_before f chosen kept xs up.1)
  ]
    where
      behind : (ys : List O) → AllByRecursion (λ y. is_lt (by_key x y) ≡ true) ys → IsFirst comes_before (f x) (map f ys)
      behind [] above = tt
      behind (y ∷ ys) above = (kept x y above.0, behind ys above.1)

-- ---- what is told of a table

-- routes rise as they are told
pub rises_told : (cost number : ℕ) (routes : List RouteOffer) → Ascends by_route routes → Rises network_before (map (told_at cost) (learned routes number))
rises_told cost number routes up =
    rises-map network_before network_before (told_at cost) (λ a b e. e) (learned routes number)
    (rises-chosen by_route network_before entry_of (is_route_told number) (λ a b less. not_greater a.network.0 b.network.0 less) routes up)

-- and so do services
pub services_rise : (number : ℕ) (services : List ServiceOffer) → Ascends by_service services
    → Rises name_before (map (λ s. farther s.service) (filter (is_service_told number) services))
services_rise number services up =
    rises-chosen by_service name_before (λ s. farther s.service) (is_service_told number)
    (λ a b less. name_orders.one_way (farther a.service) (farther b.service) less) services up
