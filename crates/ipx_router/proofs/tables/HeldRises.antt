-- Records that ascend by their keys: the networks of routes rise, and so do services by type and name.
use Rattle.std.proofs.Common.{◌≡◌, ℕ, ◌<◌, true, List, [], ◌∷◌, map, arith}
use Rattle.std.specs.List.{AllByRecursion}
use Rattle.std.specs.List.Sorted.{IsStrictlyIncreasing}
use Rattle.std.specs.Ordering.{is_lt, nat_cmp}
use Rattle.std.specs.declared.cmp.Ordering.{Ordering}
use Rattle.ipx_table.specs.Stands.{IsAscending, Ascends}
use Rattle.ipx_table.specs.declared.held.Held.{Held}
use Rattle.ipx_router.specs.Facts.{offers}
use Rattle.ipx_router.specs.Routes.{network_order}
use Rattle.ipx_router.specs.declared.route_offer.RouteOffer.{RouteOffer}
use Rattle.ipx_router.proofs.relays.PortsRise.{IsRising, increasing}

-- the offers of records that ascend do
pub offers_ascend : {O : Type 0} (by_key : O → O → Ordering) (records : List (Held O)) → IsAscending by_key records → Ascends by_key (offers records)
offers_ascend {O = O} by_key [] ascends = tt
offers_ascend {O = O} by_key (h ∷ rest) ascends = (above rest ascends.0, offers_ascend by_key rest ascends.1)
  where
    above : (xs : List (Held O)) → AllByRecursion (λ x. is_lt (by_key h.offer x.offer) ≡ true) xs → AllByRecursion (λ o. is_lt (by_key h.offer o) ≡ true) (offers xs)
    above [] all = tt
    above (x ∷ xs) all = (all.0, above xs all.1)

cmp_less : (a b : ℕ) → is_lt (nat_cmp a b) ≡ true → a < b
cmp_less a b e = grind arith

-- networks that ascend rise
rising_networks : (routes : List RouteOffer) → Ascends (λ a b. network_order a.network b.network) routes → IsRising (map (λ r. r.network.0) routes)
rising_networks [] ascends = tt
rising_networks (route ∷ routes) ascends = (above routes ascends.0, rising_networks routes ascends.1)
  where
    above : (xs : List RouteOffer) → AllByRecursion (λ x. is_lt (network_order route.network x.network) ≡ true) xs
        → AllByRecursion (λ n. route.network.0 < n) (map (λ r. r.network.0) xs)
    above [] all = tt
    above (x ∷ xs) all = (cmp_less route.network.0 x.network.0 all.0, above xs all.1)

pub networks_rise : (routes : List RouteOffer) → Ascends (λ a b. network_order a.network b.network) routes
    → IsStrictlyIncreasing (map (λ r. r.network.0) routes)
networks_rise routes ascends = increasing (map (λ r. r.network.0) routes) (rising_networks routes ascends)
