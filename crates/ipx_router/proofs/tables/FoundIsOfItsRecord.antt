-- The route of a network among offers is that of its record.
use Rattle.std.proofs.Common.{◌≡◌, refl, ℕ, ◌==◌, List, [], ◌∷◌, is_eq, arith}
use Rattle.std.specs.Option.{option_map}
use Rattle.std.specs.Ordering.{nat_cmp}
use Rattle.ipx_table.specs.Stands.{record_of}
use Rattle.ipx_table.specs.declared.held.Held.{Held}
use Rattle.ipx_wire.specs.declared.network.Network.{Network}
use Rattle.ipx_router.specs.Facts.{offers}
use Rattle.ipx_router.specs.Outgoing.{route_to}
use Rattle.ipx_router.specs.Routes.{network_order}
use Rattle.ipx_router.specs.declared.route_offer.RouteOffer.{RouteOffer}

-- numbers are tied where they are the same
tied : (a b : ℕ) → is_eq (nat_cmp a b) ≡ (a == b)
tied a b = grind arith

pub found : (network : Network) (records : List (Held RouteOffer))
    → option_map (λ h. h.offer) (record_of (λ r. r.network) network_order network records) ≡ route_to (offers records) network.0
found network [] = refl
found network (h ∷ records) = grind (arith, found network records)
