-- The checks of a packet that is only to be sent on (IPX Router Specification, packet checks).
use Rattle.std.specs.Prelude.{ℕ, List, ◌++◌, Option}
use Rattle.ipx_wire.specs.Packet.{Parts}
use Rattle.ipx_router.specs.Port.{Port}
use Rattle.ipx_router.specs.Why.{first_checks, way_checks}
use Rattle.ipx_router.specs.declared.route_offer.RouteOffer.{RouteOffer}
use Rattle.ipx_router.specs.declared.why.Why.{Why}

-- in their order: those of every packet but for what only the router's own processes ask
abbrev pub relay_checks : List Port → List ℕ → List RouteOffer → Port → Parts → List (Option Why)
relay_checks ports up routes port p = first_checks port p ++ way_checks ports up routes port p
