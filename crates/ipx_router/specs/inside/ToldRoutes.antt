-- What is left of all that is advertised on a port: networks of other ports that wait, and routes of the table.
use Rattle.std.specs.Prelude.{ℕ, List, map}
use Rattle.ipx_wire.specs.declared.rip.RipEntry.{RipEntry}
use Rattle.ipx_router.specs.Sorted.{put_all}
use Rattle.ipx_router.specs.Told.{network_before, told_at, learned}
use Rattle.ipx_router.specs.declared.route_offer.RouteOffer.{RouteOffer}

-- on a port of that number and cost: the networks that wait, and among them the routes that are advertised there
abbrev pub routes_left : ℕ → ℕ → List RipEntry → List RouteOffer → List RipEntry
routes_left number cost waiting routes = put_all network_before waiting (map (told_at cost) (learned routes number))
