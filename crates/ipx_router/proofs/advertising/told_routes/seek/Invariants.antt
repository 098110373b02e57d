use Rattle.std.proofs.Common.{◌≡◌, not, drop, length}
use Rattle.std.specs.List.{prefix_len}
use Rattle.ipx_router.specs.Told.{is_route_told}
use Rattle.ipx_router.proofs.advertising.told_routes.seek.Given as goal

abbrev pub invariant-loop-route : goal.invariant-loop-route
invariant-loop-route l =
    drop (prefix_len (λ route. not (is_route_told l.number route)) l.rest) l.rest
    ≡ drop (prefix_len (λ route. not (is_route_told l.number route)) l.routes) l.routes

abbrev pub decreases-loop-route : goal.decreases-loop-route
decreases-loop-route l = length l.rest
