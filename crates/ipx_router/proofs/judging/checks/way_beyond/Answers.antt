use Rattle.std.proofs.Common.{◌≡◌, ◌∙◌, sym, false}
use Rattle.ipx_router.specs.Port.{takes_no_route}
use Rattle.ipx_router.proofs.tables.NoRouteToAPort.{by_route, not_own}
use Rattle.ipx_router.proofs.judging.checks.way_beyond.Goals as goal

pub returns-then-not-takes_no_route-clause-way : goal.returns-then-not-takes_no_route-clause-way
returns-then-not-takes_no_route-clause-way g c =
    let routed : takes_no_route c.args.ports.now c.args.destination.network ≡ false = sym c.takes_no_route.ensures ∙ c.if-not-takes_no_route.true in (
      rw (by_route c.args.destination c.args.ports.now c.args.up.now routed) c.way_by_route.ensures,
      not_own c.args.destination c.args.ports.now routed,
    )
