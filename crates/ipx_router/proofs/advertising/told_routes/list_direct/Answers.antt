use Rattle.std.proofs.Common.{arith}
use Rattle.ipx_router.proofs.telling.NetworksAmongRoutes.{direct_step}
use Rattle.ipx_router.proofs.advertising.told_routes.list_direct.Goals as goal

pub loop-other-preserved : goal.loop-other-preserved
loop-other-preserved c = (
  direct_step c.args.cost c.args.ports.now c.args.number c.args.up.now c.loop-other.other-index c.loop-other.entries.items c.place_direct.new.entries.items
      c.loop-other-test.true c.loop-other.invariant.0 c.place_direct.ensures.items,
  omega (arith, c.place_direct.ensures.one, c.loop-other.invariant.1),
)
