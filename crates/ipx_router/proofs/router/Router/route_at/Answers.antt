use Rattle.std.proofs.Common.{arith}
use Rattle.ipx_router.proofs.router.Router.route_at.Goals as goal

pub get_at-requires : goal.get_at-requires
get_at-requires g c = grind arith
