use Rattle.std.proofs.Common.{arith}
use Rattle.ipx_router.proofs.router.Router.iter_services.Goals as goal

pub entries-requires : goal.entries-requires
entries-requires g c = grind arith
