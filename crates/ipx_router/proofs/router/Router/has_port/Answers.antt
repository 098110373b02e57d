use Rattle.std.proofs.Common.{arith}
use Rattle.ipx_router.proofs.router.Router.has_port.Goals as goal

pub len-requires : goal.len-requires
len-requires g c = grind arith
