use Rattle.std.proofs.Common.{arith}
use Rattle.ipx_router.proofs.router.Router.iter_ports.Goals as goal

pub as_slice-requires : goal.as_slice-requires
as_slice-requires g c = grind arith
