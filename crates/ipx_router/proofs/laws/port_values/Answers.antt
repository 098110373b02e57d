use Rattle.ipx_router.proofs.port_values.PortOrFault.{either}
use Rattle.ipx_router.proofs.laws.port_values.Goals as goal

pub returns-clause-either : goal.returns-clause-either
returns-clause-either c = either
