use Rattle.ipx_laws.proofs.laws.ticks_are_calm.Goals as goal
use Rattle.ipx_laws.proofs.ticks.TickAfterTick.{ticks_are_calm}

pub returns : goal.returns
returns c net most_routes most_services run ticks are = ticks_are_calm net most_routes most_services run ticks are
