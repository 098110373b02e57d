use Rattle.ipx_peers.proofs.Roaming.{lately}
use Rattle.ipx_peers.proofs.laws.silence.Goals as goal

pub returns : goal.returns
returns c = λ history index within there. lately history index within there
