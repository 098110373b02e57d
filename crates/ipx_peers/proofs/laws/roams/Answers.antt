use Rattle.ipx_peers.proofs.Roaming.{came}
use Rattle.ipx_peers.proofs.laws.roams.Goals as goal

pub returns : goal.returns
returns c = λ history index within. came history index within
