use Rattle.ipx_peers.proofs.Said.{few_places}
use Rattle.ipx_peers.proofs.Roaming.{left_most}
use Rattle.ipx_peers.proofs.laws.bounded.Goals as goal

pub returns-clause-places : goal.returns-clause-places
returns-clause-places c = λ history. few_places history

pub returns-clause-left : goal.returns-clause-left
returns-clause-left c = λ history index. left_most history index
