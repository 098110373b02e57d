use Rattle.ipx_peers.proofs.Counted.{numbers_known, numbers_unknown}
use Rattle.ipx_peers.proofs.laws.window.Goals as goal

pub returns-clause-known : goal.returns-clause-known
returns-clause-known c = λ history session index is. numbers_known history session index is

pub returns-clause-unknown : goal.returns-clause-unknown
returns-clause-unknown c = λ history session none. numbers_unknown history session none
