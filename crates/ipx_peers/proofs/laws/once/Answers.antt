use Rattle.ipx_peers.proofs.Once.{number_once, datagram_once}
use Rattle.ipx_peers.proofs.laws.once.Goals as goal

pub returns-clause-number : goal.returns-clause-number
returns-clause-number c = λ later earlier first again goes_on is session number. number_once later earlier first again goes_on is session number

pub returns-clause-datagram : goal.returns-clause-datagram
returns-clause-datagram c = λ later earlier opened new is. datagram_once later earlier opened new is
