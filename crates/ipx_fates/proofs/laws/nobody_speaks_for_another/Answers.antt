use Rattle.std.proofs.Common.{ap, not}
use Rattle.ipx_fates.proofs.Nowhere.{frames_in_a_name, frames_of_a_second_kind, silent}
use Rattle.ipx_fates.proofs.laws.nobody_speaks_for_another.Goals as goal

pub returns-clause-frame : goal.returns-clause-frame
returns-clause-frame c = λ told several named. ap not (frames_in_a_name told several named)

pub returns-clause-kind : goal.returns-clause-kind
returns-clause-kind c = λ told other. ap not (frames_of_a_second_kind told other)

pub returns-clause-datagram : goal.returns-clause-datagram
returns-clause-datagram c = λ told none. ap not (silent told none)
