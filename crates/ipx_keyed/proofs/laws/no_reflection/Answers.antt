use Rattle.std.proofs.Common.{arith}
use Rattle.ipx_keyed.proofs.Reflected.{paid_for}
use Rattle.ipx_keyed.proofs.Sending.{carried_none}
use Rattle.ipx_keyed.proofs.laws.no_reflection.Goals as goal

pub returns-clause-carried : goal.returns-clause-carried
returns-clause-carried c = λ setting history place none. carried_none setting history place none

pub returns-clause-in_all : goal.returns-clause-in_all
returns-clause-in_all c = λ setting history place. omega (arith, paid_for setting place history)
