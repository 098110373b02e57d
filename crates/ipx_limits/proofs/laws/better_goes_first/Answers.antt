use Rattle.std.proofs.Common.{arith}
use Rattle.ipx_limits.specs.LineLaws.{quiet}
use Rattle.ipx_limits.proofs.NarrowLine.{busy_by, first_heard}
use Rattle.ipx_limits.proofs.laws.better_goes_first.Goals as goal

pub returns-clause-busy : goal.returns-clause-busy
returns-clause-busy c = λ line speak_to rank new speak events run. busy_by line speak_to rank (quiet speak speak_to) new events 0 run (omega arith)

pub returns-clause-heard : goal.returns-clause-heard
returns-clause-heard c = λ line speak_to rank new speak events used run same fits. first_heard line speak_to rank new speak events used run same fits
