use Rattle.ipx_fair.specs.Laws.{Anything}
use Rattle.ipx_fair.proofs.Running.{bound}
use Rattle.ipx_limits.specs.Several.{of_it}
use Rattle.ipx_limits.proofs.Several.{runs_one}
use Rattle.ipx_limits.proofs.laws.each_is_bound.Goals as goal

pub returns : goal.returns
returns c = λ old new events kept run. bound old new (of_it events) kept (runs_one Anything old new events run)
