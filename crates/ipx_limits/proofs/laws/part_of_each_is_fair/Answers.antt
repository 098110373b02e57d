use Rattle.ipx_fair.specs.Laws.{HasMore}
use Rattle.ipx_fair.proofs.Parts.{fair_part}
use Rattle.ipx_limits.specs.Several.{of_it}
use Rattle.ipx_limits.proofs.Several.{runs_one}
use Rattle.ipx_limits.proofs.laws.part_of_each_is_fair.Goals as goal

pub returns : goal.returns
returns c = λ n k old new events kept run. fair_part n k old new (of_it events) kept (runs_one (HasMore n k) old new events run)
