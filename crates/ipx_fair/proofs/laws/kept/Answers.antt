use Rattle.ipx_fair.specs.Laws.{Anything}
use Rattle.ipx_fair.proofs.Kept.{kept_empty}
use Rattle.ipx_fair.proofs.Running.{runs_kept}
use Rattle.ipx_fair.proofs.laws.kept.Goals as goal

pub returns-clause-first : goal.returns-clause-first
returns-clause-first c = λ setting speakers more. kept_empty setting speakers more

pub returns-clause-later : goal.returns-clause-later
returns-clause-later c = λ old new events kept run. runs_kept Anything old new events kept run
