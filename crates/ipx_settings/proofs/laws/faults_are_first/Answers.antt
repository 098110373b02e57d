use Rattle.ipx_settings.proofs.FirstWrong.{before, wrong, at_end}
use Rattle.ipx_settings.proofs.laws.faults_are_first.Goals as goal

pub returns-clause-before : goal.returns-clause-before
returns-clause-before c = before

pub returns-clause-wrong : goal.returns-clause-wrong
returns-clause-wrong c = wrong

pub returns-clause-ended : goal.returns-clause-ended
returns-clause-ended c = at_end
