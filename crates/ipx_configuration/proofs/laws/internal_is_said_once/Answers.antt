use Rattle.ipx_configuration.specs.Configurations.{read_in}
use Rattle.ipx_configuration.proofs.Owning.{again, unchanged, others, number_taken}
use Rattle.ipx_configuration.proofs.laws.internal_is_said_once.Goals as goal

pub returns-clause-again : goal.returns-clause-again
returns-clause-again c = λ capacity n text it. let r = read_in capacity text it in again capacity n text r it r.line

pub returns-clause-wrong : goal.returns-clause-wrong
returns-clause-wrong c = λ capacity n text it f. let r = read_in capacity text it in unchanged capacity n text r it f r.line

pub returns-clause-others : goal.returns-clause-others
returns-clause-others c = λ capacity n text it. let r = read_in capacity text it in others n text r it capacity r.line

pub returns-clause-number : goal.returns-clause-number
returns-clause-number c = number_taken
