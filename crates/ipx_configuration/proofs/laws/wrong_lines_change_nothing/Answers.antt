use Rattle.ipx_configuration.specs.Configurations.{read_in}
use Rattle.ipx_configuration.proofs.Meaning.{unchanged}
use Rattle.ipx_configuration.proofs.laws.wrong_lines_change_nothing.Goals as goal

pub returns : goal.returns
returns c = λ capacity n text it f is wrong. let r = read_in capacity text it in unchanged capacity n text r it f r.line is wrong
