use Rattle.ipx_settings.proofs.FirstWrong.{right, read}
use Rattle.ipx_settings.proofs.laws.lines_are_read.Goals as goal

pub returns-clause-right : goal.returns-clause-right
returns-clause-right c = right

pub returns-clause-read : goal.returns-clause-read
returns-clause-read c = read
