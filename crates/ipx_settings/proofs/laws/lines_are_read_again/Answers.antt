use Rattle.ipx_settings.proofs.LinesAgain.{line_again, text_again, lines_once}
use Rattle.ipx_settings.proofs.LinesRight.{text_said}
use Rattle.ipx_settings.proofs.laws.lines_are_read_again.Goals as goal

pub returns-clause-again : goal.returns-clause-again
returns-clause-again c = line_again

pub returns-clause-text : goal.returns-clause-text
returns-clause-text c = text_again

pub returns-clause-once : goal.returns-clause-once
returns-clause-once c = lines_once

pub returns-clause-right : goal.returns-clause-right
returns-clause-right c = text_said
