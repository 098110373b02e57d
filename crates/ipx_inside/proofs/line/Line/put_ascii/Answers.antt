use Rattle.std.proofs.lemmas.Str.{IsUtf8-from_ascii}
use Rattle.ipx_inside.proofs.line.Line.put_ascii.Goals as goal

pub returns-in-Err-clause-text : goal.returns-in-Err-clause-text
returns-in-Err-clause-text c = absurd (c.in-Err.ensures.cases.0 (IsUtf8-from_ascii c.args.text.now c.requires.ascii))

pub returns-in-Err-clause-size : goal.returns-in-Err-clause-size
returns-in-Err-clause-size c = absurd (c.in-Err.ensures.cases.0 (IsUtf8-from_ascii c.args.text.now c.requires.ascii))
