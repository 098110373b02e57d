use Rattle.std.proofs.lemmas.Str.{IsUtf8-from_ascii}
use Rattle.ipx_wire.proofs.hex_text.write_ascii.Goals as goal

pub returns-in-Err : goal.returns-in-Err
returns-in-Err g c = absurd (c.in-Err.ensures.cases.0 (IsUtf8-from_ascii c.args.digits.now c.requires))
