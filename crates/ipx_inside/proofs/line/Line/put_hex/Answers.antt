use Rattle.ipx_wire.proofs.HexText.{ascii_digits}
use Rattle.ipx_inside.proofs.line.Line.put_hex.Goals as goal

pub put_ascii-requires-clause-ascii : goal.put_ascii-requires-clause-ascii
put_ascii-requires-clause-ascii c = ascii_digits c.put_digits.new.out c.args.bytes.now c.put_digits.ensures
