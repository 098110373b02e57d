use Rattle.ipx_wire.proofs.HexText.{ascii_digits}
use Rattle.ipx_wire.proofs.hex_text.write_piece.Goals as goal

pub write_ascii-requires : goal.write_ascii-requires
write_ascii-requires g c = ascii_digits c.put_digits.new.out c.args.bytes.now c.put_digits.ensures
