use Rattle.std.specs.Int.{to_be_bytes, w32}
use Rattle.ipx_wire.proofs.HexText.{ascii_digits}
use Rattle.ipx_wire.proofs.network.NetworkDisplay.fmt.Goals as goal

pub write_ascii-requires : goal.write_ascii-requires
write_ascii-requires g c = ascii_digits c.digits.result (to_be_bytes w32 c.args.self.now.0) c.digits.ensures
