use Rattle.ipx_wire.proofs.AddressWords.{ascii_word}
use Rattle.ipx_wire.proofs.address.AddressDisplay.fmt.Goals as goal

pub write_ascii-requires : goal.write_ascii-requires
write_ascii-requires g c = ascii_word c.word.result c.args.self.now c.word.ensures
