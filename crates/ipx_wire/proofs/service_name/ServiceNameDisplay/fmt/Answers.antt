use Rattle.ipx_wire.proofs.NameWords.{ascii_front}
use Rattle.ipx_wire.proofs.service_name.ServiceNameDisplay.fmt.Goals as goal

pub write_ascii-requires : goal.write_ascii-requires
write_ascii-requires g c = ascii_front _ c.args.self.now c.put_word-count.ensures.word
