use Rattle.std.proofs.lemmas.List.{take-replicate}
use Rattle.ipx_capture.proofs.writing.padding.Goals as goal

pub returns : goal.returns
returns c = take-replicate c.args.count 60 0 c.requires
