use Rattle.std.proofs.Common.{◌∙◌}
use Rattle.ipx_edge.proofs.Keeping.{copied}
use Rattle.ipx_edge.proofs.filtering.move_down.Goals as goal

pub returns : goal.returns
returns c = c.copy_within.ensures.after ∙ copied c.args.bytes.now c.args.from c.args.size c.args.to c.requires.room
