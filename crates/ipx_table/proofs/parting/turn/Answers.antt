use Rattle.std.proofs.lemmas.Slice.{between_is}
use Rattle.ipx_table.proofs.Halving.{turn_is}
use Rattle.ipx_table.proofs.parting.turn.Goals as goal

pub returns : goal.returns
returns g c =
    turn_is c.args.list.now _ c.rotate_left.new.self c.args.from c.args.middle c.args.to c.requires.before c.requires.behind
    (between_is c.args.list.now c.args.from c.args.to) c.rotate_left.ensures.after
