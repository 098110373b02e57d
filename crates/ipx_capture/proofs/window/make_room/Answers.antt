use Rattle.std.proofs.Common.{◌+◌, arith, ap, sym, ◌∙◌, take, take-take, vec_len}
use Rattle.ipx_capture.proofs.Pieces.{piece_front}
use Rattle.ipx_capture.proofs.window.make_room.Goals as goal

pub returns-clause-kept : goal.returns-clause-kept
returns-clause-kept c =
    let count = c.args.count in
    let moved = c.move_to_front.new.bytes in
    let grown = c.grow.new.bytes.items in
    piece_front grown moved.items 0 count (sym (take-take (0 + count) (vec_len moved) grown (omega arith)) ∙ ap (take (0 + count)) c.in_ok-grow.ensures.front) ∙ c.move_to_front.ensures.kept
