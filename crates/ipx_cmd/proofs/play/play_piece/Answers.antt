use Rattle.std.proofs.Common.{ℕ, subst, ◌++◌}
use Rattle.ipx_cmd.specs.inside.Stretch.{Answered}
use Rattle.ipx_cmd.proofs.cuts.TextOfAPiece.{fine_of, gave_up_of, passed_of}
use Rattle.ipx_cmd.proofs.play.play_piece.Goals as goal

pub answer-requires : goal.answer-requires
answer-requires g c =
    let p = c.args.player.now in
    fine_of g.M.Act.acts g.M.Act.stands p.machine p.number (p.pending.items ++ c.args.piece.now) c.args.outlet.now c.play-played.new.outlet c.args.text.now.items c.play-played.new.text.items
    c.play-played.new.self.number c.play-played.result c.requires.known c.play-played.ensures.fine c.play-played.ensures.off

pub returns-clause-passed : goal.returns-clause-passed
returns-clause-passed g c =
    let p = c.args.player.now in
    let new = c.play-played.new.self in
    passed_of g.M.Act.acts g.M.Act.stands p.machine new.machine p.number (p.pending.items ++ c.args.piece.now) c.args.outlet.now c.play-played.new.outlet c.answer.new.outlet
    c.args.text.now.items c.play-played.new.text.items c.answer.new.text.items new.number new.pending.items c.play-played.result c.answer.result c.requires.outlet
    c.play-played.ensures.went c.play-played.ensures.off
    (subst (λ (n : ℕ). Answered c.play-played.result n c.play-played.new.outlet c.answer.new.outlet c.play-played.new.text.items c.answer.new.text.items c.answer.result)
    c.number.ensures c.answer.ensures)

pub returns-clause-gave_up : goal.returns-clause-gave_up
returns-clause-gave_up g c =
    let p = c.args.player.now in
    let new = c.play-played.new.self in
    gave_up_of g.M.Act.acts g.M.Act.stands p.machine new.machine p.number (p.pending.items ++ c.args.piece.now) c.args.outlet.now c.play-played.new.outlet c.answer.new.outlet
    c.args.text.now.items c.play-played.new.text.items c.answer.new.text.items new.number new.pending.items c.play-played.result c.answer.result
    c.play-played.ensures.went c.play-played.ensures.off
    (subst (λ (n : ℕ). Answered c.play-played.result n c.play-played.new.outlet c.answer.new.outlet c.play-played.new.text.items c.answer.new.text.items c.answer.result)
    c.number.ensures c.answer.ensures)
