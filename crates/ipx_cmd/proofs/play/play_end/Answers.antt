use Rattle.std.proofs.Common.{ℕ, subst, ◌∙◌}
use Rattle.ipx_cmd.specs.inside.Stretch.{Answered}
use Rattle.ipx_cmd.proofs.cuts.TextOfAPiece.{completed_of, last_fine_of, unfinished_of}
use Rattle.ipx_cmd.proofs.play.play_end.Goals as goal

pub answer-requires : goal.answer-requires
answer-requires g c =
    let p = c.args.player.now in
    last_fine_of g.M.Act.acts g.M.Act.stands p.machine p.number p.pending.items c.args.outlet.now c.finish-played.new.outlet c.args.text.now.items c.finish-played.new.text.items
    c.finish-played.result c.requires.known c.finish-played.ensures.fine c.finish-played.ensures.off

pub returns-clause-completed : goal.returns-clause-completed
returns-clause-completed g c =
    let p = c.args.player.now in
    completed_of g.M.Act.acts g.M.Act.stands p.machine p.number p.pending.items c.args.outlet.now c.finish-played.new.outlet c.answer.new.outlet
    c.args.text.now.items c.finish-played.new.text.items c.answer.new.text.items c.finish-played.result c.answer.result c.requires.outlet
    c.finish-played.ensures.finished c.finish-played.ensures.off
    (subst (λ (n : ℕ). Answered c.finish-played.result n c.finish-played.new.outlet c.answer.new.outlet c.finish-played.new.text.items c.answer.new.text.items c.answer.result)
    (c.number.ensures ∙ c.finish-played.ensures.number) c.answer.ensures)

pub returns-clause-unfinished : goal.returns-clause-unfinished
returns-clause-unfinished g c =
    let p = c.args.player.now in
    unfinished_of g.M.Act.acts g.M.Act.stands p.machine p.number p.pending.items c.args.outlet.now c.finish-played.new.outlet c.answer.new.outlet
    c.args.text.now.items c.finish-played.new.text.items c.answer.new.text.items c.finish-played.result c.answer.result
    c.finish-played.ensures.finished c.finish-played.ensures.off
    (subst (λ (n : ℕ). Answered c.finish-played.result n c.finish-played.new.outlet c.answer.new.outlet c.finish-played.new.text.items c.answer.new.text.items c.answer.result)
    (c.number.ensures ∙ c.finish-played.ensures.number) c.answer.ensures)
