use Rattle.std.proofs.Common.{length, rules, ◌≡◌, [], ◌++◌, ◌∷◌}
use Rattle.std.proofs.lemmas.List.{nil_from_length}
use Rattle.std.proofs.lemmas.List.Elements.{All-append}
use Rattle.ipx_cmd.specs.Lines.{line_feed}
use Rattle.ipx_cmd.specs.declared.ended.RunFault.TheVariants.{Memory}
use Rattle.ipx_cmd.specs.declared.lines.halt.Halt.TheVariants.{Line, Run}
use Rattle.ipx_cmd.proofs.cuts.LinesOfBytes.{not_feed}
use Rattle.ipx_cmd.proofs.cuts.WhyAStretchEnds.{off_long, off_memory}
use Rattle.ipx_cmd.proofs.cuts.WaysOut.{err_by}
use Rattle.ipx_cmd.proofs.player.Player.end_line.Goals as goal

pub returns-in_err-check_length-clause-off : goal.returns-in_err-check_length-clause-off
returns-in_err-check_length-clause-off g c =
    let s = c.args.self.now in
    err_by _ (Line c.in_err-check_length.field-0.0) c.from_residual.result c.from_residual.ensures.1
    (λ state now. off_long g.M.Act.acts state s.number (s.pending.items ++ c.args.front.now) (line_feed ∷ []) c.args.outlet.now c.args.text.now.items c.in_err-check_length.field-0.0
    c.requires.outlet (All-append not_feed s.pending.items c.args.front.now c.requires.line.one c.requires.one) c.in_err-check_length.ensures.err)

pub returns-in_err-act_on-clause-off : goal.returns-in_err-act_on-clause-off
returns-in_err-act_on-clause-off g c =
    let s = c.args.self.now in
    let empty : length s.pending.items ≡ 0 = search rules in
    err_by _ c.in_err-act_on.field-0.0 c.from_residual-in_err-act_on.result c.from_residual-in_err-act_on.ensures.1
    (λ state now. rw (nil_from_length s.pending.items empty) (c.in_err-act_on.ensures.off state s.number now))

pub returns-in_err-extend_from_slice-clause-off : goal.returns-in_err-extend_from_slice-clause-off
returns-in_err-extend_from_slice-clause-off g c =
    let s = c.args.self.now in
    err_by _ (Run Memory) c.from_residual-in_err-extend_from_slice.result c.from_residual-in_err-extend_from_slice.ensures.1
    (λ state now. off_memory g.M.Act.acts state s.number ((s.pending.items ++ c.args.front.now) ++ line_feed ∷ []) c.args.outlet.now c.args.text.now.items s.number c.requires.outlet)

pub returns-in_err-act_on-2-clause-off : goal.returns-in_err-act_on-2-clause-off
returns-in_err-act_on-2-clause-off g c =
    let s = c.args.self.now in
    let kept : c.deref.result.now ≡ s.pending.items ++ c.args.front.now = search rules in
    err_by _ c.in_err-act_on-2.field-0.0 c.from_residual-in_err-act_on-2.result c.from_residual-in_err-act_on-2.ensures.1
    (λ state now. rw kept at c.in_err-act_on-2.ensures.off state s.number now)
