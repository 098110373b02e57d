use Rattle.std.proofs.Common.{sym, ap, ◌∙◌, arith}
use Rattle.std.specs.Vec.{vec_capacity, vec_items}
use Rattle.ipx_cmd.specs.TableText.{route_held}
use Rattle.ipx_cmd.proofs.captures.HowARunEnds.{on_err_always}
use Rattle.ipx_cmd.proofs.written.GrowsByItems.{listed_full, listed_more, not_past}
use Rattle.ipx_cmd.proofs.texts.table_text.write_routes.Goals as goal
use Rattle.ipx_cmd.proofs.texts.table_text.write_routes.Goals.{in-Some+in_ok-route_line, in_default}

pub loop-place-preserved : goal.loop-place-preserved
unfolding route_held
loop-place-preserved c = elim c.match-route_at.branch [
  | in-Some+in_ok-route_line w ↦ (
    listed_more route_held c.args.router.now.routes c.loop-place.place w.in-Some.held _ _ _ (sym c.route_at.ensures.value ∙ w.in-Some.is) c.loop-place.invariant.0
        (ap vec_items w.text-is ∙ w.in_ok-route_line.ensures.text),
    omega (arith, c.loop-place.invariant.1, w.in_ok-route_line.ensures.kept, ap vec_capacity w.text-is),
  )
  | in_default w ↦ absurd (not_past c.args.router.now.routes c.loop-place.place (sym c.route_at.ensures.value ∙ w.in_default.is) (omega (arith, c.loop-place-test.true, c.routes-place-end.ensures.value)))
]

pub returns-in_err-route_line-clause-room : goal.returns-in_err-route_line-clause-room
unfolding route_held
returns-in_err-route_line-clause-room c =
    on_err_always c.from_residual.result
    (listed_full route_held c.args.router.now.routes c.loop-place.place c.in-Some.held _ _ _ _ (sym c.route_at.ensures.value ∙ c.in-Some.is)
    c.loop-place.invariant.0 c.loop-place.invariant.1 c.in_err-route_line.ensures.room)
