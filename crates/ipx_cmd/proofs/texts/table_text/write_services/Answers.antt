use Rattle.std.proofs.Common.{sym, ap, ◌∙◌, arith}
use Rattle.std.specs.Vec.{vec_capacity, vec_items}
use Rattle.ipx_cmd.specs.TableText.{service_held}
use Rattle.ipx_cmd.proofs.captures.HowARunEnds.{on_err_always}
use Rattle.ipx_cmd.proofs.written.GrowsByItems.{listed_full, listed_more, not_past}
use Rattle.ipx_cmd.proofs.texts.table_text.write_services.Goals as goal
use Rattle.ipx_cmd.proofs.texts.table_text.write_services.Goals.{in-Some+in_ok-service_line, in_default}

pub loop-place-preserved : goal.loop-place-preserved
unfolding service_held
loop-place-preserved c = elim c.match-service_at.branch [
  | in-Some+in_ok-service_line w ↦ (
    listed_more service_held c.args.router.now.services c.loop-place.place w.in-Some.held _ _ _ (sym c.service_at.ensures.value ∙ w.in-Some.is) c.loop-place.invariant.0
        (ap vec_items w.text-is ∙ w.in_ok-service_line.ensures.text),
    omega (arith, c.loop-place.invariant.1, w.in_ok-service_line.ensures.kept, ap vec_capacity w.text-is),
  )
  | in_default w ↦ absurd (not_past c.args.router.now.services c.loop-place.place (sym c.service_at.ensures.value ∙ w.in_default.is) (omega (arith, c.loop-place-test.true, c.services-place-end.ensures.value)))
]

pub returns-in_err-service_line-clause-room : goal.returns-in_err-service_line-clause-room
unfolding service_held
returns-in_err-service_line-clause-room c =
    on_err_always c.from_residual.result
    (listed_full service_held c.args.router.now.services c.loop-place.place c.in-Some.held _ _ _ _ (sym c.service_at.ensures.value ∙ c.in-Some.is)
    c.loop-place.invariant.0 c.loop-place.invariant.1 c.in_err-service_line.ensures.room)
