use Rattle.std.proofs.Common.{◌∙◌, ap, set, arith, false, None}
use Rattle.ipx_plan.specs.declared.fate.Fate.{Fate}
use Rattle.ipx_c.specs.PlanValues.{fate_record}
use Rattle.ipx_c.specs.declared.plan_values.PlanFate.{PlanFate}
use Rattle.ipx_c.proofs.Filled.{filled_more}
use Rattle.ipx_c.proofs.planning.put_fates.Goals as goal

abbrev blank : Fate
blank = record { becomes = None; is_closed = false; ends_tunnel = false }

pub loop-j-preserved : goal.loop-j-preserved
loop-j-preserved c =
    let j = c.loop-j.j in
    ap (λ (y : PlanFate). set c.loop-j.to j y) c.fate_record.ensures
    ∙ filled_more fate_record c.args.fates.now c.args.to.now j c.loop-j.to blank c.loop-j-test.true (omega (arith, c.loop-j-test.true, c.requires)) c.loop-j.invariant
