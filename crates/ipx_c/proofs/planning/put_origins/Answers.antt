use Rattle.std.proofs.Common.{◌∙◌, ap, set, arith, false, None}
use Rattle.ipx_plan.specs.declared.origin.Cable.TheVariants.{Kept}
use Rattle.ipx_plan.specs.declared.origin.Origin.{Origin}
use Rattle.ipx_plan.specs.declared.origin.Tunnel.TheVariants.{Absent}
use Rattle.ipx_c.specs.PlanValues.{origin_record}
use Rattle.ipx_c.specs.declared.plan_values.PlanOrigin.{PlanOrigin}
use Rattle.ipx_c.proofs.Filled.{filled_more}
use Rattle.ipx_c.proofs.planning.put_origins.Goals as goal

abbrev blank : Origin
blank = record {
  was = None;
  is_as_before = false;
  cable = Kept 0;
  tunnel = Absent;
  has_other_clients = false;
  has_other_sockets = false;
}

pub loop-k-preserved : goal.loop-k-preserved
loop-k-preserved c =
    let k = c.loop-k.k in
    ap (λ (y : PlanOrigin). set c.loop-k.to k y) c.origin_record.ensures
    ∙ filled_more origin_record c.args.origins.now c.args.to.now k c.loop-k.to blank c.loop-k-test.true (omega (arith, c.loop-k-test.true, c.requires)) c.loop-k.invariant
