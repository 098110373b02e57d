use Rattle.std.proofs.Common.{ℕ, get_or, None, arith}
use Rattle.ipx_plan.specs.declared.link.Link.{Link}
use Rattle.ipx_plan.specs.declared.origin.Origin.{Origin}
use Rattle.ipx_plan.specs.Planned.{origin}
use Rattle.ipx_plan.proofs.Blank.{blank}
use Rattle.ipx_plan.proofs.Each.{made_push}
use Rattle.ipx_plan.proofs.plan.origins.Goals as goal

pub loop-k-preserved : goal.loop-k-preserved
loop-k-preserved g c =
    let k = c.loop-k.k in
    let f : ℕ × Link → Origin = λ p. origin c.args.old.now c.args.new.now (get_or c.args.was.now p.0 None) p.0 p.1 in
    record {
      made = made_push f c.args.new.now k blank c.loop-k.origins.items c.push.new.self.items c.origin.result c.loop-k-test.true c.loop-k.invariant.made c.origin.ensures c.push.ensures.items;
      few = grind arith;
    }
