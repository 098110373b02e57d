use Rattle.std.proofs.Common.{◌≡◌, ◌∙◌, ap, ℕ, get_or, Option, arith}
use Rattle.ipx_plan.specs.declared.link.Link.{Link}
use Rattle.ipx_plan.specs.declared.fate.Fate.{Fate}
use Rattle.ipx_plan.specs.Pairing.{becomes}
use Rattle.ipx_plan.specs.Planned.{fate}
use Rattle.ipx_plan.proofs.Blank.{blank}
use Rattle.ipx_plan.proofs.Each.{made_push}
use Rattle.ipx_plan.proofs.plan.fates.Goals as goal

pub loop-j-preserved : goal.loop-j-preserved
loop-j-preserved g c =
    let j = c.loop-j.j in
    let link : Link = get_or c.args.old.now j blank in
    let f : ℕ × Link → Fate = λ p. fate c.args.old.now c.args.new.now c.args.cables.now (becomes c.args.was.now p.0) p.0 p.1 in
    let is : c.fate.result ≡ f (j, link) =
    c.fate.ensures ∙ ap (λ (b : Option ℕ). fate c.args.old.now c.args.new.now c.args.cables.now b j link) c.becomes.ensures in
    record {
      made = made_push f c.args.old.now j blank c.loop-j.fates.items c.push.new.self.items c.fate.result c.loop-j-test.true c.loop-j.invariant.made is c.push.ensures.items;
      few = grind arith;
    }
