use Rattle.std.proofs.Common.{◌≡◌, ◌∙◌, ap, ℕ, Option, length, List, None, replicate, arith}
use Rattle.ipx_plan.specs.Likeness.{distance_at}
use Rattle.ipx_plan.specs.inside.Pairs.{with_links}
use Rattle.ipx_plan.proofs.Pairs.{paired_from}
use Rattle.ipx_plan.proofs.pairing.pairing.Goals as goal

pub returns : goal.returns
returns g c =
    let all : c.loop.counter ≡ length c.args.new.now = omega (arith, c.loop-test.false, c.loop.auto.counter-end) in
    record {
      pairing = paired_from c.args.old.now c.args.new.now c.loop.was.items c.pair.new.was c.pair-2.new.was
          (c.loop.invariant.none ∙ ap (λ (n : ℕ). replicate n None) all)
          (c.pair.ensures ∙ ap (λ (l : List (Option ℕ)). with_links (distance_at c.args.old.now c.args.new.now) (length c.args.old.now) 0 l (length c.args.new.now)) c.deref_mut.ensures.value)
          (c.pair-2.ensures ∙ ap (λ (l : List (Option ℕ)). with_links (distance_at c.args.old.now c.args.new.now) (length c.args.old.now) 1 l (length c.args.new.now)) c.deref_mut-2.ensures.value);
    }
