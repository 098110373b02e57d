use Rattle.std.proofs.Common.{◌∙◌, sym, ap, length, add-one}
use Rattle.ipx_plan.specs.Likeness.{distance_at}
use Rattle.ipx_plan.specs.inside.Pairs.{is_free, first_below}
use Rattle.ipx_plan.proofs.Places.{found_at, none_more}
use Rattle.ipx_plan.proofs.pairing.first_free.Goals as goal

pub returns-then-is_free : goal.returns-then-is_free
returns-then-is_free c =
    let p = is_free (distance_at c.args.old.now c.args.new.now) c.args.distance c.args.was.now c.args.k in
    sym (found_at p c.loop-j.j (length c.args.old.now) c.loop-j.invariant (sym c.is_free.ensures ∙ c.if-is_free.true) c.loop-j-test.true)

pub loop-j-preserved : goal.loop-j-preserved
loop-j-preserved c =
    let p = is_free (distance_at c.args.old.now c.args.new.now) c.args.distance c.args.was.now c.args.k in
    ap (first_below p) (add-one c.loop-j.j) ∙ none_more p c.loop-j.j c.loop-j.invariant (sym c.is_free.ensures ∙ c.if-is_free.false)
