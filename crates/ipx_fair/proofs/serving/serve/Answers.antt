use Rattle.std.proofs.Common.{◌≡◌, ◌∙◌, refl, ap, arith, ℕ, ◌+◌, ◌-◌, ◌*◌, ◌/◌, ◌<◌, ◌≤◌}
use Rattle.std.proofs.Math.Nat.{mul-le-mul_right, div-mul-le_self, le-mul_of_pos_right}
use Rattle.ipx_fair.specs.declared.tally.Tally.{Tally}
use Rattle.ipx_fair.proofs.Agreed.{tally_waits, agrees_lowered, agrees_recounted, served_between}
use Rattle.ipx_fair.proofs.serving.serve.Goals as goal

-- a step of more than all can spare is no more than the time allows
step_fits : (spare rest waits : ℕ) → spare < rest / waits → (spare + 1) * waits ≤ rest
step_fits spare rest waits less =
    let up : spare + 1 ≤ rest / waits = omega arith in
    omega (arith, mul-le-mul_right waits up, div-mul-le_self rest waits)

-- fewer nanoseconds are left than wait
few_left : (rest waits : ℕ) → 0 < waits → rest - rest / waits * waits < waits
few_left rest waits some = omega (arith, some)

pub nonzero_div-level : goal.nonzero_div-level
nonzero_div-level c = tally_waits c.args.tally.now c.args.ends.now c.requires.agrees (omega arith)

pub nonzero_div-level-in-loop-tally : goal.nonzero_div-level-in-loop-tally
nonzero_div-level-in-loop-tally c =
    let t = c.loop-tally.tally in
    let m = c.lower-rest.new.self in
    let n = c.recount.new.tally in
    let agrees = agrees_recounted t m n c.args.ends.now c.loop-tally.invariant.agrees c.lower-rest.ensures.tally c.recount.ensures.tally c.recount.ensures.spare in
    let total : n.total ≡ t.total - (t.spare + 1) * t.waits = ap (λ (x : Tally). x.total) c.recount.ensures.tally ∙ ap (λ (x : Tally). x.total) c.lower-rest.ensures.tally in
    tally_waits n c.args.ends.now agrees (omega (arith, total, step_fits t.spare c.loop-tally.rest t.waits (omega arith)))

pub loop-tally-preserved : goal.loop-tally-preserved
loop-tally-preserved c =
    let t = c.loop-tally.tally in
    let m = c.lower-rest.new.self in
    let n = c.recount.new.tally in
    let i = c.loop-tally.invariant in
    let agrees = agrees_recounted t m n c.args.ends.now i.agrees c.lower-rest.ensures.tally c.recount.ensures.tally c.recount.ensures.spare in
    let setting : n.setting ≡ t.setting = ap (λ (x : Tally). x.setting) c.recount.ensures.tally ∙ ap (λ (x : Tally). x.setting) c.lower-rest.ensures.tally in
    let latest : n.latest ≡ t.latest = ap (λ (x : Tally). x.latest) c.recount.ensures.tally ∙ ap (λ (x : Tally). x.latest) c.lower-rest.ensures.tally in
    let served : n.served ≡ t.served + (t.spare + 1) = ap (λ (x : Tally). x.served) c.recount.ensures.tally ∙ ap (λ (x : Tally). x.served) c.lower-rest.ensures.tally in
    let total : n.total ≡ t.total - (t.spare + 1) * t.waits = ap (λ (x : Tally). x.total) c.recount.ensures.tally ∙ ap (λ (x : Tally). x.total) c.lower-rest.ensures.tally in
    let fits = step_fits t.spare c.loop-tally.rest t.waits (omega arith) in
    let some : 0 < t.waits = tally_waits t c.args.ends.now i.agrees (omega (arith, i.less)) in
    let more : t.spare + 1 ≤ (t.spare + 1) * t.waits = le-mul_of_pos_right (t.spare + 1) some in
    let taken : c.lower-rest.result ≡ (t.spare + 1) * t.waits = c.lower-rest.ensures.taken in
    record {
      agrees = agrees;
      setting = setting ∙ i.setting;
      latest = latest ∙ i.latest;
      forward = omega (arith, served, i.forward);
      small = omega (arith, served, more, taken, fits, i.small);
      used = omega (arith, total, taken, fits, i.used, i.less);
      less = omega (arith, total, taken, fits, i.less);
      level = refl;
    }

pub returns-clause-served : goal.returns-clause-served
returns-clause-served c =
    let t = c.loop-tally.tally in
    let n = c.lower.new.self in
    let i = c.loop-tally.invariant in
    let agrees = agrees_lowered t n c.args.ends.now c.loop-tally.level i.agrees (omega arith) c.lower.ensures.tally in
    let served : n.served ≡ t.served + c.loop-tally.level = ap (λ (x : Tally). x.served) c.lower.ensures.tally in
    let total : n.total ≡ t.total - c.loop-tally.level * t.waits = ap (λ (x : Tally). x.total) c.lower.ensures.tally in
    let waits : n.waits ≡ t.waits = ap (λ (x : Tally). x.waits) c.lower.ensures.tally in
    let some : 0 < t.waits = tally_waits t c.args.ends.now i.agrees (omega (arith, i.less)) in
    let taken : c.lower.result ≡ c.loop-tally.rest / t.waits * t.waits = c.lower.ensures.taken ∙ ap (λ (x : ℕ). x * t.waits) i.level in
    let fits = div-mul-le_self c.loop-tally.rest t.waits in
    let few = few_left c.loop-tally.rest t.waits some in
    served_between c.args.time (c.loop-tally.rest - c.lower.result) c.args.tally.now n c.args.ends.now c.requires.agrees agrees (omega (arith, served, i.forward))
    (omega (arith, waits, taken, few)) (omega (arith, total, c.lower.ensures.taken, taken, fits, i.used, i.less))

pub returns-clause-agrees : goal.returns-clause-agrees
returns-clause-agrees c =
    let a = agrees_lowered c.loop-tally.tally c.lower.new.self c.args.ends.now c.loop-tally.level c.loop-tally.invariant.agrees (omega arith) c.lower.ensures.tally in
    record { total = a.total; waits = a.waits; spare = a.spare; latest = a.latest }
