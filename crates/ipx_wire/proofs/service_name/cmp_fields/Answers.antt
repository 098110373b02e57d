use Rattle.std.proofs.Common.{◌≡◌, ◌+◌, ◌*◌, ◌∙◌, ℕ, sym, subst, take, arith}
use Rattle.ipx_wire.proofs.FieldOrder.{word_decides, word_more, all_equal}
use Rattle.ipx_wire.proofs.service_name.cmp_fields.Goals as goal

pub returns-then-one-other : goal.returns-then-one-other
returns-then-one-other c =
    c.cmp.ensures
    ∙ sym (word_decides c.args.a.now c.args.b.now (8 * c.loop-k.k) c.word_at-one.result c.word_at-other.result (omega (arith, c.requires.a)) (omega (arith, c.requires.b))
    (λ i. omega (arith, c.type_inv.a i)) (λ i. omega (arith, c.type_inv.b i)) c.loop-k.invariant c.word_at-one.ensures c.word_at-other.ensures c.if-one-other.true)

pub loop-k-preserved : goal.loop-k-preserved
loop-k-preserved c =
    let next : 8 * (c.loop-k.k + 1) ≡ 8 * c.loop-k.k + 8 = omega arith in
    subst (λ (n : ℕ). take n c.args.a.now ≡ take n c.args.b.now) (sym next)
    (word_more c.args.a.now c.args.b.now (8 * c.loop-k.k) c.word_at-one.result (omega (arith, c.requires.a)) (omega (arith, c.requires.b))
    (λ i. omega (arith, c.type_inv.a i)) (λ i. omega (arith, c.type_inv.b i)) c.loop-k.invariant c.word_at-one.ensures (c.if-one-other.false ∙ c.word_at-other.ensures))

pub returns : goal.returns
returns c =
    let whole : 8 * c.loop-k.k ≡ 48 = omega arith in
    sym (all_equal c.args.a.now c.args.b.now c.requires.a c.requires.b (subst (λ (n : ℕ). take n c.args.a.now ≡ take n c.args.b.now) whole c.loop-k.invariant))
