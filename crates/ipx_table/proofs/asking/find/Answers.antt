use Rattle.std.proofs.Common.{◌≡◌, refl, ◌∙◌, ap, ◌+◌, ◌-◌, ◌/◌, ◌<◌, nat_lt, arith}
use Rattle.std.proofs.lemmas.Bool.{le-ltb}
use Rattle.ipx_table.specs.Answers.{Answers, answer_at}
use Rattle.ipx_table.proofs.Narrowing.{narrow, narrow_start, met_now}
use Rattle.ipx_table.proofs.asking.find.Goals as goal

pub loop-size-init : goal.loop-size-init
loop-size-init g c =
    let a = g.A.Asked.answers c.args.asked.now in
    let len = c.len-len.result in (
      rw (le-ltb len len (omega arith), c.requires.unasked, c.len-len.ensures) (narrow_start a),
      refl,
      omega (arith, c.len-len.ensures, c.len-len.type_inv),
    )

pub ask-answer-requires-clause-few : goal.ask-answer-requires-clause-few
ask-answer-requires-clause-few g c =
    let s = c.loop-size.invariant.0.spare 64 c.loop-size.invariant.2 in
    omega (arith, s.1)

pub loop-size-preserved : goal.loop-size-preserved
loop-size-preserved g c =
    let a = g.A.Asked.answers c.args.asked.now in
    let place = c.loop-size.low + (c.loop-size.size - 1) / 2 in
    let answer : c.ask-answer.result ≡ answer_at a place =
    c.ask-answer.ensures.answer ∙ ap (λ (b : Answers). answer_at b place) c.loop-size.invariant.1 in
    let some : 0 < c.loop-size.size = omega (arith, c.loop-size-test.true) in
    let before : place < c.len-len.result = omega (arith, some, c.loop-size.invariant.0.within, c.len-len.ensures) in (
      rw (c.select_unpredictable-low.ensures, c.select_unpredictable-met.ensures, c.is_lt.ensures, c.is_eq.ensures, met_now c.ask-answer.result place c.loop-size.met c.len-len.result before, c.ask-answer.ensures.counted)
          (narrow a c.loop-size.low c.loop-size.size (nat_lt c.loop-size.met c.len-len.result) (g.A.Asked.asks c.loop-size.asked) c.loop-size.invariant.0 some c.ask-answer.result answer),
      c.ask-answer.ensures.same ∙ c.loop-size.invariant.1,
      c.loop-size.invariant.2,
    )
