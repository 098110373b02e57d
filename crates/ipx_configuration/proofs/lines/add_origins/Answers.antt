use Rattle.std.proofs.Common.{sym, refl, ◌∙◌, ◌≡◌, arith, false, nat_lt}
use Rattle.std.proofs.lemmas.Bool.{le-ltb}
use Rattle.ipx_settings.specs.Words.{words, before_mark}
use Rattle.ipx_configuration.proofs.Adding.{origin_more, origin_full, origin_none, no_origin_left}
use Rattle.ipx_configuration.proofs.lines.add_origins.Goals as goal

pub returns-then-it-ge-MOST_RANGES : goal.returns-then-it-ge-MOST_RANGES
returns-then-it-ge-MOST_RANGES c =
    let full : nat_lt c.loop-number.it.count 16 ≡ false = le-ltb c.loop-number.it.count 16 c.if-it-ge-MOST_RANGES.true in
    sym (c.loop-number.invariant
    ∙ origin_full c.loop-number.it c.loop-number.number (words (before_mark c.args.text.now)) c.args.read c.in-Some.found.now c.in-Some-origin.text
    (sym c.word.ensures ∙ rw c.in-Some.is refl) c.loop-number-test.true (sym c.origin.ensures ∙ c.in-Some-origin.is) full)

pub returns-in-None-origin : goal.returns-in-None-origin
returns-in-None-origin c =
    sym (c.loop-number.invariant
    ∙ origin_none c.loop-number.it c.loop-number.number (words (before_mark c.args.text.now)) c.args.read c.in-Some.found.now
    (sym c.word.ensures ∙ rw c.in-Some.is refl) c.loop-number-test.true (sym c.origin.ensures ∙ c.in-None-origin.is))

pub returns-in-None : goal.returns-in-None
returns-in-None c =
    sym (c.loop-number.invariant
    ∙ no_origin_left c.loop-number.it c.loop-number.number (words (before_mark c.args.text.now)) c.args.read (sym c.word.ensures ∙ rw c.in-None.is refl))

pub loop-number-preserved : goal.loop-number-preserved
loop-number-preserved c =
    let origin = c.in-Some-origin.text in
    let more =
    origin_more c.loop-number.it c.loop-number.number (words (before_mark c.args.text.now)) c.args.read c.in-Some.found.now origin
    (sym c.word.ensures ∙ rw c.in-Some.is refl) c.loop-number-test.true (sym c.origin.ensures ∙ c.in-Some-origin.is) (omega arith) in
    rw c.with-it.ensures (c.loop-number.invariant ∙ more)
