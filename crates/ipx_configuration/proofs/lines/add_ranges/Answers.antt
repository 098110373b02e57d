use Rattle.std.proofs.Common.{sym, refl, ◌∙◌, ◌≡◌, arith, false, nat_lt}
use Rattle.std.proofs.lemmas.Bool.{le-ltb}
use Rattle.ipx_settings.specs.Words.{words, before_mark}
use Rattle.ipx_configuration.proofs.Adding.{range_more, range_full, range_none, no_range_left}
use Rattle.ipx_configuration.proofs.lines.add_ranges.Goals as goal

pub returns-then-it-ge-MOST_RANGES : goal.returns-then-it-ge-MOST_RANGES
returns-then-it-ge-MOST_RANGES c =
    let full : nat_lt c.loop-number.it.count 16 ≡ false = le-ltb c.loop-number.it.count 16 c.if-it-ge-MOST_RANGES.true in
    sym (c.loop-number.invariant
    ∙ range_full c.loop-number.it c.loop-number.number (words (before_mark c.args.text.now)) c.args.read c.in-Some.found.now c.in-Some-read_range.range
    (sym c.word.ensures ∙ rw c.in-Some.is refl) c.loop-number-test.true (sym c.read_range.ensures ∙ c.in-Some-read_range.is) full)

pub returns-in-None-read_range : goal.returns-in-None-read_range
returns-in-None-read_range c =
    sym (c.loop-number.invariant
    ∙ range_none c.loop-number.it c.loop-number.number (words (before_mark c.args.text.now)) c.args.read c.in-Some.found.now
    (sym c.word.ensures ∙ rw c.in-Some.is refl) c.loop-number-test.true (sym c.read_range.ensures ∙ c.in-None-read_range.is))

pub returns-in-None : goal.returns-in-None
returns-in-None c =
    sym (c.loop-number.invariant
    ∙ no_range_left c.loop-number.it c.loop-number.number (words (before_mark c.args.text.now)) c.args.read (sym c.word.ensures ∙ rw c.in-None.is refl))

pub loop-number-preserved : goal.loop-number-preserved
loop-number-preserved c =
    let range = c.in-Some-read_range.range in
    let more =
    range_more c.loop-number.it c.loop-number.number (words (before_mark c.args.text.now)) c.args.read c.in-Some.found.now range
    (sym c.word.ensures ∙ rw c.in-Some.is refl) c.loop-number-test.true (sym c.read_range.ensures ∙ c.in-Some-read_range.is) (omega arith) in
    rw c.with-it.ensures (c.loop-number.invariant ∙ more)
