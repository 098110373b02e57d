use Rattle.std.proofs.Common.{sym, ◌∙◌, arith, ap, not}
use Rattle.std.specs.List.{position}
use Rattle.ipx_settings.specs.Words.{is_blank}
use Rattle.ipx_settings.proofs.Parts.{word_from, word_placed, no_words}
use Rattle.ipx_settings.proofs.words.next_word.Goals as goal

pub returns-in-None-clause-word : goal.returns-in-None-clause-word
returns-in-None-clause-word c =
    rw (sym c.split_at.ensures.back) (no_words c.split_at.result.1.now (sym c.word_start.ensures ∙ c.in-None.is))

pub returns-in-Some-clause-word : goal.returns-in-Some-clause-word
returns-in-Some-clause-word c =
    word_from c.args.text.now c.split_at-in-Some.result.1.now c.args.from c.in-Some.blanks c.word_length.result c.split_at-in-Some.ensures.back c.word_length.ensures.value
    (ap (position (λ b. not (is_blank b))) (sym c.split_at.ensures.back) ∙ sym c.word_start.ensures ∙ c.in-Some.is)

pub returns-in-Some-clause-place : goal.returns-in-Some-clause-place
returns-in-Some-clause-place c =
    let placed = word_placed c.args.text.now c.split_at-in-Some.result.1.now c.args.from c.in-Some.blanks c.word_length.result c.requires c.split_at-in-Some.ensures.back c.word_length.ensures.value
    (ap (position (λ b. not (is_blank b))) (sym c.split_at.ensures.back) ∙ sym c.word_start.ensures ∙ c.in-Some.is) in
    (omega arith, omega (arith, placed.0), placed.1)
