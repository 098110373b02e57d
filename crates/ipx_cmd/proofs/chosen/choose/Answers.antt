use Rattle.std.proofs.Common.{ℕ, List, ap, sym, codes, map, option_map, ◌∙◌}
use Rattle.clap.specs.Simple.{is_simple, subcommand_of}
use Rattle.clap.specs.Takes.{takes}
use Rattle.clap.specs.Words.{found_of, rows_of}
use Rattle.clap.proofs.WalkLemmas.{first_value-rows}
use Rattle.ipx_cmd.proofs.acts.WordsOfTheProgram.{found, reads, simple, some_same, verb_first}
use Rattle.ipx_cmd.specs.Chosen.{command_line, word_of}
use Rattle.ipx_cmd.proofs.chosen.choose.Goals as goal

pub returns-in-Err : goal.returns-in-Err
returns-in-Err c = λ run file asked.
    let words : List (List ℕ) = map (λ word. word.now) c.args.words.now in
    c.fault_of.ensures.1 (c.in-Err.ensures.passes (ap (λ app. takes app words) c.in_ok-command.ensures ∙ (reads run words file asked).0))

pub returns-in_default-run_of : goal.returns-in_default-run_of
returns-in_default-run_of c = λ run file asked.
    let words : List (List ℕ) = map (λ word. word.now) c.args.words.now in
    let line = c.in_ok-command.ensures in
    let met = (c.in-Ok.ensures.matches (ap is_simple line ∙ simple)).1 ∙ ap (λ app. subcommand_of app words) line in
    let named = c.in-Some.ensures.name ∙ verb_first _ _ _ ∙ ap (option_map (λ p. p.0)) met ∙ (reads run words file asked).2 in
    absurd (c.in_default-run_of.not-Some run (c.run_of.ensures run (some_same c.in-Some.verb.now (word_of run) named)))

pub returns : goal.returns
returns c = λ run file asked.
    let words : List (List ℕ) = map (λ word. word.now) c.args.words.now in
    let line = c.in_ok-command.ensures in
    let met = (c.in-Ok.ensures.matches (ap is_simple line ∙ simple)).1 ∙ ap (λ app. subcommand_of app words) line in
    let named = c.in-Some.ensures.name ∙ verb_first _ _ _ ∙ ap (option_map (λ p. p.0)) met ∙ (reads run words file asked).2 in
    let rows = c.in-Some.ensures.rows ∙ ap (option_map (λ p. p.1)) met in
    let inner = found_of c.in-Some.inner.now in (
      some_same c.in-Some-run_of.run' run (sym c.in-Some-run_of.is ∙ c.run_of.ensures run (some_same c.in-Some.verb.now (word_of run) named)),
      c.in_ok-file.ensures ∙ first_value-rows inner (codes "file")
          ∙ found (rows_of inner) (subcommand_of command_line words) file rows (reads run words file asked).1,
    )
