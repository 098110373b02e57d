use Rattle.std.proofs.Common.{◌∙◌, sym, ap, arith, List, ℕ, length, Some}
use Rattle.std.proofs.lemmas.List.{take_all}
use Rattle.ipx_edge.specs.declared.filtering.Verdict.{Verdict}
use Rattle.ipx_edge.specs.inside.Verdict.{done}
use Rattle.ipx_edge.proofs.Fitting.{done_is}
use Rattle.ipx_edge.proofs.filtering.filter.Goals as goal

pub returns-in-Denied-clause-passes : goal.returns-in-Denied-clause-passes
returns-in-Denied-clause-passes c =
    ap (λ (v : Verdict). done c.args.way c.args.rules.now v c.args.bytes.now) (sym c.in-Denied.is ∙ c.judge.ensures.value)
    ∙ done_is c.args.way c.args.port.now c.args.rules.now c.args.bytes.now

pub returns-in-Whole-clause-passes : goal.returns-in-Whole-clause-passes
returns-in-Whole-clause-passes c =
    ap (λ (l : List ℕ). Some l) (take_all (length c.args.bytes.now) c.args.bytes.now (omega arith))
    ∙ ap (λ (v : Verdict). done c.args.way c.args.rules.now v c.args.bytes.now) (sym c.in-Whole.is ∙ c.judge.ensures.value)
    ∙ done_is c.args.way c.args.port.now c.args.rules.now c.args.bytes.now

pub returns-in-Entries-clause-passes : goal.returns-in-Entries-clause-passes
returns-in-Entries-clause-passes c =
    c.leave.ensures.passes
    ∙ ap (λ (v : Verdict). done c.args.way c.args.rules.now v c.args.bytes.now) (sym c.in-Entries.is ∙ c.judge.ensures.value)
    ∙ done_is c.args.way c.args.port.now c.args.rules.now c.args.bytes.now
