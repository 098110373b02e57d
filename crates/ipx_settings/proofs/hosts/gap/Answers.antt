use Rattle.std.proofs.Common.{sym, ◌∙◌, arith}
use Rattle.ipx_settings.proofs.Gaps.{none_left}
use Rattle.ipx_settings.proofs.hosts.gap.Goals as goal

pub returns-clause-value : goal.returns-clause-value
returns-clause-value c =
    sym (c.loop-place.invariant.0 ∙ none_left c.args.text.now c.loop-place.place (omega (arith, c.loop-place-test.false)))
