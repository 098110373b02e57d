use Rattle.std.proofs.Common.{◌∙◌, ap, ◌==◌, take_all}
use Rattle.std.specs.List.{list_any}
use Rattle.ipx_table.proofs.Clocks.{any-more}
use Rattle.ipx_table.proofs.clock.has_slot.Goals as goal

pub loop-other-preserved : goal.loop-other-preserved
loop-other-preserved c = any-more c.args.slot c.args.slots.now c.loop-other.other-index c.loop-other.any c.loop-other-test.true c.loop-other.invariant

pub returns : goal.returns
returns c = c.loop-other.invariant ∙ ap (list_any (λ s. s == c.args.slot)) (take_all c.loop-other.other-index c.args.slots.now c.loop-other-test.false)
