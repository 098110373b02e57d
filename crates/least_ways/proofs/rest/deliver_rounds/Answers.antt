use Rattle.std.proofs.Common.{◌∙◌, refl}
use Rattle.least_ways.proofs.RoundsInMemory.{one_more}
use Rattle.least_ways.proofs.rest.deliver_rounds.Goals as goal

pub loop-init : goal.loop-init
loop-init g c = (refl, λ q stands. stands)

pub loop-preserved : goal.loop-preserved
loop-preserved g c = (
  c.settle.ensures.net ∙ c.loop.invariant.0,
  one_more g.row.R g.row.S c.loop.counter c.args.internet.now c.loop.internet c.settle.new.self c.waiting.result c.loop.invariant.0 c.waiting.ensures
      c.loop.invariant.1 c.in_ok-settle.ensures.settled,
)
