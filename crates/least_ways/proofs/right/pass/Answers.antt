use Rattle.std.proofs.Common.{◌∙◌, rules}
use Rattle.ipx_internet.specs.Passed.{HasTicked}
use Rattle.least_ways.proofs.right.pass.Goals as goal

pub loop-preserved : goal.loop-preserved
loop-preserved g c =
    let one : HasTicked g.row.R g.row.S 1 c.loop.internet c.second.new.self = search rules in (
      c.second.ensures.net ∙ c.loop.invariant.0,
      c.seconds_pass.ensures.one_more g.row.R g.row.S c.loop.counter c.args.internet.now c.loop.internet c.second.new.self c.loop.invariant.0 c.loop.invariant.1 one,
    )
