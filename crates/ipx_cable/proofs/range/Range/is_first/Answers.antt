use Rattle.ipx_cable.proofs.Fronts.{first_of_range}
use Rattle.ipx_cable.proofs.range.Range.is_first.Goals as goal

pub returns : goal.returns
returns c = rw c.behind.ensures.value (first_of_range c.number.result c.args.self.now.bits c.args.self.now.host c.number.ensures.value)
