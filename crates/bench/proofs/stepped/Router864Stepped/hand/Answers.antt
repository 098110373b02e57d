use Rattle.std.proofs.Common.{rules}
use Rattle.bench.proofs.stepped.Router864Stepped.hand.Goals as goal

pub is_on_port-requires : goal.is_on_port-requires
is_on_port-requires g c = first_of (assumption c.well_formed, search c.well_formed)

pub step-requires : goal.step-requires
step-requires g c = (first_of (assumption c.well_formed, search c.well_formed), search rules)
