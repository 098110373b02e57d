use Rattle.std.proofs.Common.{List, sym, subst}
use Rattle.ipx_router.specs.Stands.{State}
use Rattle.ipx_internet.specs.inside.Simulated.{IsSimulated}
use Rattle.ipx_internet.proofs.internet.Internet.new.Goals as goal
use Rattle.ipx_internet.proofs.places.WithoutRouters.{begins}

pub invariant_of-result : goal.invariant_of-result
invariant_of-result g c =
    subst (λ (rs : List State). IsSimulated g.row.R g.row.S rs c.new-2.result.list c.new-3.result.deliveries 0 c.new-4.result.deliveries) (sym c.new.ensures.items)
    (begins g.row.R g.row.S c.new-2.result.list c.new-3.result.deliveries c.new-4.result.deliveries c.new-2.ensures c.new-3.ensures c.new-4.ensures)
