use Rattle.ipx_edge.proofs.Held.{held, forwarded_is}
use Rattle.ipx_edge.proofs.laws.holds_what_routers_carried.Goals as goal

pub returns-clause-held : goal.returns-clause-held
returns-clause-held c = held

pub returns-clause-forwarded : goal.returns-clause-forwarded
returns-clause-forwarded c = forwarded_is
