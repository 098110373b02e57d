use Rattle.std.proofs.Common.{sym, ◌∙◌}
use Rattle.ipx_internet.specs.Traced.{router_of}
use Rattle.ipx_internet.proofs.listing.relay.Goals as goal
use Rattle.ipx_internet.proofs.trees.SentOnAsTreesSay.{of_packet, outcome_of_packet}

pub returns-in-Ok-clause-sent : goal.returns-in-Ok-clause-sent
returns-in-Ok-clause-sent g c =
    rw (of_packet (router_of c.args.router.now) c.args.port c.args.bytes.now _ (sym c.read.ensures.value ∙ c.in-Ok.is)) c.relay_packet.ensures.sent

pub returns-in-Ok-clause-outcome : goal.returns-in-Ok-clause-outcome
returns-in-Ok-clause-outcome g c =
    rw (outcome_of_packet (router_of c.args.router.now) c.args.port c.args.bytes.now _ (sym c.read.ensures.value ∙ c.in-Ok.is))
    c.relay_packet.ensures.outcome

pub relay_packet-requires : goal.relay_packet-requires
relay_packet-requires g c = first_of (assumption c.well_formed, search c.well_formed)

pub is_running-requires : goal.is_running-requires
is_running-requires g c = first_of (assumption c.well_formed, search c.well_formed)
