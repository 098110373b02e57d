use Rattle.std.proofs.Common.{sym, ap, ◌∙◌, subst, List, ◌≤◌, ◌*◌, length}
use Rattle.ipx_router.specs.Numbers.{most_ports}
use Rattle.ipx_router.specs.Relay.{relay_places}
use Rattle.ipx_router.specs.Port.{Port}
use Rattle.ipx_router.specs.Stands.{State}
use Rattle.ipx_router.proofs.router.Router.relay_need.Goals as goal

pub relay_need-requires : goal.relay_need-requires
relay_need-requires g c =
    let few : length c.deref.result.now ≤ most_ports = subst (λ (ps : List Port). length ps ≤ most_ports) (sym c.deref.ensures.0) c.self.invariant.few in
    search few

pub returns-clause-packets : goal.returns-clause-packets
returns-clause-packets g c =
    c.relay_need.ensures.packets ∙ ap relay_places c.deref.ensures.0 ∙ ap (λ (v : State). relay_places v.ports) c.self.view_is

pub returns-clause-bytes : goal.returns-clause-bytes
returns-clause-bytes g c =
    let length = c.args.packet.now.header.length in
    c.relay_need.ensures.bytes ∙ ap (λ (ps : List Port). relay_places ps * length) c.deref.ensures.0
    ∙ ap (λ (v : State). relay_places v.ports * length) c.self.view_is
