use Rattle.std.proofs.Common.{sym, ◌∙◌, subst, List}
use Rattle.ipx_router.specs.inside.Following.{sends_between}
use Rattle.ipx_router.specs.Happened.{happened}
use Rattle.ipx_router.specs.Outbox.{Appends}
use Rattle.ipx_router.specs.Relays.{Sent}
use Rattle.ipx_router.proofs.histories.StandsOneEventMore.{follows, sends_stand, outcome_stand}
use Rattle.ipx_router.proofs.router.Router.handle.Goals as goal

pub returns-clause-stands : goal.returns-clause-stands
returns-clause-stands g c = λ h stands.
    follows g.row.R g.row.S c.args.self.now h stands c.dispatch.new.self (happened c.args.event) c.dispatch.ensures.follows c.requires.port

pub returns-clause-sends : goal.returns-clause-sends
returns-clause-sends g c = λ h stands.
    let later = follows g.row.R g.row.S c.args.self.now h stands c.dispatch.new.self (happened c.args.event) c.dispatch.ensures.follows c.requires.port in
    subst (λ (ps : List Sent). Appends c.args.outbox.now c.dispatch.new.outbox ps)
    (sym (sends_stand g.row.R g.row.S c.args.self.now c.dispatch.new.self h (happened c.args.event) stands later c.dispatch.ensures.follows.ports))
    c.dispatch.ensures.sends

pub returns-clause-memory : goal.returns-clause-memory
returns-clause-memory g c = c.dispatch.ensures.sends.memory

pub returns-clause-outcome : goal.returns-clause-outcome
returns-clause-outcome g c = λ h stands.
    c.dispatch.ensures.outcome ∙ sym (outcome_stand g.row.R g.row.S c.args.self.now h (happened c.args.event) stands)

pub returns-clause-bounds : goal.returns-clause-bounds
returns-clause-bounds g c =
    let within = c.proves_within.ensures c.dispatch.new.self c.dispatch.ensures.follows in
    record {
      packets = sends_between c.args.self.now c.dispatch.new.self (happened c.args.event);
      appended = c.dispatch.ensures.sends.sent;
      few = within.few;
      short = within.short;
    }

pub returns-clause-capacity : goal.returns-clause-capacity
returns-clause-capacity g c = (c.proves_within.ensures c.dispatch.new.self c.dispatch.ensures.follows).capacity

pub returns-clause-route_shares : goal.returns-clause-route_shares
returns-clause-route_shares g c = (c.proves_within.ensures c.dispatch.new.self c.dispatch.ensures.follows).route_shares

pub returns-clause-service_shares : goal.returns-clause-service_shares
returns-clause-service_shares g c = (c.proves_within.ensures c.dispatch.new.self c.dispatch.ensures.follows).service_shares

pub returns-clause-route_room : goal.returns-clause-route_room
returns-clause-route_room g c = (c.proves_within.ensures c.dispatch.new.self c.dispatch.ensures.follows).route_room

pub returns-clause-service_room : goal.returns-clause-service_room
returns-clause-service_room g c = (c.proves_within.ensures c.dispatch.new.self c.dispatch.ensures.follows).service_room
