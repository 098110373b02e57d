use Rattle.std.proofs.Common.{◌∙◌, ap, subst, sym, arith, [], ◌∷◌, append-nil, Option, Some}
use Rattle.std.specs.List.{flat_map}
use Rattle.ipx_wire.specs.Forward.{forwarded}
use Rattle.ipx_wire.specs.Write.{packet_bytes}
use Rattle.ipx_router.specs.inside.CheckGroups.{GoesAs}
use Rattle.ipx_router.specs.Facts.{offers}
use Rattle.ipx_router.specs.Port.{port_at}
use Rattle.ipx_router.specs.Relays.{propagated_on}
use Rattle.ipx_router.specs.declared.judging.checks.Onward.{Onward}
use Rattle.ipx_router.proofs.relays.AskedFits.{few_propagated, short_propagated, propagated_fit, forwarded_fits}
use Rattle.ipx_router.proofs.forwarding.sending_on.send_on.Goals as goal

pub propagate-requires-clause-room : goal.propagate-requires-clause-room
propagate-requires-clause-room g c =
    let passed = subst (λ (f : Option Onward). GoesAs c.args.ports.now c.args.up.now (offers c.args.routes.now.records) (port_at c.args.ports.now c.args.number) c.args.packet.now f)
    (c.in-Some-Propagate.is ∙ ap Some c.in-Some-Propagate.field-0-is) c.requires.onward in
    propagated_fit c.args.ports.now c.args.number c.args.packet.now c.proves_lengths.ensures.propagated c.in-Some-Propagate.crossed passed.1 c.args.up.now c.args.outbox.now
    c.requires.up c.requires.few c.requires.room

pub append_forwarded-requires-clause-room : goal.append_forwarded-requires-clause-room
append_forwarded-requires-clause-room g c =
    forwarded_fits c.args.ports.now c.args.number c.args.packet.now c.in-Some-Forward.port c.in-Some-Forward.link c.args.outbox.now c.proves_lengths.ensures.forwarded c.requires.room

pub returns-in-Some-Propagate-clause-bounds : goal.returns-in-Some-Propagate-clause-bounds
returns-in-Some-Propagate-clause-bounds g c =
    let ports = c.args.ports.now in
    let passed = subst (λ (f : Option Onward). GoesAs ports c.args.up.now (offers c.args.routes.now.records) (port_at ports c.args.number) c.args.packet.now f)
    (c.in-Some-Propagate.is ∙ ap Some c.in-Some-Propagate.field-0-is) c.requires.onward in
    record {
      packets = flat_map (propagated_on ports c.args.number c.args.packet.now) c.args.up.now;
      appended = c.propagate.ensures.sent;
      few = few_propagated ports c.args.number c.args.packet.now c.args.up.now c.requires.up c.requires.few;
      short = short_propagated ports c.args.number c.args.packet.now c.proves_lengths.ensures.propagated c.in-Some-Propagate.crossed passed.1 c.args.up.now;
    }

pub returns-in-Some-Forward-clause-bounds : goal.returns-in-Some-Forward-clause-bounds
returns-in-Some-Forward-clause-bounds g c =
    let long = c.proves_lengths.ensures.forwarded in
    record {
      packets = record { port = c.in-Some-Forward.port; link = c.in-Some-Forward.link; bytes = packet_bytes (forwarded c.args.packet.now) } ∷ [];
      appended = c.append_forwarded.ensures.sent;
      few = omega arith;
      short = (omega (arith, long), tt);
    }

pub returns-in-None-clause-bounds : goal.returns-in-None-clause-bounds
returns-in-None-clause-bounds g c = record { packets = []; appended = sym (append-nil c.args.outbox.now.sent); few = omega arith; short = tt }

pub propagate-requires-clause-listed : goal.propagate-requires-clause-listed
propagate-requires-clause-listed g c = grind arith

pub append_forwarded-requires-clause-control : goal.append_forwarded-requires-clause-control
append_forwarded-requires-clause-control g c = grind arith

pub returns-in-Some-Propagate-clause-outcome : goal.returns-in-Some-Propagate-clause-outcome
returns-in-Some-Propagate-clause-outcome g c = grind arith

pub returns-in-Some-Propagate-clause-sends : goal.returns-in-Some-Propagate-clause-sends
returns-in-Some-Propagate-clause-sends g c = grind arith

pub returns-in-Some-Forward-clause-outcome : goal.returns-in-Some-Forward-clause-outcome
returns-in-Some-Forward-clause-outcome g c = grind arith

pub returns-in-Some-Forward-clause-sends : goal.returns-in-Some-Forward-clause-sends
returns-in-Some-Forward-clause-sends g c = grind arith

pub returns-in-None-clause-outcome : goal.returns-in-None-clause-outcome
returns-in-None-clause-outcome g c = grind arith
