use Rattle.std.proofs.Common.{◌≡◌, ◌∙◌, sym, ap, true, [], append-nil, arith}
use Rattle.ipx_router.specs.Facts.{offers}
use Rattle.ipx_router.specs.Relay.{relay_why}
use Rattle.ipx_router.proofs.relays.AskedFits.{drops, sends_none, lets_pass, sends_on}
use Rattle.ipx_router.proofs.forwarding.sending_on.relay.Goals as goal

pub returns-in-Ok-clause-outcome : goal.returns-in-Ok-clause-outcome
returns-in-Ok-clause-outcome g c =
    let routes = offers c.args.routes.now.records in
    let runs : c.args.running ≡ true = c.if-not-running.false in
    lets_pass c.args.ports.now c.args.up.now routes c.args.number c.args.packet.now c.args.running c.send_on.result
    (ap (λ b. relay_why c.args.ports.now c.args.up.now routes b c.args.number c.args.packet.now) runs ∙ c.in-Ok.ensures.cleared) c.send_on.ensures.outcome

pub returns-in-Ok-clause-sends : goal.returns-in-Ok-clause-sends
returns-in-Ok-clause-sends g c =
    let routes = offers c.args.routes.now.records in
    let runs : c.args.running ≡ true = c.if-not-running.false in
    sends_on c.args.ports.now c.args.up.now routes c.args.number c.args.packet.now c.args.running c.args.outbox.now c.send_on.new.outbox
    (ap (λ b. relay_why c.args.ports.now c.args.up.now routes b c.args.number c.args.packet.now) runs ∙ c.in-Ok.ensures.cleared) c.send_on.ensures.sends

pub returns-in-Err-clause-outcome : goal.returns-in-Err-clause-outcome
returns-in-Err-clause-outcome g c =
    let routes = offers c.args.routes.now.records in
    let runs : c.args.running ≡ true = c.if-not-running.false in
    drops c.args.ports.now c.args.up.now routes c.args.number c.args.packet.now c.args.running c.in-Err.why
    (ap (λ b. relay_why c.args.ports.now c.args.up.now routes b c.args.number c.args.packet.now) runs ∙ c.in-Err.ensures.refused)

pub returns-in-Err-clause-sends : goal.returns-in-Err-clause-sends
returns-in-Err-clause-sends g c =
    let routes = offers c.args.routes.now.records in
    let runs : c.args.running ≡ true = c.if-not-running.false in
    sends_none c.args.ports.now c.args.up.now routes c.args.number c.args.packet.now c.args.running c.args.outbox.now c.in-Err.why
    (ap (λ b. relay_why c.args.ports.now c.args.up.now routes b c.args.number c.args.packet.now) runs ∙ c.in-Err.ensures.refused)

pub returns-in-Err-clause-bounds : goal.returns-in-Err-clause-bounds
returns-in-Err-clause-bounds g c = record { packets = []; appended = sym (append-nil c.args.outbox.now.sent); few = omega arith; short = tt }
