use Rattle.std.proofs.Common.{List, ℕ, rules}
use Rattle.ipx_router.specs.Relays.{Sent, propagated_on}
use Rattle.ipx_router.proofs.sending.OneAfterAnother.{next_fits, next_pays, all_paid}
use Rattle.ipx_router.proofs.forwarding.propagation.propagate.Goals as goal

pub propagate_on-requires-clause-room : goal.propagate_on-requires-clause-room
propagate_on-requires-clause-room c =
    let on : ℕ → List Sent = propagated_on c.args.ports.now c.args.number c.args.packet.now in
    next_fits on c.args.up.now c.loop-out.out-index 0 c.loop-out-test.true c.loop-out.invariant c.requires.room

pub loop-out-preserved : goal.loop-out-preserved
loop-out-preserved c =
    let on : ℕ → List Sent = propagated_on c.args.ports.now c.args.number c.args.packet.now in
    next_pays on c.args.up.now c.loop-out.out-index 0 c.loop-out-test.true c.loop-out.invariant c.propagate_on.ensures

pub returns : goal.returns
returns c =
    let on : ℕ → List Sent = propagated_on c.args.ports.now c.args.number c.args.packet.now in
    all_paid on c.args.up.now c.loop-out.out-index (search rules) c.loop-out.invariant
