use Rattle.std.proofs.Common.{List, ℕ, drop}
use Rattle.std.specs.List.{flat_map}
use Rattle.ipx_router.specs.inside.Owed.{Pays}
use Rattle.ipx_router.specs.Relays.{Sent, propagated_on}
use Rattle.ipx_router.proofs.forwarding.propagation.propagate.Given as goal

abbrev pub invariant-loop-out : goal.invariant-loop-out
invariant-loop-out l =
    let on : ℕ → List Sent = propagated_on l.ports l.number l.packet in
    Pays l.initial.outbox l.outbox (flat_map on l.up) (flat_map on (drop l.out-index l.up))
