use Rattle.std.proofs.Common.{◌≡◌, ◌+◌, ◌-◌, ◌*◌, ◌≤◌, ◌++◌, drop, length}
use Rattle.std.specs.List.{flat_map}
use Rattle.std.specs.Vec.{vec_len, vec_capacity}
use Rattle.ipx_internet.specs.Batches.{AreWithin, deliveries_in, heard}
use Rattle.ipx_internet.proofs.batch.deliver.Given as goal

abbrev pub invariant-loop-packet : goal.invariant-loop-packet
invariant-loop-packet g l =
    (deliveries_in l.outbox.sent l.initial.pending.items ++ flat_map (heard l.stations.list l.router.ports l.number) (drop l.before l.outbox.sent)
    ≡ deliveries_in l.outbox.sent l.pending.items ++ flat_map (heard l.stations.list l.router.ports l.number) (drop l.packet l.outbox.sent))
    × (vec_len l.pending + (length l.outbox.sent - l.packet) * l.stations.most ≤ vec_capacity l.pending)
    × (AreWithin l.outbox.sent l.initial.pending.items → AreWithin l.outbox.sent l.pending.items)
