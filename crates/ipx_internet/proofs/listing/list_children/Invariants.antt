use Rattle.std.proofs.Common.{◌≡◌, ◌≤◌, ◌++◌, drop, length}
use Rattle.std.specs.Vec.{vec_capacity}
use Rattle.ipx_internet.specs.Listed.{sent_bytes, listed_from, Fills}
use Rattle.ipx_internet.proofs.listing.list_children.Given as goal

abbrev pub invariant-loop-packet : goal.invariant-loop-packet
invariant-loop-packet g l = record {
  fills : Fills l.limit l.initial.list.items l.list.items (listed_from l.stations.list l.router.ports l.parent (length l.initial.store.items) l.outbox.sent)
      (listed_from l.stations.list l.router.ports l.parent (length l.store.items) (drop l.packet l.outbox.sent));
  joins : l.store.items ++ sent_bytes (drop l.packet l.outbox.sent) ≡ l.initial.store.items ++ sent_bytes l.outbox.sent;
  list_capacity : vec_capacity l.initial.list ≤ vec_capacity l.list;
  store_capacity : vec_capacity l.initial.store ≤ vec_capacity l.store;
}
