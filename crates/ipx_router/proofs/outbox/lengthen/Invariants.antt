use Rattle.std.proofs.Common.{◌≡◌, ◌-◌, ◌≤◌, take, vec_capacity, vec_len}
use Rattle.ipx_router.proofs.outbox.lengthen.Given as goal

abbrev pub invariant-loop-bytes : goal.invariant-loop-bytes
invariant-loop-bytes l = record {
  longer : vec_len l.fn.bytes ≤ vec_len l.bytes;
  front : take (vec_len l.fn.bytes) l.bytes.items ≡ l.fn.bytes.items;
  capacity : vec_capacity l.bytes ≡ vec_capacity l.fn.bytes;
}

abbrev pub decreases-loop-bytes : goal.decreases-loop-bytes
decreases-loop-bytes l = vec_capacity l.bytes - vec_len l.bytes
