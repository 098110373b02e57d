use Rattle.std.proofs.Common.{◌≡◌, ◌-◌, ◌≤◌, max, take, vec_capacity, vec_len}
use Rattle.ipx_capture.proofs.window.lengthen.Given as goal

abbrev pub invariant-loop-bytes : goal.invariant-loop-bytes
invariant-loop-bytes l = record {
  longer : vec_len l.fn.bytes ≤ vec_len l.bytes;
  within : vec_len l.bytes ≤ max l.size (vec_len l.fn.bytes);
  front : take (vec_len l.fn.bytes) l.bytes.items ≡ l.fn.bytes.items;
  capacity : vec_capacity l.bytes ≡ vec_capacity l.fn.bytes;
}

abbrev pub decreases-loop-bytes : goal.decreases-loop-bytes
decreases-loop-bytes l = l.size - vec_len l.bytes
