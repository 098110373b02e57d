use Rattle.std.proofs.Common.{◌≡◌, take}
use Rattle.ipx_c.proofs.keyed_machine.put_own.Given as goal

abbrev pub invariant-loop-datagram : goal.invariant-loop-datagram
invariant-loop-datagram l = record {
  items : l.list.items ≡ take l.datagram-index l.own.items;
}
