use Rattle.std.proofs.Common.{◌≡◌, take, drop}
use Rattle.ipx_fair.specs.Queues.{lowered}
use Rattle.ipx_fair.proofs.serving.begin_anew.Given as goal

abbrev pub invariant-loop-end : goal.invariant-loop-end
invariant-loop-end l = record {
  front : take l.end-index l.end-items ≡ lowered l.tally.served (take l.end-index l.initial.end-items);
  rest : drop l.end-index l.end-items ≡ drop l.end-index l.initial.end-items;
}
