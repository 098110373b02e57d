use Rattle.std.proofs.Common.{◌+◌, ◌≤◌, length}
use Rattle.ipx_internet.proofs.places.StationsOfOneMore.{HasFirst}
use Rattle.ipx_internet.proofs.stations.Stations.add.Given as goal

abbrev pub invariant-loop-k : goal.invariant-loop-k
invariant-loop-k g l = record {
  first : HasFirst l.number l.router.ports l.k l.fn.self.list l.self.list;
  room : length l.router.ports ≤ l.self.places + l.k;
}
