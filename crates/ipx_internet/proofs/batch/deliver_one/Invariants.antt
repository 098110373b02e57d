use Rattle.std.proofs.Common.{◌≡◌, ◌+◌, ◌≤◌, ◌++◌, map, drop}
use Rattle.std.specs.List.{filter}
use Rattle.std.specs.Vec.{vec_len, vec_capacity}
use Rattle.ipx_internet.specs.Batches.{pending_at}
use Rattle.ipx_internet.specs.inside.Stations.{hears}
use Rattle.ipx_internet.proofs.batch.deliver_one.Given as goal

abbrev pub invariant-loop-station : goal.invariant-loop-station
invariant-loop-station l =
    (l.initial.pending.items ++ map (pending_at l.packet) (filter (hears l.number l.link) l.stations)
    ≡ l.pending.items ++ map (pending_at l.packet) (filter (hears l.number l.link) (drop l.station-index l.stations)))
    × (vec_len l.pending ≤ vec_len l.initial.pending + l.station-index)
    × (vec_capacity l.pending ≡ vec_capacity l.initial.pending)
