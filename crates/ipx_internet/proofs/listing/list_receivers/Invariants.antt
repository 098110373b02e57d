use Rattle.std.proofs.Common.{◌≤◌, map, filter, drop}
use Rattle.std.specs.Vec.{vec_capacity}
use Rattle.ipx_internet.specs.Listed.{child, Fills}
use Rattle.ipx_internet.specs.inside.Stations.{hears}
use Rattle.ipx_internet.proofs.listing.list_receivers.Given as goal

abbrev pub invariant-loop-station : goal.invariant-loop-station
invariant-loop-station l = record {
  fills : Fills l.limit l.initial.list.items l.list.items (map (child l.parent l.start l.size) (filter (hears l.parent.router l.link) l.stations))
      (map (child l.parent l.start l.size) (filter (hears l.parent.router l.link) (drop l.station-index l.stations)));
  capacity : vec_capacity l.initial.list ≤ vec_capacity l.list;
}
