use Rattle.std.proofs.Common.{refl, length, Some, None}
use Rattle.ipx_internet.specs.Run.{run_of}
use Rattle.ipx_internet.specs.Ticks.{ticked}
use Rattle.ipx_laws.specs.Ups.{ups}
use Rattle.ipx_laws.proofs.laws.apart.arrives_apart.Goals as goal
use Rattle.ipx_laws.proofs.tables.AnyTablesBecomeRight.{from_any}
use Rattle.ipx_laws.proofs.tables.LeastWays.{ups_within}
use Rattle.ipx_laws.proofs.tables.PacketsArrive.{goes}
use Rattle.ipx_laws.proofs.tables.TablesAreRight.{some_ticks, all_ticks}
use Rattle.ipx_laws.proofs.ticks.TickAfterTick.{ticks_beside}

pub returns : goal.returns
returns c = record {
  goes = λ net most_routes most_services foreign run first ticks place bytes p way (is, differ, suffice, cheap, room, are, unlisted) (rest, leaves, calm)
      (there, on, are_bytes, is_packet, of_host, away, least, short, few_control) sure.
      let next = run_of net most_routes most_services run first in
      let to = p.header.destination in
      let long = some_ticks (Some way) (length ticks) sure in
      goes net c.layouts.ensures is differ cheap (ups net run.histories) (ups_within net run.histories) most_routes most_services foreign room to suffice
      unlisted (length ticks) (ticked net most_routes most_services next ticks)
      (from_any net c.layouts.ensures is differ cheap most_routes most_services foreign room to.network unlisted run are suffice first ticks rest leaves
      (ticks_beside net most_routes most_services foreign next ticks calm) long) long
      way.hops place.router place.port 0 None bytes p way there on away are_bytes is_packet refl of_host short few_control least refl (all_ticks way (length ticks) sure);
}
