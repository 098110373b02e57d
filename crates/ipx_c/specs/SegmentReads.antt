-- What C reads of a segment: the links that get the packet of its last event, its links and its stations.
use Rattle.std.specs.Prelude.{ℕ, length, slice_get, Option, None, Some, Result, Ok, Err}
use Rattle.ipx_wire.specs.declared.address.Address.{Address}
use Rattle.ipx_wire.specs.declared.node.Node.{Node}
use Rattle.ipx_segment.specs.Nodes.{next_node}
use Rattle.ipx_segment.specs.declared.link.Link.{Link}
use Rattle.ipx_segment.specs.declared.station.Station.{Station}
use Rattle.ipx_c.specs.Reads.{record_at}
use Rattle.ipx_c.specs.SegmentValues.{link_record, station_record}
use Rattle.ipx_c.specs.declared.fault.Fault.{Fault}
use Rattle.ipx_c.specs.declared.fault.Fault.TheVariants.{NoSegment, NoLink}
use Rattle.ipx_c.specs.declared.segment_machine.SegmentMachine.{SegmentMachine}
use Rattle.ipx_c.specs.declared.segment_values.LinkValues.{LinkValues}
use Rattle.ipx_c.specs.declared.segment_values.StationRecord.{StationRecord}

-- ---- the packet

-- the links that get it
abbrev pub receiver_count : Option SegmentMachine → ℕ
receiver_count None = 0
receiver_count (Some machine) = length machine.to.items

-- the one of that number, counted from 0
abbrev pub receiver_at : Option SegmentMachine → ℕ → Result ℕ Fault
receiver_at None index = Err NoSegment
receiver_at (Some machine) index = record_at machine.to.items index

-- what C has of it then
abbrev pub receiver_after : Result ℕ Fault → ℕ → ℕ
receiver_after (Ok link) before = link
receiver_after (Err fault) before = before

-- ---- links

abbrev pub link_found : Option Link → Result Link Fault
link_found None = Err NoLink
link_found (Some link) = Ok link

abbrev pub link_at : Option SegmentMachine → ℕ → Result Link Fault
link_at None link = Err NoSegment
link_at (Some machine) link = link_found (slice_get machine.segment.links link)

abbrev pub link_after : Result Link Fault → LinkValues → LinkValues
link_after (Ok link) before = link_record link
link_after (Err fault) before = before

-- ---- stations

abbrev pub station_count : Option SegmentMachine → ℕ
station_count None = 0
station_count (Some machine) = length machine.segment.stations

abbrev pub station_at : Option SegmentMachine → ℕ → Result Station Fault
station_at None index = Err NoSegment
station_at (Some machine) index = record_at machine.segment.stations index

abbrev pub station_after : Result Station Fault → StationRecord → StationRecord
station_after (Ok station) before = station_record station
station_after (Err fault) before = before

-- ---- nodes

-- the node that a packet for a destination goes to on the segment's network, where no frame says it
abbrev pub next_at : Option SegmentMachine → Address → Result Node Fault
next_at None destination = Err NoSegment
next_at (Some machine) destination = Ok (next_node machine.segment.setting destination)
