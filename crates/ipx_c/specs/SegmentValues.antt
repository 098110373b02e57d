-- What crosses to C in a struct, as a segment knows it.
use Rattle.std.specs.Prelude.{ℕ, ◌==◌, if◌then◌else◌, Option, None, Some}
use Rattle.ipx_segment.specs.declared.link.Link.{Link}
use Rattle.ipx_segment.specs.declared.link.Link.TheVariants.{Down, Cable, Sure}
use Rattle.ipx_segment.specs.declared.setting.Setting.{Setting}
use Rattle.ipx_segment.specs.declared.station.Station.{Station}
use Rattle.ipx_c.specs.TunnelValues.{node_of}
use Rattle.ipx_c.specs.declared.segment_values.LinkValues.{LinkValues}
use Rattle.ipx_c.specs.declared.segment_values.SegmentSetting.{SegmentSetting}
use Rattle.ipx_c.specs.declared.segment_values.StationRecord.{StationRecord}

-- the setting that has these values
abbrev pub setting_of : SegmentSetting → Setting
setting_of v = record { network = record { 0 = v.network }; node = node_of v.node; links = v.links; capacity = v.capacity }

-- ---- links

-- the numbers of their kinds
abbrev pub down_kind : ℕ
down_kind = 0

abbrev pub cable_kind : ℕ
cable_kind = 1

abbrev pub sure_kind : ℕ
sure_kind = 2

-- the link that has these values, if its kind is one of them
abbrev pub link_of : LinkValues → Option Link
link_of v =
    if v.kind == down_kind then Some Down else
    if v.kind == cable_kind then Some (Cable v.share) else
    if v.kind == sure_kind then Some (Sure v.share) else None

-- the values of a link; one that is down has no share
abbrev pub link_record : Link → LinkValues
link_record Down = record { kind = down_kind; share = 0 }
link_record (Cable share) = record { kind = cable_kind; share = share }
link_record (Sure share) = record { kind = sure_kind; share = share }

-- ---- stations

abbrev pub station_record : Station → StationRecord
station_record s = record { node = s.node.0; link = s.link; is_sure = s.is_sure; seconds_left = s.seconds_left }
