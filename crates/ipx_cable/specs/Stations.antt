-- Stations that are known on a link where any kind of frames may be used.
use Rattle.std.specs.Prelude.{ℕ, ◌+◌, ◌-◌, Bool, false, ◌==◌, ◌&&◌, not, nat_eq, nat_lt, if◌then◌else◌, List, map, set, replicate, Option, None, Some}
use Rattle.std.specs.List.{position, slice_get}
use Rattle.std.specs.Cmp.Lexicographic.{pointwise}
use Rattle.ipx_cable.specs.declared.station.Station.{Station}
use Rattle.ipx_cable.specs.declared.bucket.Bucket.{Bucket}

-- seconds for which a station is known after it was heard
abbrev pub station_lasts : ℕ
station_lasts = 300

-- seconds without a word in its kind, after which a station may have another
abbrev pub stays : ℕ
stays = 5

-- the kinds of frames are numbered from 1
abbrev pub kinds_count : ℕ
kinds_count = 4

abbrev pub is_kind : ℕ → Bool
is_kind kind = nat_lt 0 kind && nat_lt kind (kinds_count + 1)

abbrev pub same_node : List ℕ → List ℕ → Bool
same_node a b = pointwise nat_eq a b

-- a place where nobody is known
abbrev pub nobody : Station
nobody = record { node = replicate 6 0; kind = 0; left = 0 }

-- somebody is known there
abbrev pub is_known : Station → Bool
is_known station = nat_lt 0 station.left && is_kind station.kind

-- nobody is
abbrev pub is_free : Station → Bool
is_free station = not (is_known station)

-- it is known, and has this node
abbrev pub is_of : List ℕ → Station → Bool
is_of node station = is_known station && same_node station.node node

-- it said something in its kind less than five seconds ago
abbrev pub has_just_spoken : Station → Bool
has_just_spoken station = nat_lt (station_lasts - stays) station.left

-- a station that was heard just now
abbrev pub heard : List ℕ → ℕ → Station
heard node kind = record { node = node; kind = kind; left = station_lasts }

-- a second later
abbrev pub aged : Station → Station
aged station = record { node = station.node; kind = station.kind; left = station.left - 1 }

-- ---- a few places

abbrev pub all_aged : List Station → List Station
all_aged stations = map aged stations

abbrev pub aged_bucket : Bucket → Bucket
aged_bucket bucket = record { stations = all_aged bucket.stations }

-- the station at a place
abbrev pub at : List Station → Option ℕ → Option Station
at stations None = None
at stations (Some index) = slice_get stations index

-- the one with that node
abbrev pub station_of : List ℕ → List Station → Option Station
station_of node stations = at stations (position (is_of node) stations)

-- another kind is its own, in which it has just spoken
abbrev pub is_another : ℕ → Option Station → Bool
is_another kind None = false
is_another kind (Some station) = not (station.kind == kind) && has_just_spoken station

abbrev pub has_another : List ℕ → ℕ → List Station → Bool
has_another node kind stations = is_another kind (station_of node stations)

-- where a station stands; or the first place that is free, so nobody who is known loses his
abbrev pub or_free : Option ℕ → List Station → Option ℕ
or_free (Some index) stations = Some index
or_free None stations = position is_free stations

abbrev pub place : List ℕ → List Station → Option ℕ
place node stations = or_free (position (is_of node) stations) stations

abbrev pub put : Option ℕ → Station → List Station → List Station
put None station stations = stations
put (Some index) station stations = set stations index station

-- what a word in a kind changes
abbrev pub after_word : List ℕ → ℕ → List Station → List Station
after_word node kind stations =
    if has_another node kind stations then stations else put (place node stations) (heard node kind) stations
