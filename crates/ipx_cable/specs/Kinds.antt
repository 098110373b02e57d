-- Which kind of frames each station uses, and which kinds are in use.
use Rattle.std.specs.Prelude.{ℕ, ◌-◌, ◌%◌, Bool, ◌==◌, ◌&&◌, ◌||◌, not, nat_lt, if◌then◌else◌, List, map, get_or, set, replicate, Option, None, Some}
use Rattle.std.specs.List.{list_any}
use Rattle.ipx_cable.specs.declared.station.Station.{Station}
use Rattle.ipx_cable.specs.declared.bucket.Bucket.{Bucket}
use Rattle.ipx_cable.specs.declared.kinds.Kinds.{Kinds}
use Rattle.ipx_cable.specs.Stations.{kinds_count, is_kind, same_node, nobody, station_of, has_another, after_word, aged_bucket}

-- seconds for which a kind is in use after it was heard
abbrev pub kind_lasts : ℕ
kind_lasts = 3600

abbrev pub buckets_count : ℕ
buckets_count = 64

abbrev pub in_bucket : ℕ
in_bucket = 8

-- nothing was heard
abbrev pub empty : Bucket
empty = record { stations = replicate in_bucket nobody }

abbrev pub nothing : Kinds
nothing = record { left = replicate kinds_count 0; buckets = replicate buckets_count empty }

-- the bucket of a node's hash
abbrev pub bucket_of : ℕ → ℕ
bucket_of hash = hash % buckets_count

abbrev pub stations_at : ℕ → Kinds → List Station
stations_at hash kinds = (get_or kinds.buckets (bucket_of hash) empty).stations

-- the station with that node, of that hash
abbrev pub station_at : ℕ → List ℕ → Kinds → Option Station
station_at hash node kinds = station_of node (stations_at hash kinds)

-- its kind, or 0
abbrev pub kind_of : Option Station → ℕ
kind_of None = 0
kind_of (Some station) = station.kind

abbrev pub kind_at : ℕ → List ℕ → Kinds → ℕ
kind_at hash node kinds = kind_of (station_at hash node kinds)

-- ---- what happens

-- a word counts, unless it is for all and the station has just spoken in another kind
abbrev pub is_heard : ℕ → List ℕ → ℕ → Bool → Kinds → Bool
is_heard hash node kind is_for_all kinds = is_kind kind && not (is_for_all && has_another node kind (stations_at hash kinds))

-- a word that counts
abbrev pub counted : ℕ → List ℕ → ℕ → Kinds → Kinds
counted hash node kind kinds = record {
  left = set kinds.left (kind - 1) kind_lasts;
  buckets = set kinds.buckets (bucket_of hash) (record { stations = after_word node kind (stations_at hash kinds) });
}

abbrev pub word : ℕ → List ℕ → ℕ → Bool → Kinds → Kinds
word hash node kind is_for_all kinds = if is_heard hash node kind is_for_all kinds then counted hash node kind kinds else kinds

-- a second passes
abbrev pub later : ℕ → ℕ
later left = left - 1

abbrev pub second : Kinds → Kinds
second kinds = record { left = map later kinds.left; buckets = map aged_bucket kinds.buckets }

-- ---- in which kinds a packet goes out

-- a kind was heard lately
abbrev pub lasts : ℕ → Bool
lasts left = nat_lt 0 left

abbrev pub is_used : ℕ → Kinds → Bool
is_used kind kinds = is_kind kind && lasts (get_or kinds.left (kind - 1) 0)

-- for all: in each kind that is in use, or in all where none is
abbrev pub speaks_to_all : ℕ → Kinds → Bool
speaks_to_all kind kinds = is_kind kind && (is_used kind kinds || not (list_any lasts kinds.left))

-- for one: in the station's kind
abbrev pub speaks_to : Option Station → ℕ → Kinds → Bool
speaks_to None kind kinds = speaks_to_all kind kinds
speaks_to (Some station) kind kinds = station.kind == kind

-- the node that means all
abbrev pub is_everybody : List ℕ → Bool
is_everybody node = same_node node (replicate 6 0xFF)

abbrev pub speaks : ℕ → List ℕ → ℕ → Kinds → Bool
speaks hash node kind kinds =
    if is_everybody node then speaks_to_all kind kinds else speaks_to (station_at hash node kinds) kind kinds
