-- What a link heard, and what is known then.
use Rattle.std.specs.Prelude.{ℕ, ◌+◌, Bool, List, [], ◌∷◌, Option}
use Rattle.ipx_cable.specs.declared.station.Station.{Station}
use Rattle.ipx_cable.specs.declared.kinds.Kinds.{Kinds}
use Rattle.ipx_cable.specs.Kinds.{nothing, station_at, is_heard, word, second, is_used, speaks}

-- a station says a packet in a kind, to a node or to all; a second passes
pub data Event : Type 0 where
  Word : (node : List ℕ) (kind : ℕ) (is_for_all : Bool) → Event
  Second : Event

-- the latest first
abbrev pub History : Type 0
History = List Event

-- each node has one hash
abbrev pub Hashes : Type 0
Hashes = List ℕ → ℕ

abbrev pub after : Hashes → Event → Kinds → Kinds
after hash (Word node kind is_for_all) kinds = word (hash node) node kind is_for_all kinds
after hash Second kinds = second kinds

abbrev pub known : Hashes → History → Kinds
known hash [] = nothing
known hash (event ∷ earlier) = after hash event (known hash earlier)

-- how many seconds passed
abbrev pub seconds : History → ℕ
seconds [] = 0
seconds (Word node kind is_for_all ∷ earlier) = seconds earlier
seconds (Second ∷ earlier) = seconds earlier + 1

-- ---- what calls answer then

abbrev pub station_after : Hashes → List ℕ → History → Option Station
station_after hash node history = station_at (hash node) node (known hash history)

abbrev pub counts_after : Hashes → List ℕ → ℕ → Bool → History → Bool
counts_after hash node kind is_for_all history = is_heard (hash node) node kind is_for_all (known hash history)

abbrev pub is_used_after : Hashes → ℕ → History → Bool
is_used_after hash kind history = is_used kind (known hash history)

abbrev pub speaks_after : Hashes → List ℕ → ℕ → History → Bool
speaks_after hash node kind history = speaks (hash node) node kind (known hash history)
