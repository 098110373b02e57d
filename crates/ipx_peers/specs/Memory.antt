-- How it lies in memory: of the numbers of a place the highest of each remainder, and no others.
use Rattle.std.specs.Prelude.{◌≡◌, ℕ, ◌-◌, ◌%◌, ◌==◌, if◌then◌else◌, max, List, [], ◌∷◌, ◌++◌, length, map, replicate}
use Rattle.std.specs.List.{range_with_len}
use Rattle.ipx_peers.specs.declared.peer.Peer.{Peer}
use Rattle.ipx_peers.specs.declared.peers.Peers.{Peers}
use Rattle.ipx_peers.specs.Numbers.{most_places, slots_count, session_size, address_size}
use Rattle.ipx_peers.specs.Windows.{newest}
use Rattle.ipx_peers.specs.Events.{History}
use Rattle.ipx_peers.specs.Places.{Place}
use Rattle.ipx_peers.specs.States.{State, state}

-- the highest number of a remainder, or 0
abbrev pub highest : ℕ → List ℕ → ℕ
highest slot [] = 0
highest slot (number ∷ numbers) = if number % slots_count == slot then max number (highest slot numbers) else highest slot numbers

unfoldable pub slots : List ℕ → List ℕ
slots numbers = map (λ slot. highest slot numbers) (range_with_len 0 slots_count)

abbrev pub peer_of : Place → Peer
peer_of place = record {
  session = place.session;
  address = place.address;
  left = place.left;
  newest = newest place.numbers;
  slots = slots place.numbers;
}

-- all bytes 0: no place
abbrev pub no_peer : Peer
no_peer = record { session = replicate session_size 0; address = replicate address_size 0; left = 0; newest = 0; slots = replicate slots_count 0 }

-- the places, and behind them none
abbrev pub peers_of : List Place → List Peer
peers_of places = map peer_of places ++ replicate (most_places - length places) no_peer

abbrev pub memory_of : State → Peers
memory_of s = record { session = s.session; sent = s.sent; used = length s.places; places = peers_of s.places }

-- it has what is known after that history, and nothing else
pub record Stands (peers : Peers) (history : History) : Type 0 where
  pub memory : peers ≡ memory_of (state history)
