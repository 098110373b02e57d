-- The networks that a packet of type 20 has crossed, at the front of its data (IPX Router Specification).
use Rattle.std.specs.Prelude.{◌≡◌, ℕ, ◌<◌, ◌≤◌, ◌^◌, ◌==◌, nat_lt, if◌then◌else◌, Bool, List, ◌++◌, length, Result, Ok, Err}
use Rattle.std.specs.Int.{to_be_bytes, from_be_bytes, w32}
use Rattle.std.specs.List.{flat_map, list_any, AllByRecursion}
use Rattle.ipx_wire.specs.Items.{items}
use Rattle.ipx_wire.specs.Numbers.{crossed_places, crossed_bytes}
use Rattle.ipx_wire.specs.Piece.{piece}
use Rattle.ipx_wire.specs.declared.network.Network.{Network}
use Rattle.ipx_wire.specs.declared.crossed.CrossedFault.{CrossedFault}
use Rattle.ipx_wire.specs.declared.crossed.CrossedFault.TheVariants.{Short, Full}

-- a network's number is one of four bytes
abbrev pub IsNetwork : Network → Type 0
IsNetwork network = network.0 < 2 ^ 32

-- the four bytes of a network's number
unfoldable pub network_bytes : Network → List ℕ
network_bytes network = to_be_bytes w32 network.0

-- the network in the four bytes from a place on
unfoldable pub network_at : List ℕ → ℕ → Network
network_at bytes place = record { 0 = from_be_bytes w32 (piece bytes place 4) }

-- the first n networks of bytes, four bytes each
abbrev pub networks_at : ℕ → List ℕ → List Network
networks_at n bytes = items (λ b. network_at b 0) 4 n bytes

-- the data have room for all networks that there are places for, and those crossed, as many as the transport control counts,
-- are the first of them; with a transport control of 8 or more there is no place for one more
pub record IsCrossed (control : ℕ) (payload : List ℕ) (networks : List Network) : Type 0 where
  pub further : List ℕ
  pub layout : payload ≡ flat_map network_bytes networks ++ further
  pub listed : length networks ≡ control
  pub free : control < crossed_places
  pub eight : crossed_bytes ≤ length payload
  pub ranges : AllByRecursion IsNetwork networks

-- why data tell no networks crossed: each fault holds only where those before it don't
abbrev pub IsNotCrossed : ℕ → List ℕ → CrossedFault → Type 0
IsNotCrossed control payload Short = length payload < crossed_bytes
IsNotCrossed control payload Full = (crossed_bytes ≤ length payload) × (crossed_places ≤ control)

-- what is read from data: the networks crossed, or the first fault that holds
unfoldable pub crossed_of : ℕ → List ℕ → Result (List Network) CrossedFault
crossed_of control payload =
    if nat_lt (length payload) crossed_bytes then Err Short
    else if nat_lt control crossed_places then Ok (networks_at control payload)
    else Err Full

-- whether a network is among those crossed
abbrev pub is_among : Network → List Network → Bool
is_among network networks = list_any (λ n. n.0 == network.0) networks
