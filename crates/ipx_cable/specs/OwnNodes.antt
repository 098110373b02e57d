-- The gateway's node on a network.
use Rattle.std.specs.Prelude.{ℕ, ◌/◌, ◌%◌, ◌^◌, Bool, ◌&&◌, not, if◌then◌else◌, List, [], ◌∷◌, replicate, Option}
use Rattle.std.specs.Option.{unwrap_or}
use Rattle.ipx_cable.specs.Stations.{same_node}

-- of the tunnel: one from which no datagram comes
abbrev pub of_tunnel : List ℕ
of_tunnel = 0 ∷ 0 ∷ 0 ∷ 0 ∷ 0 ∷ 1 ∷ []

-- a card's address that isn't known
abbrev pub is_no_node : List ℕ → Bool
is_no_node node = same_node node (replicate 6 0)

-- the first byte of a node that no manufacturer gave
abbrev pub local : ℕ
local = 2

-- the bytes of a number, the lowest of which is the one of number 0
abbrev pub byte_of : (index number : ℕ) → ℕ
byte_of index number = number / 256 ^ index % 256

abbrev pub made_up : ℕ → List ℕ
made_up hash = local ∷ byte_of 1 hash ∷ byte_of 2 hash ∷ byte_of 3 hash ∷ byte_of 4 hash ∷ byte_of 5 hash ∷ []

-- on a network of several links it's none of theirs: what is said, or else one that is made up
abbrev pub own_node : (is_tunnel is_of_several : Bool) → (card : List ℕ) → (said : Option (List ℕ)) → (hash : ℕ) → List ℕ
own_node is_tunnel is_of_several card said hash =
    if is_tunnel && not is_of_several then of_tunnel
    else if not (is_no_node card) && not is_of_several then card
    else unwrap_or said (made_up hash)
