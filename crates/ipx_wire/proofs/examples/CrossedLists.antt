-- The networks crossed, as the transport control counts them.
use Rattle.std.proofs.Common.{arith}
use Rattle.std.proofs.Common.{◌≡◌, ℕ, List, [], ◌∷◌, ◌++◌, true, false, refl, codes, replicate, Ok, Err}
use Rattle.hex.specs.Hex.{decode_pairs}
use Rattle.ipx_wire.specs.Items.{items}
use Rattle.ipx_wire.specs.Crossed.{IsCrossed, network_bytes, network_at, crossed_of, is_among}
use Rattle.ipx_wire.specs.declared.crossed.CrossedFault.TheVariants.{Short, Full}
use Rattle.ipx_wire.specs.declared.network.Network.{Network}
use Rattle.ipx_wire.proofs.examples.Words.{hex}

abbrev pub network : ℕ → Network
network number = record { 0 = number }

-- networks 10h and 20h, and six places more
abbrev pub two_of_eight : List ℕ
two_of_eight = hex (codes "0000001000000020") ++ replicate 24 0

-- no room for eight networks comes before no place for one more
pub a_byte_less_than_eight_places : crossed_of 8 (replicate 31 0) ≡ Err Short
unfolding crossed_of
a_byte_less_than_eight_places = refl

-- eight networks were crossed
pub eight_crossed : crossed_of 8 (replicate 32 0) ≡ Err Full
unfolding crossed_of
eight_crossed = refl

-- two networks were crossed
pub two_crossed : crossed_of 2 two_of_eight ≡ Ok (network 0x10 ∷ network 0x20 ∷ [])
unfolding decode_pairs crossed_of items network_at
two_crossed = refl

-- by their layout too
pub two_are : IsCrossed 2 two_of_eight (network 0x10 ∷ network 0x20 ∷ [])
unfolding decode_pairs network_bytes
two_are = grind arith

-- seven networks were crossed, and an eighth place is left
pub seven_crossed : crossed_of 7 (replicate 32 0) ≡ Ok (replicate 7 (network 0))
unfolding crossed_of items network_at
seven_crossed = refl

-- what stands behind those that are counted was not crossed
pub only_the_counted : crossed_of 1 two_of_eight ≡ Ok (network 0x10 ∷ [])
unfolding decode_pairs crossed_of items network_at
only_the_counted = refl

pub first_is_among : is_among (network 0x10) (network 0x10 ∷ []) ≡ true
first_is_among = refl

pub second_is_not : is_among (network 0x20) (network 0x10 ∷ []) ≡ false
second_is_not = refl
