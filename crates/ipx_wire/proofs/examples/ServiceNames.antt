-- Names in fields of 48 bytes, and their order.
use Rattle.std.proofs.Common.{arith}
use Rattle.std.proofs.Common.{◌≡◌, [], ◌∷◌, ◌++◌, refl, codes, replicate, None, Some}
use Rattle.ipx_wire.specs.Name.{IsName, name_of, name_field, name_order}
use Rattle.std.specs.declared.cmp.Ordering.TheVariants.{Less, Equal, Greater}

-- what follows the zero is ignored
pub letters_behind : name_of (codes "S" ++ (0 ∷ []) ++ codes "XX" ++ replicate 44 0) ≡ Some (codes "S")
unfolding name_of
letters_behind = refl

-- by its layout too
pub letters_behind_is : IsName (codes "S" ++ (0 ∷ []) ++ codes "XX" ++ replicate 44 0) (codes "S")
letters_behind_is = grind arith

-- and sent as zeros
pub zeros_behind : name_field (codes "S") ≡ codes "S" ++ replicate 47 0
unfolding name_field
zeros_behind = refl

-- the longest name
pub forty_seven : name_of (replicate 47 65 ++ 0 ∷ []) ≡ Some (replicate 47 65)
unfolding name_of
forty_seven = refl

-- a name without a zero is none
pub forty_eight : name_of (replicate 48 65) ≡ None
unfolding name_of
forty_eight = refl

-- an empty name is none
pub empty : name_of (0 ∷ replicate 47 65) ≡ None
unfolding name_of
empty = refl

-- a proper prefix is the smaller, and the first byte that differs decides
pub prefix : name_order (codes "S1") (codes "S10") ≡ Less
prefix = refl

pub later_letter : name_order (codes "S2") (codes "S10") ≡ Greater
later_letter = refl

pub same : name_order (codes "S1") (codes "S1") ≡ Equal
same = refl
