-- Numbers of one place.
use Rattle.std.proofs.Common.{◌≡◌, refl, ℕ, true, false, List, [], ◌∷◌, map}
use Rattle.ipx_peers.specs.Windows.{is_fresh, newest}
use Rattle.ipx_peers.specs.Memory.{highest}

-- 10 and 300 were heard, in this order
abbrev two : List ℕ
two = 300 ∷ 10 ∷ []

-- neither is heard again; what is between them is, but for 44, whose remainder 300 has
pub not_again : map (λ number. is_fresh number two) (10 ∷ 300 ∷ []) ≡ false ∷ false ∷ []
not_again = refl

pub between : map (λ number. is_fresh number two) (11 ∷ 43 ∷ 44 ∷ 45 ∷ 299 ∷ []) ≡ true ∷ true ∷ false ∷ true ∷ true ∷ []
between = refl

-- the next is heard, and one much later
pub ahead : map (λ number. is_fresh number two) (301 ∷ 100000 ∷ []) ≡ true ∷ true ∷ []
ahead = refl

-- 266 has the remainder of 10: it is heard, and after it 10 isn't
pub same_remainder : (is_fresh 266 two ≡ true) × (is_fresh 10 (266 ∷ []) ≡ false)
same_remainder = (refl, refl)

pub high : newest two ≡ 300
high = refl

-- in the slots of the remainders 10 and 44 are 10 and 300
pub in_slots : (highest 10 two ≡ 10) × (highest 44 two ≡ 300) × (highest 11 two ≡ 0)
in_slots = (refl, refl, refl)
