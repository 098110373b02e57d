-- Addresses as numbers, and their bits.
use Rattle.std.proofs.Common.{◌≡◌, refl, ℕ, [], ◌∷◌, List}
use Rattle.ipx_cable.specs.Ranges.{number, bit, front, behind}

-- 192.168.1.7
abbrev host : List ℕ
host = 192 ∷ 168 ∷ 1 ∷ 7 ∷ []

pub as_number : number host ≡ 0xC0A80107
unfolding number
as_number = refl

-- its first bits are 110, its last three 111
pub first_bits : (bit 0xC0A80107 0 ≡ 1) × (bit 0xC0A80107 1 ≡ 1) × (bit 0xC0A80107 2 ≡ 0)
first_bits = (refl, refl, refl)

pub last_bits : (bit 0xC0A80107 28 ≡ 0) × (bit 0xC0A80107 29 ≡ 1) × (bit 0xC0A80107 31 ≡ 1)
last_bits = (refl, refl, refl)

-- 24 bits leave 256 addresses; none leaves all, and 32 or more one
pub sizes : (behind 24 ≡ 256) × (behind 0 ≡ 4294967296) × (behind 32 ≡ 1) × (behind 255 ≡ 1)
sizes = (refl, refl, refl, refl)

pub first_24 : front 0xC0A80107 24 ≡ 0xC0A801
first_24 = refl
