-- Addresses that begin with the same bits.
use Rattle.std.specs.Prelude.{◌≡◌, ℕ, ◌-◌, ◌<◌, ◌≤◌, ◌/◌, ◌%◌, ◌^◌, min, List}
use Rattle.std.specs.Int.{from_be_bytes, w32}

-- bits of an address
abbrev pub address_bits : ℕ
address_bits = 32

-- an address as a number, its first byte the highest
unfoldable pub number : List ℕ → ℕ
number host = from_be_bytes w32 host

-- bit i of it: bit 0 is the highest
abbrev pub bit : ℕ → ℕ → ℕ
bit number i = number / 2 ^ (address_bits - 1 - i) % 2

-- two addresses begin with the same bits
abbrev pub Begins : ℕ → List ℕ → List ℕ → Type 0
Begins bits a b = (i : ℕ) → i < bits → i < address_bits → bit (number a) i ≡ bit (number b) i

-- an address has no bit behind those
abbrev pub IsFirst : ℕ → List ℕ → Type 0
IsFirst bits host = (i : ℕ) → bits ≤ i → i < address_bits → bit (number host) i ≡ 0

-- ---- as numbers

-- how many addresses begin with the same bits
abbrev pub behind : ℕ → ℕ
behind bits = 2 ^ (address_bits - min bits address_bits)

-- the number that the first bits are
abbrev pub front : ℕ → ℕ → ℕ
front number bits = number / behind bits
