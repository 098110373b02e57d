-- Lists of bytes: their parts, and what is made of them.
use Rattle.std.proofs.Common.{sym, subst, ℕ, zero, suc, ◌<◌, List, [], ◌∷◌, ◌++◌, take, drop, replicate, arith}
use Rattle.std.specs.Int.{byte_at, bytes_high_first, to_be_bytes, w16, w32}
use Rattle.std.specs.List.{AllByRecursion, flat_map}
use Rattle.std.proofs.lemmas.List.{take-append-drop}
use Rattle.ipx_wire.specs.Piece.{IsBytes}

-- ---- parts

pub bytes_before : (xs ys : List ℕ) → IsBytes (xs ++ ys) → IsBytes xs
bytes_before [] ys are i = omega arith
bytes_before (x ∷ xs) ys are zero = are 0
bytes_before (x ∷ xs) ys are (suc i) = bytes_before xs ys (λ j. are (suc j)) i

pub bytes_behind : (xs ys : List ℕ) → IsBytes (xs ++ ys) → IsBytes ys
bytes_behind [] ys are = are
bytes_behind (x ∷ xs) ys are = bytes_behind xs ys (λ j. are (suc j))

pub bytes_taken : (n : ℕ) (xs : List ℕ) → IsBytes xs → IsBytes (take n xs)
bytes_taken n xs are = bytes_before (take n xs) (drop n xs) (subst IsBytes (sym (take-append-drop n xs)) are)

pub bytes_dropped : (n : ℕ) (xs : List ℕ) → IsBytes xs → IsBytes (drop n xs)
bytes_dropped n xs are = bytes_behind (take n xs) (drop n xs) (subst IsBytes (sym (take-append-drop n xs)) are)

-- ---- what is made of them

pub one_byte : (x : ℕ) → x < 256 → IsBytes (x ∷ [])
one_byte x below zero = below
one_byte x below (suc i) = omega arith

pub bytes_both : (xs ys : List ℕ) → IsBytes xs → IsBytes ys → IsBytes (xs ++ ys)
bytes_both [] ys one two i = two i
bytes_both (x ∷ xs) ys one two zero = one 0
bytes_both (x ∷ xs) ys one two (suc i) = bytes_both xs ys (λ j. one (suc j)) two i

-- a byte, repeated
pub bytes_same : (n x : ℕ) → x < 256 → IsBytes (replicate n x)
bytes_same zero x below i = omega arith
bytes_same (suc n) x below zero = below
bytes_same (suc n) x below (suc i) = bytes_same n x below i

-- ---- numbers, with the highest byte first

byte_below : (k n : ℕ) → byte_at k n < 256
byte_below k n = grind arith

number_bytes : (k n : ℕ) → IsBytes (bytes_high_first k n)
number_bytes zero n i = omega arith
number_bytes (suc k) n zero = byte_below k n
number_bytes (suc k) n (suc i) = number_bytes k n i

pub bytes_16 : (n : ℕ) → IsBytes (to_be_bytes w16 n)
bytes_16 n = number_bytes 2 n

pub bytes_32 : (n : ℕ) → IsBytes (to_be_bytes w32 n)
bytes_32 n = number_bytes 4 n

-- ---- items, each written as bytes

module _ {X : Type 0} (write : X → List ℕ) where
  pub bytes_all : (P : X → Type 0) → ((x : X) → P x → IsBytes (write x)) → (xs : List X) → AllByRecursion P xs → IsBytes (flat_map write xs)
  bytes_all P each [] all = λ i. omega arith
  bytes_all P each (x ∷ xs) all = bytes_both (write x) (flat_map write xs) (each x all.0) (bytes_all P each xs all.1)

  pub bytes_each : (xs : List X) → IsBytes (flat_map write xs) → AllByRecursion (λ x. IsBytes (write x)) xs
  bytes_each [] are = tt
  bytes_each (x ∷ xs) are = (bytes_before (write x) (flat_map write xs) are, bytes_each xs (bytes_behind (write x) (flat_map write xs) are))
