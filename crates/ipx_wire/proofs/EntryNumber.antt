-- The eight bytes of an entry as one number.
use Rattle.std.proofs.Common.{◌≡◌, refl, ap₂, ℕ, ◌+◌, ◌*◌, ◌%◌, ◌^◌, ◌<◌, ◌++◌, List, [], ◌∷◌, bit_or, arith}
use Rattle.std.specs.Int.{to_be_bytes, w16, w32, w64}
use Rattle.std.proofs.lemmas.Grind.{or_after_shift}
use Rattle.ipx_wire.specs.Rip.{entry_bytes}
use Rattle.ipx_wire.specs.declared.rip.RipEntry.{RipEntry}

-- two lists of eight
eight : {a b c d e f g h a′ b′ c′ d′ e′ f′ g′ h′ : ℕ} → a ≡ a′ → b ≡ b′ → c ≡ c′ → d ≡ d′ → e ≡ e′ → f ≡ f′ → g ≡ g′ → h ≡ h′
    → (a ∷ b ∷ c ∷ d ∷ e ∷ f ∷ g ∷ h ∷ []) ≡ (a′ ∷ b′ ∷ c′ ∷ d′ ∷ e′ ∷ f′ ∷ g′ ∷ h′ ∷ [])
eight a b c d e f g h = then a (then b (then c (then d (then e (then f (then g (then h refl)))))))
  where
    then : {x y : ℕ} {xs ys : List ℕ} → x ≡ y → xs ≡ ys → (x ∷ xs) ≡ (y ∷ ys)
    then = ap₂ (λ (x : ℕ) (xs : List ℕ). x ∷ xs)

-- three numbers joined by shifts
joined : (a b c : ℕ) → a < 2 ^ 32 → b < 2 ^ 16 → c < 2 ^ 16
    → bit_or (bit_or (a * 2 ^ 16 % 2 ^ 64) b * 2 ^ 16 % 2 ^ 64) c ≡ a * 2 ^ 32 + b * 2 ^ 16 + c
joined a b c fits given given_2 = omega (arith, bit_or, or_after_shift)

-- the bytes of a number of three parts
parts : (a b c : ℕ) → a < 2 ^ 32 → b < 2 ^ 16 → c < 2 ^ 16
    → to_be_bytes w64 (a * 2 ^ 32 + b * 2 ^ 16 + c) ≡ to_be_bytes w32 a ++ to_be_bytes w16 b ++ to_be_bytes w16 c
parts a b c fits given given_2 = grind arith

-- an entry's bytes are those of its number
pub entry_number : (e : RipEntry) (a b c : ℕ) → a ≡ e.network.0 → b ≡ e.hops → c ≡ e.ticks
    → a < 2 ^ 32 → b < 2 ^ 16 → c < 2 ^ 16
    → to_be_bytes w64 (bit_or (bit_or (a * 2 ^ 16 % 2 ^ 64) b * 2 ^ 16 % 2 ^ 64) c) ≡ entry_bytes e
unfolding entry_bytes
entry_number e a b c network hops ticks fits given given_2 = grind (arith, joined, parts)
