-- Nodes that were read.
use Rattle.std.proofs.Common.{◌≡◌, ℕ, zero, suc, ◌*◌, ◌^◌, ◌<◌, List, [], ◌∷◌, get_or, take, drop, refl, subst, arith, Some, None}
use Rattle.ipx_settings.specs.Nodes.{byte_at, bytes_by, step_of, is_single, node_bytes_of, node_of}
use Rattle.ipx_settings.specs.Right.{AreNumbers}
use Rattle.ipx_settings.specs.RightLines.{IsNode}
use Rattle.ipx_settings.proofs.AddressesAgain.{one_value}
use Rattle.ipx_settings.proofs.AddressesRight.{bound, chosen, no_value, hexadecimal_within}

byte_low : (word : List ℕ) (at n : ℕ) → byte_at word at ≡ Some n → n < 2 ^ 8
byte_low word at n e = omega (arith, hexadecimal_within 2 0 255 n (take 2 (drop at word)) e)

six_numbers : (a b c d e f : ℕ) → a < 2 ^ 8 → b < 2 ^ 8 → c < 2 ^ 8 → d < 2 ^ 8 → e < 2 ^ 8 → f < 2 ^ 8 → AreNumbers 6 8 (a ∷ b ∷ c ∷ d ∷ e ∷ f ∷ [])
six_numbers a b c d e f la lb lc ld le lf = (refl, each)
  where
    each : (k : ℕ) → get_or (a ∷ b ∷ c ∷ d ∷ e ∷ f ∷ []) k 0 < 2 ^ 8
    each zero = la
    each (suc zero) = lb
    each (suc (suc zero)) = lc
    each (suc (suc (suc zero))) = ld
    each (suc (suc (suc (suc zero)))) = le
    each (suc (suc (suc (suc (suc zero))))) = lf
    each (suc (suc (suc (suc (suc (suc k)))))) = omega arith

bytes_right : (step : ℕ) (word node : List ℕ) → bytes_by step word ≡ Some node → AreNumbers 6 8 node
bytes_right step word node e0 =
    bound (AreNumbers 6 8) (byte_at word 0) _ node (λ a ia e1.
    bound (AreNumbers 6 8) (byte_at word step) _ node (λ b ib e2.
    bound (AreNumbers 6 8) (byte_at word (2 * step)) _ node (λ c ic e3.
    bound (AreNumbers 6 8) (byte_at word (3 * step)) _ node (λ d id e4.
    bound (AreNumbers 6 8) (byte_at word (4 * step)) _ node (λ e ie e5.
    bound (AreNumbers 6 8) (byte_at word (5 * step)) _ node (λ f if6 e6.
    subst (AreNumbers 6 8) (one_value (a ∷ b ∷ c ∷ d ∷ e ∷ f ∷ []) node e6)
    (six_numbers a b c d e f (byte_low word 0 a ia) (byte_low word step b ib) (byte_low word (2 * step) c ic) (byte_low word (3 * step) d id) (byte_low word (4 * step) e ie) (byte_low word (5 * step) f if6)))
    e5) e4) e3) e2) e1) e0

pub node_bytes_right : (word bytes : List ℕ) → node_bytes_of word ≡ Some bytes → AreNumbers 6 8 bytes
node_bytes_right word bytes e = bound (AreNumbers 6 8) (step_of word) _ bytes (λ step _ f. bytes_right step word bytes f) e

pub node_right : (word node : List ℕ) → node_of word ≡ Some node → IsNode node
node_right word node e =
    bound IsNode (node_bytes_of word) _ node (λ bytes read e1.
    chosen IsNode (is_single bytes) (Some bytes) None node (λ single f. subst IsNode (one_value bytes node f) (node_bytes_right word bytes read, single))
    (λ _ f. absurd (no_value node f)) e1) e
