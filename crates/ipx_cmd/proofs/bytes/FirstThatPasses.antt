use Rattle.std.proofs.Common.{◌≡◌, ◌<◌, nat_lt, ℕ, Bool, true, false, List, ◌∷◌, ◌++◌, ◌-◌, length, take, drop, Option, Some, None, refl, ap, ◌∙◌, arith}
use Rattle.std.proofs.Math.Seq.{drop-cons}
use Rattle.std.proofs.lemmas.Bool.{eqb-true}
use Rattle.std.proofs.lemmas.List.{get_or-take, length-take-le, take-append-drop, take_all}
use Rattle.std.proofs.lemmas.List.Elements.{All-from_get_or}
use Rattle.std.proofs.lemmas.List.Sums.{position_or_len_is}
use Rattle.std.specs.List.{position, position_or_len}
use Rattle.memchr.specs.Find.{IsFirstByte, is_byte}
use Rattle.ipx_cmd.specs.inside.Leads.{IsOneLine}
use Rattle.ipx_cmd.specs.Lines.{is_line_feed, line_feed}

-- what isn't true
not_true : (b : Bool) → (b ≡ true → ⊥) → b ≡ false
not_true b bad = grind arith

-- the first byte that passes a test stands at its first position
pub is_position : (test : ℕ → Bool) (xs : List ℕ) (r : Option ℕ) → IsFirstByte test xs r → r ≡ position test xs
is_position test xs None none =
    let at = position_or_len_is test xs (length xs) 0 (omega arith) (λ k below. not_true _ (none k (omega arith) below)) (λ below. absurd (omega (arith, below))) in
    let past : nat_lt (position_or_len test xs) (length xs) ≡ false = grind (arith, at) in
    rw past refl
is_position test xs (Some k) found = grind (arith, position_or_len_is, not_true)

-- where no byte is a line feed
pub no_line_end : (xs : List ℕ) → IsFirstByte (is_byte line_feed) xs None → IsOneLine xs
no_line_end xs none = All-from_get_or (λ byte. is_line_feed byte ≡ false) xs 0 (λ k below. not_true _ (none k (omega arith) below))

-- no byte before the first line feed is one
before_line_end : (xs : List ℕ) (k : ℕ) → IsFirstByte (is_byte line_feed) xs (Some k) → IsOneLine (take k xs)
before_line_end xs k found =
    All-from_get_or (λ byte. is_line_feed byte ≡ false) (take k xs) 0
    (λ j below.
    let low : j < k = omega (arith, below, length-take-le k xs (omega (arith, found.0.high))) in
    ap is_line_feed (get_or-take k xs j 0 low) ∙ not_true _ (found.0.before j (omega arith) low))

-- the parts of bytes that are cut at their first line feed
pub line_parts : (xs front behind : List ℕ) (k : ℕ) → IsFirstByte (is_byte line_feed) xs (Some k)
    → front ≡ take k xs → behind ≡ drop k xs
    → IsOneLine front × (xs ≡ front ++ line_feed ∷ take (length behind - 1) (drop 1 behind))
line_parts xs front behind k found is_front is_behind = grind (arith, eqb-true, drop-cons, take_all, before_line_end, take-append-drop)
