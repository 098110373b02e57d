-- Calls to a source that counts them: each leads from a number to the next.
use Rattle.std.proofs.Common.{◌≡◌, ℕ, ◌+◌, List, [], ◌∷◌, ◌++◌, refl, ap, arith, lit<, length, Result, Ok}
use Rattle.ipx_wire.specs.declared.failed.Failed.{Failed}
use Rattle.ipx_capture.specs.Asks.{Ask, Asks, Fetched, MeetsEnd, Lacks}
use Rattle.ipx_capture.specs.Records.{size_of_first}
use Rattle.ipx_capture.specs.declared.order.Order.TheVariants.{Little}
use Rattle.ipx_capture.proofs.examples.Words.{zeros, little_record, typed}

abbrev counts : ℕ → List ℕ → Result ℕ Failed → ℕ → Type 0
counts before buffer answer after = after ≡ before + 1

-- two of three bytes came, and stand at the front of the buffer
abbrev two : Ask
two = record { buffer = 7 ∷ 8 ∷ 0 ∷ []; answer = Ok 2; state = 1 }

-- and then the third
abbrev third : Ask
third = record { buffer = 9 ∷ []; answer = Ok 1; state = 2 }

-- or none, since the source is at its end
abbrev none : Ask
none = record { buffer = 0 ∷ []; answer = Ok 0; state = 2 }

-- three bytes were wanted, and two calls gave them
pub in_two_pieces : Fetched counts (Lacks 3) [] (7 ∷ 8 ∷ 9 ∷ []) 0 2
in_two_pieces = record {
  asks = two ∷ third ∷ [];
  calls = (lit< tt, lit< tt, refl, λ e. absurd (omega (arith, ap length e)), (lit< tt, lit< tt, refl, λ e. refl, refl));
  gave = refl;
}

-- two bytes, and then the end
pub cut_short : Fetched counts (Lacks 3) [] (7 ∷ 8 ∷ []) 0 2
cut_short = record {
  asks = two ∷ none ∷ [];
  calls = (lit< tt, lit< tt, refl, λ e. absurd (omega (arith, ap length e)), (lit< tt, lit< tt, refl, λ e. refl, refl));
  gave = refl;
}

pub met_the_end : MeetsEnd (two ∷ none ∷ [])
met_the_end = record { front = two ∷ []; last = none; are = refl; none = refl }

-- nothing is asked where nothing lacks
pub never_for_nothing : Asks counts (Lacks 2) (two ∷ third ∷ []) [] 0 2 → ⊥
never_for_nothing (lack, room, did, last, rest) = absurd (omega (arith, rest.0))

-- nor for no bytes
pub never_for_no_bytes : Asks counts (Lacks 3) (record { buffer = []; answer = Ok 0; state = 1 } ∷ []) [] 0 1 → ⊥
never_for_no_bytes (lack, room, did, last, rest) = absurd (omega (arith, room))

-- nor twice at the end
pub never_behind_the_end : Asks counts (Lacks 3) (record { buffer = 0 ∷ []; answer = Ok 0; state = 1 } ∷ none ∷ []) [] 0 2 → ⊥
never_behind_the_end (lack, room, did, last, rest) = absurd (omega (arith, ap (λ (l : List Ask). length l) (last refl)))

-- how many bytes a record takes: 16 and 54
pub a_record_takes : size_of_first Little (little_record ++ typed) ≡ 70
a_record_takes = refl

-- a header that isn't whole, and one that says 262,145 bytes
pub a_header_takes : size_of_first Little (zeros ++ zeros) ≡ 16
a_header_takes = refl

pub too_long_takes : size_of_first Little (zeros ++ zeros ++ (1 ∷ 0 ∷ 4 ∷ 0 ∷ []) ++ zeros) ≡ 16
too_long_takes = refl
