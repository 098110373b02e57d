-- How many pieces a list is cut into.
use Rattle.std.proofs.Common.{◌≡◌, refl, ap, ℕ, ◌+◌, ◌-◌, ◌*◌, ◌<◌, ◌≤◌, List, [], ◌∷◌, ◌++◌, length, arith, length-append, inl, inr}
use Rattle.std.proofs.lemmas.Bool.{cases_lt, le-ltb}
use Rattle.std.proofs.lemmas.Nat.{le-div}
use Rattle.ipx_router.specs.Pages.{pages_from, pages, sheets}

-- one more item for a page with room
pub room_left : {X : Type 0} (n : ℕ) (page : List X) (x : X) (xs : List X) → length page < n → pages_from n page (x ∷ xs) ≡ pages_from n (page ++ x ∷ []) xs
room_left n page x xs room = grind arith

-- one more item for a full page
pub page_full : {X : Type 0} (n : ℕ) (p : X) (page : List X) (x : X) (xs : List X) → n ≤ length (p ∷ page)
    → pages_from n (p ∷ page) (x ∷ xs) ≡ (p ∷ page) ∷ pages_from n (x ∷ []) xs
page_full n p page x xs full = rw (le-ltb (length (p ∷ page)) n full) refl

-- each page but the last one holds n items
pages_counted : {X : Type 0} (n : ℕ) (page xs : List X) → 0 < n → length page ≤ n
    → length (pages_from n page xs) * n ≤ length page + length xs + (n - 1)
pages_counted n [] [] some few = omega arith
pages_counted n (p ∷ page) [] some few = omega (arith, some, few)
pages_counted n [] (x ∷ xs) some few =
    let e = ap length (room_left n [] x xs some) in
    rw e (omega (arith, pages_counted n (x ∷ []) xs some (omega arith)))
pages_counted n (p ∷ page) (x ∷ xs) some few =
    elim (cases_lt (length (p ∷ page)) n) [
      | inl room ↦
          let e = ap length (room_left n (p ∷ page) x xs room) in
          let more = length-append (p ∷ page) (x ∷ []) in
          rw e (omega (arith, more, pages_counted n ((p ∷ page) ++ x ∷ []) xs some (omega (arith, more, room))))
      | inr full ↦
          let e = ap length (page_full n p page x xs full) in
          rw e (omega (arith, full, pages_counted n (x ∷ []) xs some (omega (arith, some))))
    ]

-- the most items that there may be make no more pages than stated
pub length-pages : {X : Type 0} (n most : ℕ) (xs : List X) → 0 < n → length xs ≤ most → length (pages n xs) ≤ sheets n most
length-pages n most xs some few = grind (arith, le-div, pages_counted)
