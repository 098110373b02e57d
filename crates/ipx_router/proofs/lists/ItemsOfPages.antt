-- The pages of a list have its items: each at least one, and at most the number that fits.
use Rattle.std.proofs.Common.{ℕ, ◌≤◌, length, List, [], ◌∷◌, ◌++◌, arith, inl, inr}
use Rattle.std.specs.List.{AllByRecursion}
use Rattle.std.proofs.lemmas.Bool.{cases_lt, lt-ltb, le-ltb}
use Rattle.std.proofs.lemmas.List.{length-append}
use Rattle.ipx_router.proofs.tables.HeldWasOffered.{all-append}
use Rattle.ipx_router.specs.Pages.{pages_from, pages}

-- a page of items that P holds of, one at least and n at most
pub record IsPage {X : Type 0} (n : ℕ) (P : X → Type 0) (page : List X) : Type 0 where
  pub some : 1 ≤ length page
  pub most : length page ≤ n
  pub each : AllByRecursion P page

module _ {X : Type 0} (P : X → Type 0) (n : ℕ) (room : 1 ≤ n) where
  cut : (page xs : List X) → length page ≤ n → AllByRecursion P page → AllByRecursion P xs → AllByRecursion (IsPage n P) (pages_from n page xs)
  cut [] [] few begun all = tt
  cut (p ∷ page) [] few begun all = (record { some = omega arith; most = few; each = begun }, tt)
  cut page (x ∷ xs) few begun all =
      elim (cases_lt (length page) n) [
        | inl short ↦
            rw (lt-ltb (length page) n short)
            (cut (page ++ x ∷ []) xs (omega (arith, length-append page (x ∷ []))) (all-append P page (x ∷ []) begun (all.0, tt)) all.1)
        | inr full ↦
            rw (le-ltb (length page) n full)
            (record { some = omega arith; most = few; each = begun }, cut (x ∷ []) xs room (all.0, tt) all.1)
      ]

  pub all_pages : (xs : List X) → AllByRecursion P xs → AllByRecursion (IsPage n P) (pages n xs)
  all_pages xs all = cut [] xs (omega arith) tt all
