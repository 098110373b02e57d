-- What is told of a listing: each reception with what became of the packet there.
use Rattle.std.proofs.Common.{◌≡◌, refl, sym, ap, ap₂, ◌∙◌, ℕ, zero, suc, ◌<◌, List, [], ◌∷◌, length, map, slice_get, Some, arith}
use Rattle.std.specs.List.{AllByRecursion}
use Rattle.std.proofs.lemmas.List.{length-map}
use Rattle.ipx_router.specs.declared.outcome.Outcome.{Outcome}
use Rattle.ipx_internet.specs.Listed.{copy_at, told}
use Rattle.ipx_internet.specs.Tree.{Copy}
use Rattle.ipx_internet.proofs.lists.FoundInAList.{nothing, it_is}

-- all receptions are told
pub as_many : (copies : List Copy) (outcomes : List Outcome) → length copies ≡ length outcomes → length (told copies outcomes) ≡ length copies
as_many [] outcomes same = refl
as_many (c ∷ copies) [] same = absurd (omega (arith, same))
as_many (c ∷ copies) (o ∷ outcomes) same =
    let rest = as_many copies outcomes (omega (arith, same)) in
    omega (arith, rest)

pub told_copies : (copies : List Copy) (outcomes : List Outcome) → length copies ≡ length outcomes → map (λ r. r.copy) (told copies outcomes) ≡ copies
told_copies [] outcomes same = refl
told_copies (c ∷ copies) [] same = absurd (omega (arith, same))
told_copies (c ∷ copies) (o ∷ outcomes) same = ap (λ (cs : List Copy). c ∷ cs) (told_copies copies outcomes (omega (arith, same)))

-- the one at a place
pub told_at : (copies : List Copy) (outcomes : List Outcome) (k : ℕ) (c : Copy) (o : Outcome) → k < length copies → copy_at copies k ≡ c
    → slice_get outcomes k ≡ Some o
    → slice_get (told copies outcomes) k ≡ Some (record { copy = c; outcome = o })
told_at [] outcomes k c o within is became = absurd (omega (arith, within))
told_at (x ∷ copies) [] zero c o within is became = nothing became
told_at (x ∷ copies) [] (suc k) c o within is became = nothing became
told_at (x ∷ copies) (y ∷ outcomes) zero c o within is became = ap₂ (λ (c : Copy) (o : Outcome). Some (record { copy = c; outcome = o })) is (some_same y o became)
  where
    some_same : (a b : Outcome) → Some a ≡ Some b → a ≡ b
    some_same a b e = it_is (λ x. a ≡ x) b a e refl
told_at (x ∷ copies) (y ∷ outcomes) (suc k) c o within is became = told_at copies outcomes k c o (omega (arith, within)) is became

-- each outcome is the one that its reception has
pub told_outcomes : (of : Copy → Outcome) (copies : List Copy) → AllByRecursion (λ r. r.outcome ≡ of r.copy) (told copies (map of copies))
told_outcomes of [] = tt
told_outcomes of (c ∷ copies) = (refl, told_outcomes of copies)

-- a tree that is listed, with the outcome of each reception
module _ (of : Copy → Outcome) (whole copies : List Copy) (outcomes : List Outcome) (listed : copies ≡ whole) (became : outcomes ≡ map of whole) where
  pub each_has_one : length copies ≡ length outcomes
  each_has_one = ap (λ (cs : List Copy). length cs) listed ∙ sym (length-map whole of) ∙ ap (λ (os : List Outcome). length os) (sym became)

  pub told_whole : map (λ r. r.copy) (told copies outcomes) ≡ whole
  told_whole = told_copies copies outcomes each_has_one ∙ listed

  pub told_each : AllByRecursion (λ r. r.outcome ≡ of r.copy) (told copies outcomes)
  told_each = grind (arith, told_outcomes)
