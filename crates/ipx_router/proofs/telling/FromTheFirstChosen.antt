-- Offers from the first one on that is chosen: of them the same are chosen.
use Rattle.std.proofs.lemmas.Grind.{common_steps}
use Rattle.std.proofs.Common.{◌≡◌, refl, sym, ap, ◌∙◌, ℕ, ◌<◌, ◌&&◌, Bool, true, false, not, List, [], ◌∷◌, drop, filter, length, get_or, Option, None, inl, inr, arith}
use Rattle.std.specs.Iterator.{YieldsFirst}
use Rattle.std.specs.List.{prefix_len}
use Rattle.std.proofs.lemmas.Bool.{cases_Bool}
use Rattle.ipx_router.specs.Numbers.{unreachable}
use Rattle.ipx_router.specs.Told.{is_reached_on}
use Rattle.ipx_router.proofs.ended.EndedPageByPage.{left_stays, left_shrinks}

module _ {O : Type 0} (chosen : O → Bool) where
  -- those from the first one on that is chosen
  abbrev pub from_chosen : List O → List O
  from_chosen xs = drop (prefix_len (λ x. not (chosen x)) xs) xs

  pub starts : (x : O) (xs : List O) → chosen x ≡ true → from_chosen (x ∷ xs) ≡ x ∷ xs
  starts x xs e = left_stays (λ x. not (chosen x)) x xs (x ∷ xs) refl (ap not e)

  goes_on : (x : O) (xs : List O) → chosen x ≡ false → from_chosen (x ∷ xs) ≡ from_chosen xs
  goes_on x xs e = left_shrinks (λ x. not (chosen x)) x xs (x ∷ xs) refl (ap not e)

  pub takes_first : (x : O) (xs : List O) → chosen x ≡ true → filter chosen (x ∷ xs) ≡ x ∷ filter chosen xs
  takes_first x xs e = rw e refl

  pub skips_first : (x : O) (xs : List O) → chosen x ≡ false → filter chosen (x ∷ xs) ≡ filter chosen xs
  skips_first x xs e = rw e refl

  pub same_chosen : (xs : List O) → filter chosen (from_chosen xs) ≡ filter chosen xs
  same_chosen [] = refl
  same_chosen (x ∷ xs) = grind (arith, same_chosen xs, starts, goes_on, skips_first)

  -- the first of them is chosen
  pub first_chosen : (xs : List O) (x : O) (others : List O) → from_chosen xs ≡ x ∷ others → chosen x ≡ true
  first_chosen [] x others is = absurd (omega (arith, ap (λ (l : List O). length l) is))
  first_chosen (y ∷ ys) x others is = elim (cases_Bool (chosen y)) [
    | inl e ↦ ap (λ (l : List O). chosen (get_or l 0 y)) (sym (sym (starts y ys e) ∙ is)) ∙ e
    | inr e ↦ first_chosen ys x others (sym (goes_on y ys e) ∙ is)
  ]

-- nothing is left
pub no_more : {X : Type 0} (xs : List X) → length xs ≡ 0 → xs ≡ []
no_more xs none = grind (arith, common_steps)

-- what is told can be reached by the next router
pub told_hops : (other : Bool) (hops : ℕ) → (other && is_reached_on hops) ≡ true → hops < unreachable
told_hops other hops e = grind arith

-- an item fewer is left
pub one_fewer : {X : Type 0} {old new : List X} {x : X} → old ≡ x ∷ new → length new < length old
one_fewer {X} {old} {new} {x} is = let whole = ap (λ (l : List X). length l) is in omega (arith, whole)

-- a call gave nothing, where nothing was left
pub yields_none : {X : Type 0} {old new : List X} (r : Option X) → r ≡ None → old ≡ [] → new ≡ [] → YieldsFirst (λ rest. rest) old r new
yields_none r is before after = rw is (before, after)
