-- What a second does to records, one record after the other.
use Rattle.std.proofs.lemmas.Grind.{common_steps}
use Rattle.std.proofs.Common.{◌≡◌, refl, sym, ap, ◌∙◌, ℕ, ◌+◌, ◌<◌, not, List, [], ◌∷◌, ◌++◌, map, filter, length, take, get_or, arith, Ordering}
use Rattle.std.specs.List.{AllByRecursion}
use Rattle.std.specs.Cmp.{IsTotalOrder}
use Rattle.ipx_table.specs.Reading.{same_key}
use Rattle.ipx_table.specs.Alive.{lifetime}
use Rattle.ipx_table.specs.Stands.{in_order, older, is_last, second_later, ended, IsKept}
use Rattle.ipx_table.specs.declared.held.Held.{Held}
use Rattle.ipx_table.proofs.Order as order
use Rattle.ipx_table.proofs.Singles.{length-filter-filter}

pub all-at : {X : Type 0} (P : X → Type 0) (xs : List X) (i : ℕ) (d : X) → i < length xs → AllByRecursion P xs → P (get_or xs i d)
all-at P xs i d l all = grind (arith, common_steps)

pub take-got : {X : Type 0} (xs : List X) (i : ℕ) (d : X) → i < length xs → take (i + 1) xs ≡ take i xs ++ get_or xs i d ∷ []
take-got xs i d l = grind (arith, common_steps)

module _ {O : Type 0} (by_key : O → O → Ordering) (total : IsTotalOrder by_key) where
  pub second-in_order : (held : List (Held O)) → in_order by_key (second_later held) ≡ second_later (in_order by_key held)
  second-in_order held =
      sym (order.older-in_order by_key total (filter (λ h. not (is_last h)) held)) ∙ ap (map older) (sym (order.filter-in_order by_key total (λ h. not (is_last h)) held))

  pub ended-in_order : (held : List (Held O)) → map (λ h. h.offer) (in_order by_key (filter is_last held)) ≡ ended (in_order by_key held)
  ended-in_order held = ap (map (λ h. h.offer)) (sym (order.filter-in_order by_key total is_last held))

  count-older : (q : O) (xs : List (Held O)) → length (filter (λ h. same_key by_key h.offer q) (map older xs)) ≡ length (filter (λ h. same_key by_key h.offer q) xs)
  count-older q [] = refl
  count-older q (x ∷ xs) = grind (arith, count-older q xs)

  younger : (held : List (Held O)) → AllByRecursion (λ h. h.age < lifetime) held → AllByRecursion (λ h. h.age < lifetime) (second_later held)
  younger [] young = tt
  younger (h ∷ held) young = grind (arith, younger held young.1)

  pub kept-second : (held : List (Held O)) → IsKept by_key held → IsKept by_key (second_later held)
  kept-second held kept = grind (arith, count-older, length-filter-filter, younger)
