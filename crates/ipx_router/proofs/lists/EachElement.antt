-- What holds of each element of a list, through the words that make lists of lists.
use Rattle.std.proofs.Common.{arith}
use Rattle.std.proofs.Common.{◌≡◌, refl, ℕ, suc, Bool, true, List, [], ◌∷◌, ◌++◌, map, filter, Some, IfSome}
use Rattle.std.specs.List.{AllByRecursion, flat_map, find, slice_get}
use Rattle.ipx_router.specs.Sorted.{put, put_all, sorted}
use Rattle.ipx_router.proofs.tables.HeldWasOffered.{all-append}

module _ {X : Type 0} where
  pub all_then : (P Q : X → Type 0) → ((x : X) → P x → Q x) → (xs : List X) → AllByRecursion P xs → AllByRecursion Q xs
  all_then P Q step [] all = tt
  all_then P Q step (x ∷ xs) all = (step x all.0, all_then P Q step xs all.1)

  pub all_both : (P Q : X → Type 0) (xs : List X) → AllByRecursion P xs → AllByRecursion Q xs → AllByRecursion (λ x. P x × Q x) xs
  all_both P Q [] one two = tt
  all_both P Q (x ∷ xs) one two = ((one.0, two.0), all_both P Q xs one.1 two.1)

  pub all_before : (P : X → Type 0) (xs ys : List X) → AllByRecursion P (xs ++ ys) → AllByRecursion P xs
  all_before P [] ys all = tt
  all_before P (x ∷ xs) ys all = (all.0, all_before P xs ys all.1)

  pub all_behind : (P : X → Type 0) (xs ys : List X) → AllByRecursion P (xs ++ ys) → AllByRecursion P ys
  all_behind P [] ys all = all
  all_behind P (x ∷ xs) ys all = all_behind P xs ys all.1

  pub all-filter : (P : X → Type 0) (p : X → Bool) (xs : List X) → AllByRecursion P xs → AllByRecursion P (filter p xs)
  all-filter P p [] all = tt
  all-filter P p (x ∷ xs) all = grind (arith, all-filter P p xs all.1)

  -- what a filter keeps passes too
  pub all_passed : (P : X → Type 0) (p : X → Bool) (xs : List X) → AllByRecursion P xs → AllByRecursion (λ x. P x × (p x ≡ true)) (filter p xs)
  all_passed P p [] all = tt
  all_passed P p (x ∷ xs) all = grind (arith, all_passed P p xs all.1)

  pub all-find : (P : X → Type 0) (p : X → Bool) (xs : List X) → AllByRecursion P xs → IfSome (find p xs) P
  all-find P p [] all = tt
  all-find P p (x ∷ xs) all = grind (arith, all-find P p xs all.1)

  -- what is put in its place joins the others
  pub all_placed : (P : X → Type 0) (before : X → X → Bool) (x : X) (xs : List X) → P x → AllByRecursion P xs → AllByRecursion P (put before x xs)
  all_placed P before x [] one all = (one, tt)
  all_placed P before x (y ∷ xs) one all = grind (arith, all_placed P before x xs one all.1)

  all_placed_all : (P : X → Type 0) (before : X → X → Bool) (placed xs : List X) → AllByRecursion P placed → AllByRecursion P xs
      → AllByRecursion P (put_all before placed xs)
  all_placed_all P before placed [] some all = some
  all_placed_all P before placed (x ∷ xs) some all = all_placed_all P before (put before x placed) xs (all_placed P before x placed all.0 some) all.1

  pub all_sorted : (P : X → Type 0) (before : X → X → Bool) (xs : List X) → AllByRecursion P xs → AllByRecursion P (sorted before xs)
  all_sorted P before xs all = all_placed_all P before [] xs tt all

  -- what holds at every place holds of each
  pub all_listed : (P : X → Type 0) (xs : List X) → ((k : ℕ) (x : X) → slice_get xs k ≡ Some x → P x) → AllByRecursion P xs
  all_listed P [] at = tt
  all_listed P (x ∷ xs) at = (at 0 x refl, all_listed P xs (λ k y e. at (suc k) y e))

module _ {X Y : Type 0} (P : X → Type 0) (Q : Y → Type 0) where
  pub all-map : (f : X → Y) → ((x : X) → P x → Q (f x)) → (xs : List X) → AllByRecursion P xs → AllByRecursion Q (map f xs)
  all-map f step [] all = tt
  all-map f step (x ∷ xs) all = (step x all.0, all-map f step xs all.1)

  pub all-flat_map : (f : X → List Y) → ((x : X) → P x → AllByRecursion Q (f x)) → (xs : List X) → AllByRecursion P xs → AllByRecursion Q (flat_map f xs)
  all-flat_map f step [] all = tt
  all-flat_map f step (x ∷ xs) all = all-append Q (f x) (flat_map f xs) (step x all.0) (all-flat_map f step xs all.1)
