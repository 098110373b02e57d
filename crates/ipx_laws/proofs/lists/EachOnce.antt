-- Lists in which no element comes twice: they are no longer than a list that has all of their elements.
use Rattle.std.proofs.Common.{◌≡◌, ◌≢◌, refl, sym, ap, ap₂, ◌∙◌, subst, ℕ, zero, suc, ◌+◌, ◌≤◌, Bool, List, [], ◌∷◌, ◌++◌, length, map, filter, flat_map, Some, slice_get, inl, inr, arith}
use Rattle.std.specs.List.{AllByRecursion}
use Rattle.std.proofs.lemmas.List.{map-append}
use Rattle.ipx_internet.specs.Different.{AreDifferent}
use Rattle.ipx_internet.proofs.lists.EachElement.{all_then, all-append, all_mapped, all_apart, differ-append}
use Rattle.ipx_internet.proofs.lists.FoundInAList.{nothing, it_is}
use Rattle.ipx_laws.proofs.lists.SomeElement.{AnyIs}

module _ {X : Type 0} where
  -- ---- one of a list

  abbrev pub IsOneOf : X → List X → Type 0
  IsOneOf x xs = AnyIs (λ y. y ≡ x) xs

  pub one_at : (xs : List X) (k : ℕ) (x : X) → slice_get xs k ≡ Some x → IsOneOf x xs
  one_at [] k x there = nothing there
  one_at (y ∷ xs) zero x there = inl (it_is (λ z. y ≡ z) x y there refl)
  one_at (y ∷ xs) (suc k) x there = inr (one_at xs k x there)

  pub where_one_is : (xs : List X) (x : X) → IsOneOf x xs → (k : ℕ) × (slice_get xs k ≡ Some x)
  where_one_is [] x there = absurd there
  where_one_is (y ∷ xs) x (inl e) = (0, ap (λ (z : X). Some z) e)
  where_one_is (y ∷ xs) x (inr behind) = let (k, there) = where_one_is xs x behind in (suc k, there)

  -- what all are, one is
  pub one_is : (P : X → Type 0) (xs : List X) (x : X) → AllByRecursion P xs → IsOneOf x xs → P x
  one_is P [] x all there = absurd there
  one_is P (y ∷ xs) x all (inl e) = subst P e all.0
  one_is P (y ∷ xs) x all (inr behind) = one_is P xs x all.1 behind

  pub all_one : (xs : List X) → AllByRecursion (λ x. IsOneOf x xs) xs
  all_one [] = tt
  all_one (x ∷ xs) = (inl refl, all_then (λ y. IsOneOf y xs) (λ y. IsOneOf y (x ∷ xs)) (λ y there. inr there) xs (all_one xs))

  -- ---- no longer

  abbrev without : (xs : List X) (x : X) → IsOneOf x xs → List X
  without [] x there = []
  without (y ∷ xs) x (inl e) = xs
  without (y ∷ xs) x (inr behind) = y ∷ without xs x behind

  one_fewer : (xs : List X) (x : X) (there : IsOneOf x xs) → length (without xs x there) + 1 ≡ length xs
  one_fewer [] x there = absurd there
  one_fewer (y ∷ xs) x (inl e) = omega arith
  one_fewer (y ∷ xs) x (inr behind) = let rest = one_fewer xs x behind in omega (arith, rest)

  still_one : (xs : List X) (x z : X) (there : IsOneOf x xs) → z ≢ x → IsOneOf z xs → IsOneOf z (without xs x there)
  still_one [] x z there other one = absurd there
  still_one (y ∷ xs) x z (inl e) other (inl f) = absurd (other (sym f ∙ e))
  still_one (y ∷ xs) x z (inl e) other (inr one) = one
  still_one (y ∷ xs) x z (inr there) other (inl f) = inl f
  still_one (y ∷ xs) x z (inr there) other (inr one) = inr (still_one xs x z there other one)

  all_still : (ys : List X) (x : X) (there : IsOneOf x ys) (xs : List X) → AllByRecursion (λ z. z ≢ x) xs → AllByRecursion (λ z. IsOneOf z ys) xs
      → AllByRecursion (λ z. IsOneOf z (without ys x there)) xs
  all_still ys x there [] others all = tt
  all_still ys x there (z ∷ xs) others all = (still_one ys x z there others.0 all.0, all_still ys x there xs others.1 all.1)

  pub no_longer : (xs ys : List X) → AreDifferent xs → AllByRecursion (λ x. IsOneOf x ys) xs → length xs ≤ length ys
  no_longer [] ys differ all = omega arith
  no_longer (x ∷ xs) ys differ all =
      let fewer = one_fewer ys x all.0 in
      let rest = no_longer xs (without ys x all.0) differ.1 (all_still ys x all.0 xs differ.0 all.1) in
      omega (arith, fewer, rest)

  -- ---- one more, behind

  pub all_parts : (P : X → Type 0) (xs ys : List X) → AllByRecursion P (xs ++ ys) → AllByRecursion P xs × AllByRecursion P ys
  all_parts P [] ys all = (tt, all)
  all_parts P (x ∷ xs) ys all = let (front, back) = all_parts P xs ys all.1 in ((all.0, front), back)

  pub differ_more : (xs : List X) (x : X) → AreDifferent xs → AllByRecursion (λ y. y ≢ x) xs → AreDifferent (xs ++ x ∷ [])
  differ_more xs x differ others =
      differ-append xs (x ∷ []) differ (tt, tt) (all_then (λ y. y ≢ x) (λ y. AllByRecursion (λ z. z ≢ y) (x ∷ [])) (λ y other. ((λ e. other (sym e)), tt)) xs others)

  pub differ_less : (xs : List X) (x : X) → AreDifferent (xs ++ x ∷ []) → AreDifferent xs × AllByRecursion (λ y. y ≢ x) xs
  differ_less [] x differ = (tt, tt)
  differ_less (y ∷ xs) x differ =
      let (front, last) = all_parts (λ z. z ≢ y) xs (x ∷ []) differ.0 in
      let (rest, others) = differ_less xs x differ.1 in
      ((front, rest), ((λ e. last.0 (sym e)), others))

-- ---- how many pass

pub length-filter_map : {X Y : Type 0} (test : Y → Bool) (f : X → Y) (xs : List X) → length (filter test (map f xs)) ≡ length (filter (λ x. test (f x)) xs)
length-filter_map test f [] = refl
length-filter_map test f (x ∷ xs) = grind (arith, length-filter_map test f xs)

-- ---- images that differ

-- of elements that are the same in one way if they are in another
pub differ_by : {X Y Z : Type 0} (P : X → Type 0) (f : X → Y) (g : X → Z) → ((a b : X) → P a → P b → g a ≡ g b → f a ≡ f b) → (xs : List X)
    → AllByRecursion P xs → AreDifferent (map f xs) → AreDifferent (map g xs)
differ_by P f g back [] all differ = tt
differ_by {X} P f g back (x ∷ xs) all differ = (others xs all.1 differ.0, differ_by P f g back xs all.1 differ.1)
  where
    others : (ys : List X) → AllByRecursion P ys → AllByRecursion (λ y. y ≢ f x) (map f ys) → AllByRecursion (λ y. y ≢ g x) (map g ys)
    others [] each off = tt
    others (y ∷ ys) each off = ((λ e. off.0 (back y x each.0 all.0 e)), others ys each.1 off.1)

-- of pieces whose images bear the key of what they are pieces of
pub differ_pieces : {X Y Z K : Type 0} (P : X → Type 0) (key : X → K) (mark : Z → K) (f : X → List Y) (of : Y → Z)
    → ((x : X) → P x → AllByRecursion (λ y. mark (of y) ≡ key x) (f x)) → ((x : X) → P x → AreDifferent (map of (f x))) → (xs : List X)
    → AllByRecursion P xs → AreDifferent (map key xs) → AreDifferent (map of (flat_map f xs))
differ_pieces P key mark f of marked each [] all differ = tt
differ_pieces {X} {Y} {Z} P key mark f of marked each (x ∷ xs) all differ =
    subst (λ (zs : List Z). AreDifferent zs) (sym (map-append of (f x) (flat_map f xs)))
    (differ-append (map of (f x)) (map of (flat_map f xs)) (each x all.0) (differ_pieces P key mark f of marked each xs all.1 differ.1)
    (all_apart (λ z. mark z ≡ key x) (λ z. mark z ≢ key x) (λ z is other. other is) (map of (f x)) (map of (flat_map f xs))
    (all_mapped (λ z. mark z ≡ key x) of (f x) (marked x all.0))
    (all_mapped (λ z. mark z ≢ key x) of (flat_map f xs) (others xs all.1 differ.0))))
  where
    others : (ys : List X) → AllByRecursion P ys → AllByRecursion (λ k. k ≢ key x) (map key ys) → AllByRecursion (λ y. mark (of y) ≢ key x) (flat_map f ys)
    others [] all off = tt
    others (y ∷ ys) all off =
        all-append (λ z. mark (of z) ≢ key x) (f y) (flat_map f ys)
        (all_then (λ z. mark (of z) ≡ key y) (λ z. mark (of z) ≢ key x) (λ z is same. off.0 (sym is ∙ same)) (f y) (marked y all.0))
        (others ys all.1 off.1)

pub map_back : {X Y : Type 0} (f : X → Y) (g : Y → X) → ((x : X) → g (f x) ≡ x) → (xs : List X) → map g (map f xs) ≡ xs
map_back f g back [] = refl
map_back f g back (x ∷ xs) = ap₂ (λ y ys. y ∷ ys) (back x) (map_back f g back xs)
