-- Keys in a total order: which are in a list, and lists that ascend and have the same keys.
use Rattle.std.proofs.Common.{arith}
use Rattle.std.proofs.Common.{◌≡◌, refl, sym, ap, ◌∙◌, Bool, true, false, ◌||◌, List, [], ◌∷◌, map, filter, inl, inr, true≢false, Ordering, is_eq, is_lt}
use Rattle.std.specs.List.{AllByRecursion, list_any}
use Rattle.std.specs.Ordering.{ordering_reverse}
use Rattle.std.specs.Cmp.{IsTotalOrder}
use Rattle.std.proofs.lemmas.Bool.{cases_Bool}
use Rattle.ipx_table.specs.Stands.{Ascends}
use Rattle.ipx_table.proofs.Searching.{cases_Ordering}
use Rattle.ipx_router.specs.Sorted.{put}
use Rattle.ipx_router.proofs.lists.EachElement.{all_then, all_both, all-filter}
use Rattle.ipx_router.proofs.changes.KeysThatDiffer.{is_less, is_equal}

-- ---- tests of a list

pub any_same : {X : Type 0} (p q : X → Bool) → ((x : X) → p x ≡ q x) → (xs : List X) → list_any p xs ≡ list_any q xs
any_same p q each xs = grind arith

pub any-put : {X : Type 0} (p : X → Bool) (before : X → X → Bool) (x : X) (xs : List X) → list_any p (put before x xs) ≡ (p x || list_any p xs)
any-put p before x [] = refl
any-put p before x (y ∷ xs) = grind (arith, any-put p before x xs)

-- ---- the three answers

reversed_eq : (r : Ordering) → is_eq (ordering_reverse r) ≡ is_eq r
reversed_eq r = grind arith

module _ {K : Type 0} (order : K → K → Ordering) (total : IsTotalOrder order) where
  pub eq_sym : (a b : K) → is_eq (order a b) ≡ is_eq (order b a)
  eq_sym a b = ap is_eq (total.antisymm a b) ∙ reversed_eq (order b a)

  pub eq_itself : (a : K) → is_eq (order a a) ≡ true
  eq_itself a = own (order a a) (total.antisymm a a)
    where
      own : (r : Ordering) → r ≡ ordering_reverse r → is_eq r ≡ true
      own r e = grind arith

  -- what is equal to another compares as the other does
  pub alike_right : (a b x : K) → is_eq (order a b) ≡ true → order x a ≡ order x b
  alike_right a b x e = grind arith

  less_apart : (a b : K) → is_lt (order a b) ≡ true → is_eq (order b a) ≡ false
  less_apart a b e = eq_sym b a ∙ ap is_eq (is_less (order a b) e)

  -- ---- keys in a list

  abbrev pub is_in : K → List K → Bool
  is_in key keys = list_any (λ other. is_eq (order other key)) keys

  -- a smaller key than all is in no list
  beyond : (key : K) (keys : List K) → AllByRecursion (λ x. is_lt (order key x) ≡ true) keys → is_in key keys ≡ false
  beyond key [] all = refl
  beyond key (x ∷ keys) all = let e = less_apart key x all.0 in rw e (beyond key keys all.1)

  less_through : (a b c : K) → is_lt (order a b) ≡ true → is_lt (order b c) ≡ true → is_lt (order a c) ≡ true
  less_through a b c p q = ap is_lt (total.trans a b c (is_less (order a b) p) (is_less (order b c) q))

  -- before the first of ascending keys
  outside : (key first : K) (keys : List K) → is_lt (order key first) ≡ true → AllByRecursion (λ x. is_lt (order first x) ≡ true) keys
      → is_in key (first ∷ keys) ≡ false
  outside key first keys less all = grind (arith, beyond, all_then, is_lt, less_through)

  -- who is in a list and not its first is in the rest
  in_rest : (first key : K) (keys : List K) → is_eq (order first key) ≡ false → is_in key (first ∷ keys) ≡ true → is_in key keys ≡ true
  in_rest first key keys other here = rw other at here

  pub ascends-filter : (p : K → Bool) (keys : List K) → Ascends order keys → Ascends order (filter p keys)
  ascends-filter p [] up = tt
  ascends-filter p (key ∷ keys) up = grind (arith, ascends-filter p keys up.1, all-filter, is_lt)

  -- who passes is among those that pass
  pub in-filter : (p : K → Bool) → ((a b : K) → is_eq (order a b) ≡ true → p a ≡ p b) → (key : K) (keys : List K)
      → p key ≡ true → is_in key keys ≡ true → is_in key (filter p keys) ≡ true
  in-filter p alike key [] passes here = here
  in-filter p alike key (x ∷ keys) passes here = elim (cases_Bool (is_eq (order x key))) [
    | inl e ↦ let passes_too = alike x key e ∙ passes in rw (passes_too, e) refl
    | inr e ↦
        let rest = in-filter p alike key keys passes (in_rest x key keys e here) in
        elim (cases_Bool (p x)) [
          | inl f ↦ rw (f, e) rest
          | inr f ↦ rw f rest
        ]
  ]

  -- ---- the same keys

  -- behind equal first keys the rest of one list is in the rest of the other
  behind : (a b : K) → is_eq (order a b) ≡ true → (keys others : List K) → AllByRecursion (λ x. is_lt (order a x) ≡ true) keys
      → AllByRecursion (λ x. is_in x (b ∷ others) ≡ true) keys → AllByRecursion (λ x. is_in x others ≡ true) keys
  behind a b e keys others above all =
      all_then (λ x. (is_lt (order a x) ≡ true) × (is_in x (b ∷ others) ≡ true)) (λ x. is_in x others ≡ true)
      (λ x both. in_rest b x others (ap is_eq (sym (total.congr a b x (is_equal (order a b) e)) ∙ is_less (order a x) both.0)) both.1)
      keys (all_both (λ x. is_lt (order a x) ≡ true) (λ x. is_in x (b ∷ others) ≡ true) keys above all)

  -- ascending lists whose keys are in each other give the same, where equal keys give the same
  pub same_members : {Y : Type 0} (f : K → Y) → ((a b : K) → is_eq (order a b) ≡ true → f a ≡ f b) → (keys others : List K)
      → Ascends order keys → Ascends order others → AllByRecursion (λ x. is_in x others ≡ true) keys → AllByRecursion (λ x. is_in x keys ≡ true) others
      → map f keys ≡ map f others
  same_members f alike [] [] up others_up there here = refl
  same_members f alike [] (b ∷ others) up others_up there here = absurd (true≢false (sym here.0))
  same_members f alike (a ∷ keys) [] up others_up there here = absurd (true≢false (sym there.0))
  same_members f alike (a ∷ keys) (b ∷ others) up others_up there here = elim (cases_Ordering (order a b)) [
    | inl less ↦ absurd (true≢false (sym there.0 ∙ outside a b others (ap is_lt less) others_up.0))
    | inr rest ↦ elim rest [
      | inl equal ↦
          let e = ap is_eq equal in
          let back = eq_sym b a ∙ e in
          let more = same_members f alike keys others up.1 others_up.1 (behind a b e keys others up.0 there.1) (behind b a back others keys others_up.0 here.1) in
          ap (λ y. y ∷ map f keys) (alike a b e) ∙ ap (λ ys. f b ∷ ys) more
      | inr greater ↦ absurd (true≢false (sym here.0 ∙ outside b a keys (ap is_lt (total.antisymm b a ∙ ap ordering_reverse greater)) up.0))
    ]
  ]
