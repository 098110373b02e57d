-- The keys of offers, each once, and how many of them differ before an event and after it.
use Rattle.std.proofs.Common.{◌≡◌, refl, ap, ◌∙◌, ◌+◌, ◌≤◌, Bool, true, false, ◌||◌, List, [], ◌∷◌, map, filter, length, Option, inl, inr, arith, Ordering, Less, Equal, is_eq, is_lt}
use Rattle.std.specs.List.{AllByRecursion, list_any}
use Rattle.std.specs.Ordering.{ordering_reverse}
use Rattle.std.specs.Cmp.{IsTotalOrder}
use Rattle.std.proofs.lemmas.Bool.{cases_Bool}
use Rattle.ipx_router.specs.Changes.{offer_of, same_or_none, put_key, put_keys, change_at, differs, changes}
use Rattle.ipx_router.specs.Sorted.{put}
use Rattle.ipx_router.proofs.lists.EachElement.{all_then, all_placed}

-- ---- how many pass a test

-- a test that asks for less passes no fewer
passes_more : {X : Type 0} (p q : X → Bool) → ((x : X) → p x ≡ true → q x ≡ true) → (xs : List X) → length (filter p xs) ≤ length (filter q xs)
passes_more p q weaker [] = omega arith
passes_more p q weaker (x ∷ xs) = grind (arith, passes_more p q weaker xs)

passes_either : {X : Type 0} (p q : X → Bool) (xs : List X) → length (filter (λ x. p x || q x) xs) ≤ length (filter p xs) + length (filter q xs)
passes_either p q [] = omega arith
passes_either p q (x ∷ xs) = grind (arith, passes_either p q xs)

none_passes : {X : Type 0} (p : X → Bool) (xs : List X) → AllByRecursion (λ x. p x ≡ false) xs → length (filter p xs) ≡ 0
none_passes p [] all = refl
none_passes p (x ∷ xs) all = let e = all.0 in rw e (none_passes p xs all.1)

filter-mapped : {X Y : Type 0} (p : Y → Bool) (f : X → Y) (xs : List X) → length (filter p (map f xs)) ≡ length (filter (λ x. p (f x)) xs)
filter-mapped p f [] = refl
filter-mapped p f (x ∷ xs) = grind (arith, filter-mapped p f xs)

-- ---- the three answers

pub is_less : (r : Ordering) → is_lt r ≡ true → r ≡ Less
is_less r e = grind arith

pub is_equal : (r : Ordering) → is_eq r ≡ true → r ≡ Equal
is_equal r e = grind arith

other_way : (r s : Ordering) → r ≡ ordering_reverse s → is_eq r ≡ false → is_lt r ≡ false → is_lt s ≡ true
other_way r s e q l = grind arith

-- ---- keys in their places

-- neither of two
pub neither : (a b : Bool) → (a || b) ≡ false → (a ≡ false) × (b ≡ false)
neither a b e = grind arith

module _ {O K : Type 0} (key_of : O → K) (order : K → K → Ordering) (same : O → O → Bool) (total : IsTotalOrder order) where
  -- each key is smaller than those behind it
  abbrev pub Rises : List K → Type 0
  Rises [] = Unit
  Rises (key ∷ keys) = AllByRecursion (λ other. is_lt (order key other) ≡ true) keys × Rises keys

  less_through : (a b c : K) → is_lt (order a b) ≡ true → is_lt (order b c) ≡ true → is_lt (order a c) ≡ true
  less_through a b c p q = ap is_lt (total.trans a b c (is_less (order a b) p) (is_less (order b c) q))

  rises_placed : (key : K) (keys : List K) → list_any (λ other. is_eq (order key other)) keys ≡ false → Rises keys
      → Rises (put (λ a b. is_lt (order a b)) key keys)
  rises_placed key [] new up = (tt, tt)
  rises_placed key (other ∷ keys) new up =
      let apart = neither (is_eq (order key other)) (list_any (λ other. is_eq (order key other)) keys) new in
      elim (cases_Bool (is_lt (order key other))) [
        | inl less ↦ rw less (
          (less, all_then (λ x. is_lt (order other x) ≡ true) (λ x. is_lt (order key x) ≡ true) (λ x l. less_through key other x less l) keys up.0),
          up,
        )
        | inr more ↦
            let below = other_way (order key other) (order other key) (total.antisymm key other) apart.0 more in
            rw more (all_placed (λ x. is_lt (order other x) ≡ true) (λ a b. is_lt (order a b)) key keys below up.0, rises_placed key keys apart.1 up.1)
      ]

  rises-put : (key : K) (keys : List K) → Rises keys → Rises (put_key key_of order same key keys)
  rises-put key keys up = grind (arith, is_eq, rises_placed)

  pub rises-puts : (offers : List O) (keys : List K) → Rises keys → Rises (put_keys key_of order same offers keys)
  rises-puts [] keys up = up
  rises-puts (o ∷ offers) keys up = rises-put (key_of o) (put_keys key_of order same offers keys) (rises-puts offers keys up)

  -- ---- how many of them are the keys of some offers

  -- of rising keys at most one is equal to a key
  single : (key : K) (keys : List K) → Rises keys → length (filter (λ other. is_eq (order key other)) keys) ≤ 1
  single key [] up = omega arith
  single key (first ∷ keys) up = elim (cases_Bool (is_eq (order key first))) [
    | inl equal ↦
        let none = none_passes (λ other. is_eq (order key other)) keys
        (all_then (λ x. is_lt (order first x) ≡ true) (λ x. is_eq (order key x) ≡ false) (λ x l. behind x equal l) keys up.0) in
        rw equal (omega (arith, none))
    | inr apart ↦ rw apart (single key keys up.1)
  ]
    where
      behind : (x : K) → is_eq (order key first) ≡ true → is_lt (order first x) ≡ true → is_eq (order key x) ≡ false
      behind x equal l = ap is_eq (total.congr key first x (is_equal (order key first) equal) ∙ is_less (order first x) l)

  -- one of the offers has that key
  abbrev pub is_key_of : List O → K → Bool
  is_key_of offers key = list_any (λ o. is_eq (order (key_of o) key)) offers

  few_keys : (offers : List O) (keys : List K) → Rises keys → length (filter (is_key_of offers) keys) ≤ length offers
  few_keys [] keys up = omega (arith, none_passes (is_key_of []) keys (nothing keys))
    where
      nothing : (keys : List K) → AllByRecursion (λ key. is_key_of [] key ≡ false) keys
      nothing [] = tt
      nothing (key ∷ keys) = (refl, nothing keys)
  few_keys (o ∷ offers) keys up =
      omega (
        arith,
        passes_either (λ key. is_eq (order (key_of o) key)) (is_key_of offers) keys,
        single (key_of o) keys up,
        few_keys offers keys up,
      )

  -- ---- how many changes there are

  pub alike : ((o : O) → same o o ≡ true) → (o : Option O) → same_or_none key_of order same o o ≡ true
  alike itself o = grind arith

  -- where only keys of some offers have another offer after an event than before it, there are at most as many changes
  pub few_changes : ((o : O) → same o o ≡ true) → (before after some : List O)
      → ((key : K) → is_key_of some key ≡ false → offer_of key_of order same key after ≡ offer_of key_of order same key before)
      → length (changes key_of order same before after) ≤ length some
  few_changes itself before after some others =
      let keys = put_keys key_of order same before (put_keys key_of order same after []) in
      omega (
        arith,
        filter-mapped (differs key_of order same) (change_at key_of order same before after) keys,
        passes_more (λ key. differs key_of order same (change_at key_of order same before after key)) (is_key_of some) known keys,
        few_keys some keys (rises-puts before (put_keys key_of order same after []) (rises-puts after [] tt)),
      )
    where
      known : (key : K) → differs key_of order same (change_at key_of order same before after key) ≡ true → is_key_of some key ≡ true
      known key e = grind arith
