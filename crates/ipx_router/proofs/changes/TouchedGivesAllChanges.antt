-- What was touched of a table: with one key more, after an offer of a touched key, and that comparing it gives all changes.
use Rattle.std.proofs.Common.{arith}
use Rattle.std.proofs.Common.{◌≡◌, refl, sym, ap, ◌∙◌, Bool, true, false, not, ◌||◌, ◌&&◌, List, [], ◌∷◌, map, filter, Option, None, inl, inr, true≢false, Ordering, is_eq, is_lt}
use Rattle.std.specs.List.{AllByRecursion, list_any}
use Rattle.std.specs.Cmp.{IsTotalOrder}
use Rattle.std.proofs.lemmas.Bool.{cases_Bool}
use Rattle.ipx_table.specs.Stands.{Ascends}
use Rattle.ipx_router.specs.Changes.{Change, offer_of, same_or_none, put_key, put_keys, change_at, differs, changes}
use Rattle.ipx_router.specs.inside.Touched.{Touches, touched_key, is_touched, change_of, changes_noted}
use Rattle.ipx_router.specs.declared.learning.touched.Touched.{Touched}
use Rattle.ipx_router.proofs.lists.EachElement.{all_then, all-map, all_passed}
use Rattle.ipx_router.proofs.changes.KeysThatDiffer.{Rises, rises-puts, neither, alike}
use Rattle.ipx_router.proofs.changes.NotedInPlace.{offer_alike}
use Rattle.ipx_router.proofs.lists.KeysInLists.{any_same, any-put, eq_sym, alike_right, is_in, ascends-filter, in-filter, same_members}

pub filter-of_map : {X Y : Type 0} (p : Y → Bool) (f : X → Y) (xs : List X) → filter p (map f xs) ≡ map f (filter (λ x. p (f x)) xs)
filter-of_map p f [] = refl
filter-of_map p f (x ∷ xs) = grind (arith, filter-of_map p f xs)

all_of : {X : Type 0} (P : X → Type 0) → ((x : X) → P x) → (xs : List X) → AllByRecursion P xs
all_of P each [] = tt
all_of P each (x ∷ xs) = (each x, all_of P each xs)

filter_same : {X : Type 0} (p q : X → Bool) → ((x : X) → p x ≡ q x) → (xs : List X) → filter p xs ≡ filter q xs
filter_same p q each xs = grind arith

-- two comparisons that agree find the same changes
pub changes_alike : {O K : Type 0} (key_of : O → K) (order : K → K → Ordering) (eq same : O → O → Bool) → ((a b : O) → eq a b ≡ same a b)
    → (before now : List O) → changes key_of order eq before now ≡ changes key_of order same before now
changes_alike {O} key_of order eq same agree before now =
    filter_same (differs key_of order eq) (differs key_of order same) (λ c. alike_differ c.before c.after)
    (map (change_at key_of order eq before now) (put_keys key_of order eq before (put_keys key_of order eq now [])))
  where
    alike_differ : (a b : Option O) → not (same_or_none key_of order eq a b) ≡ not (same_or_none key_of order same a b)
    alike_differ a b = grind arith

module _ {O K : Type 0} (key_of : O → K) (order : K → K → Ordering) (same : O → O → Bool) (total : IsTotalOrder order) where
  abbrev is_known : K → List K → Bool
  is_known key keys = is_in order total key keys

  abbrev keys_of : List (Touched O) → List K
  keys_of all = map (touched_key key_of order) all

  rises-ascends : (keys : List K) → Rises key_of order same total keys → Ascends order keys
  rises-ascends keys up = grind arith

  ascends_keys : (all : List (Touched O)) → Ascends (λ a b. order (key_of a.offer) (key_of b.offer)) all → Ascends order (keys_of all)
  ascends_keys [] up = tt
  ascends_keys (t ∷ all) up = (
    all-map (λ u. is_lt (order (key_of t.offer) (key_of u.offer)) ≡ true) (λ key. is_lt (order (key_of t.offer) key) ≡ true) (touched_key key_of order)
        (λ u less. less) all up.0,
    ascends_keys all up.1,
  )

  any_key : (key : K) (all : List (Touched O)) → is_known key (keys_of all) ≡ is_touched key_of order key all
  any_key key [] = refl
  any_key key (t ∷ all) = ap (λ b. is_eq (order (key_of t.offer) key) || b) (any_key key all)

  -- ---- keys of offers

  -- who isn't there when a key is put in its place is another key, and wasn't there before
  not_put : (key x : K) (keys : List K) → is_known key (put_key key_of order same x keys) ≡ false → (is_eq (order x key) ≡ false) × (is_known key keys ≡ false)
  not_put key x keys none = elim (cases_Bool (list_any (λ other. is_eq (order x other)) keys)) [
    | inl known ↦
        let gone : is_known key keys ≡ false = rw known at none in
        elim (cases_Bool (is_eq (order x key))) [
          | inl e ↦
              let there = any_same (λ other. is_eq (order other key)) (λ other. is_eq (order x other))
              (λ other. ap is_eq (sym (alike_right order total x key other e)) ∙ eq_sym order total other x) keys in
              absurd (true≢false (sym known ∙ sym there ∙ gone))
          | inr e ↦ (e, gone)
        ]
    | inr new ↦
        let placed : list_any (λ other. is_eq (order other key)) (put_key key_of order same x keys) ≡ (is_eq (order x key) || is_known key keys)
        = rw new (any-put (λ other. is_eq (order other key)) (λ a b. is_lt (order a b)) x keys) in
        neither (is_eq (order x key)) (is_known key keys) (sym placed ∙ none)
  ]

  not_offered : (key : K) (offers : List O) (keys : List K) → is_known key (put_keys key_of order same offers keys) ≡ false
      → (offer_of key_of order same key offers ≡ None) × (is_known key keys ≡ false)
  not_offered key [] keys none = (refl, none)
  not_offered key (o ∷ offers) keys none =
      let parts = not_put key (key_of o) (put_keys key_of order same offers keys) none in
      let other = parts.0 in
      let rest = not_offered key offers keys parts.1 in
      (rw other rest.0, rest.1)

  -- ---- the changes

  module _ (before now : List O) where
    abbrev at : K → Change O
    at key = change_at key_of order same before now key

    abbrev is_changed : K → Bool
    is_changed key = differs key_of order same (at key)

    abbrev all_keys : List K
    all_keys = put_keys key_of order same before (put_keys key_of order same now [])

    at_alike : (a b : K) → is_eq (order a b) ≡ true → at a ≡ at b
    at_alike a b e = grind (arith, offer_alike)

    -- what changed is the key of an offer
    known_changed : (key : K) → is_changed key ≡ true → is_known key all_keys ≡ true
    known_changed key e = grind (arith, not_offered)

    module _ (itself : (o : O) → same o o ≡ true) (all : List (Touched O)) (touches : Touches key_of order before now all) where
      -- and was touched
      touched_changed : (key : K) → is_changed key ≡ true → is_known key (keys_of all) ≡ true
      touched_changed key e = grind (arith, any_key, alike)

      passed_in : (keys others : List K) → ((key : K) → is_changed key ≡ true → is_known key others ≡ true)
          → AllByRecursion (λ key. is_known key (filter is_changed others) ≡ true) (filter is_changed keys)
      passed_in keys others there =
          all_then (λ key. Unit {0} × (is_changed key ≡ true)) (λ key. is_known key (filter is_changed others) ≡ true)
          (λ key passed. in-filter order total is_changed (λ a b e. ap (differs key_of order same) (at_alike a b e)) key others passed.1 (there key passed.1))
          (filter is_changed keys) (all_passed (λ key. Unit {0}) is_changed keys (all_of (λ key. Unit {0}) (λ key. tt) keys))

      -- what was recorded is what the keys had before and have now
      since : (ts : List (Touched O)) → AllByRecursion (λ t. t.before ≡ offer_of key_of order same (key_of t.offer) before) ts
          → AllByRecursion (λ t. t.after ≡ offer_of key_of order same (key_of t.offer) now) ts → map change_of ts ≡ map at (keys_of ts)
      since [] recorded current = refl
      since (t ∷ ts) recorded current = grind (arith, since ts recorded.1 current.1)

      -- comparing what was touched gives all that changed
      pub changes_touched : changes_noted key_of order same all ≡ changes key_of order same before now
      changes_touched =
          let rising = rises-ascends all_keys
          (rises-puts key_of order same total before (put_keys key_of order same now []) (rises-puts key_of order same total now [] tt)) in
          ap (filter (differs key_of order same)) (since all touches.recorded touches.current)
          ∙ filter-of_map (differs key_of order same) at (keys_of all)
          ∙ same_members order total at at_alike (filter is_changed (keys_of all)) (filter is_changed all_keys)
          (ascends-filter order total is_changed (keys_of all) (ascends_keys all touches.by_key))
          (ascends-filter order total is_changed all_keys rising)
          (passed_in (keys_of all) all_keys known_changed) (passed_in all_keys (keys_of all) touched_changed)
          ∙ sym (filter-of_map (differs key_of order same) at all_keys)

-- ---- tests of several fields, one after the other

pub one_by_one : (a b c d e : Bool) → (a && (b && (c && (d && e)))) ≡ (a && b && c && d && e)
one_by_one a b c d e = grind arith

pub field_by_field : (k n e f g h p q : Bool) → ((k && (n && ((e && (f && g)) && h))) && (p && q)) ≡ (k && n && (e && f && g) && h && p && q)
field_by_field k n e f g h p q = grind arith
