-- A key that was touched before, touched again: what it has now is written in its place.
use Rattle.std.proofs.Common.{◌≡◌, refl, sym, ap, ◌∙◌, ℕ, zero, suc, ◌<◌, Bool, true, false, ◌||◌, List, [], ◌∷◌, length, get_or, set, Option, inl, inr, arith, true≢false, Ordering, Equal, is_eq, is_lt}
use Rattle.std.specs.List.{AllByRecursion, list_any}
use Rattle.std.specs.Cmp.{IsTotalOrder}
use Rattle.std.specs.Ordering.{ordering_reverse}
use Rattle.std.proofs.lemmas.Bool.{cases_Bool}
use Rattle.std.proofs.lemmas.List.Folds.{list_any_at}
use Rattle.ipx_table.specs.Stands.{Ascends}
use Rattle.ipx_table.proofs.Placing.{all-set}
use Rattle.ipx_router.specs.inside.Touched.{Touches, is_touched, offer_at}
use Rattle.ipx_router.specs.declared.learning.touched.Touched.{Touched}
use Rattle.ipx_router.proofs.lists.EachElement.{all_both, all_then}
use Rattle.ipx_router.proofs.changes.NotedInPlace.{OthersStay, all_at, by_key, offer_alike}

any-set : {X : Type 0} (p : X → Bool) (xs : List X) (k : ℕ) (x d : X) → p x ≡ p (get_or xs k d) → list_any p (set xs k x) ≡ list_any p xs
any-set p [] k x d e = refl
any-set p (y ∷ xs) zero x d e = ap (λ b. b || list_any p xs) e
any-set p (y ∷ xs) (suc k) x d e = ap (λ b. p y || b) (any-set p xs k x d e)

module _ {O K : Type 0} (key_of : O → K) (order : K → K → Ordering) (total : IsTotalOrder order) where
  -- with what its key has now
  abbrev pub renewed : Option O → Touched O → Touched O
  renewed after t = record { offer = t.offer; before = t.before; after = after }

  ascends-set : (all : List (Touched O)) (place : ℕ) (d : Touched O) (after : Option O) → place < length all → Ascends (by_key key_of order total) all
      → Ascends (by_key key_of order total) (set all place (renewed after (get_or all place d)))
  ascends-set [] place d after within up = tt
  ascends-set (t ∷ all) zero d after within up = up
  ascends-set (t ∷ all) (suc place) d after within up =
      let inside : place < length all = omega (arith, within) in (
        all-set (λ u. is_lt (order (key_of t.offer) (key_of u.offer)) ≡ true) all place (renewed after (get_or all place d)) up.0
            (all_at (λ u. is_lt (order (key_of t.offer) (key_of u.offer)) ≡ true) all place d inside up.0),
        ascends-set all place d after inside up.1,
      )

  less_apart : (r : Ordering) → is_lt r ≡ true → is_eq r ≡ false
  less_apart r e = grind arith

  reversed_apart : (r : Ordering) → is_lt r ≡ true → is_eq (ordering_reverse r) ≡ false
  reversed_apart r e = grind arith

  -- keys behind one that equals a key are other keys, and so are those before it
  behind : (a key b : K) → order a key ≡ Equal → is_lt (order a b) ≡ true → is_eq (order key b) ≡ false
  behind a key b same less = ap is_eq (sym (total.congr a key b same)) ∙ less_apart (order a b) less

  ahead : (a key b : K) → order a key ≡ Equal → is_lt (order b a) ≡ true → is_eq (order key b) ≡ false
  ahead a key b same less = ap is_eq (sym (total.congr a key b same) ∙ total.antisymm a b) ∙ reversed_apart (order b a) less

  module _ (key : K) (now new : List O) (stay : OthersStay key_of order total key now new) (after : Option O) (is : after ≡ offer_at key_of order key new) where
    abbrev HasNow : Touched O → Type 0
    HasNow u = u.after ≡ offer_at key_of order (key_of u.offer) now

    abbrev HasNew : Touched O → Type 0
    HasNew u = u.after ≡ offer_at key_of order (key_of u.offer) new

    current-set : (all : List (Touched O)) (place : ℕ) (d : Touched O) → place < length all → Ascends (by_key key_of order total) all
        → order (key_of (get_or all place d).offer) key ≡ Equal → AllByRecursion HasNow all → AllByRecursion HasNew (set all place (renewed after (get_or all place d)))
    current-set [] place d within up same has = tt
    current-set (t ∷ all) zero d within up same has = (
      is ∙ sym (offer_alike key_of order total (key_of t.offer) key (ap is_eq same) new),
      all_then (λ u. HasNow u × (is_lt (order (key_of t.offer) (key_of u.offer)) ≡ true)) HasNew
          (λ u both. both.0 ∙ sym (stay (key_of u.offer) (behind (key_of t.offer) key (key_of u.offer) same both.1))) all
          (all_both HasNow (λ u. is_lt (order (key_of t.offer) (key_of u.offer)) ≡ true) all has.1 up.0),
    )
    current-set (t ∷ all) (suc place) d within up same has =
        let inside : place < length all = omega (arith, within) in
        let found = get_or all place d in (
          has.0 ∙ sym (stay (key_of t.offer) (ahead (key_of found.offer) key (key_of t.offer) same
              (all_at (λ u. is_lt (order (key_of t.offer) (key_of u.offer)) ≡ true) all place d inside up.0))),
          current-set all place d inside up.1 same has.1,
        )

  pub touches_again : (before now new : List O) (all : List (Touched O)) (place : ℕ) (d : Touched O) (key : K) (after : Option O)
      → Touches key_of order before now all → place < length all → order (key_of (get_or all place d).offer) key ≡ Equal
      → after ≡ offer_at key_of order key new → OthersStay key_of order total key now new
      → Touches key_of order before new (set all place (renewed after (get_or all place d)))
  touches_again before now new all place d key after old within same is stay = record {
    by_key = ascends-set all place d after within old.by_key;
    recorded = all-set (λ u. u.before ≡ offer_at key_of order (key_of u.offer) before) all place (renewed after (get_or all place d)) old.recorded
        (all_at (λ u. u.before ≡ offer_at key_of order (key_of u.offer) before) all place d within old.recorded);
    current = current-set key now new stay after is all place d within old.by_key same old.current;
    others = λ other none.
        let free : is_touched key_of order other all ≡ false = sym (any-set (λ u. is_eq (order (key_of u.offer) other)) all place (renewed after (get_or all place d)) d refl) ∙ none in
        elim (cases_Bool (is_eq (order key other))) [
          | inl e ↦
              let there : is_eq (order (key_of (get_or all place d).offer) other) ≡ true =
              ap is_eq (total.congr (key_of (get_or all place d).offer) key other same) ∙ e in
              absurd (true≢false (sym (list_any_at (λ u. is_eq (order (key_of u.offer) other)) all place d within there) ∙ free))
          | inr apart ↦ stay other apart ∙ old.others other free
        ];
  }
