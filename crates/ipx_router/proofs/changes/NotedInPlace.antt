-- Noting what was touched of a table: nothing at first, one key more in its place, and after an offer of a key that was noted.
use Rattle.std.proofs.lemmas.Grind.{common_steps}
use Rattle.std.proofs.Common.{◌≡◌, refl, sym, ap, ◌∙◌, ℕ, zero, suc, ◌+◌, ◌-◌, ◌<◌, ◌≤◌, Bool, true, false, ◌||◌, List, [], ◌∷◌, length, get_or, insert, arith, true≢false, Ordering, Less, Equal, Greater, is_eq, is_lt, option_map, subst, Result, IfOk, IfErr}
use Rattle.std.specs.List.{AllByRecursion, list_any}
use Rattle.std.specs.List.Sorted.{IsNonDecreasingBy, IsBinarySearchResult, IsSearchInRange}
use Rattle.std.specs.Ordering.{ordering_index, ordering_reverse}
use Rattle.std.specs.Cmp.{IsTotalOrder}
use Rattle.std.proofs.lemmas.List.Sorted.{IsPermutation-insert, list_any-IsPermutation, searchable_from_sorted}
use Rattle.ipx_table.specs.Stands.{Ascends, record_of}
use Rattle.ipx_table.specs.declared.held.Held.{Held}
use Rattle.ipx_table.proofs.Placing.{all-insert}
use Rattle.ipx_router.specs.Facts.{offers}
use Rattle.ipx_router.specs.inside.Touched.{Touches, is_touched, offer_at}
use Rattle.ipx_router.specs.declared.learning.touched.Touched.{Touched}
use Rattle.ipx_router.proofs.changes.DiffersByOneFact.{found}
use Rattle.ipx_router.proofs.lists.EachElement.{all_both, all_then}
use Rattle.ipx_router.proofs.changes.KeysThatDiffer.{is_less, neither}
use Rattle.ipx_router.proofs.lists.KeysInLists.{eq_sym}

any-insert : {X : Type 0} (p : X → Bool) (xs : List X) (at : ℕ) (x : X) → list_any p (insert xs at x) ≡ (p x || list_any p xs)
any-insert p xs at x = sym (list_any-IsPermutation p (x ∷ xs) (insert xs at x) (IsPermutation-insert xs at x))

pub all_at : {X : Type 0} (P : X → Type 0) (xs : List X) (k : ℕ) (d : X) → k < length xs → AllByRecursion P xs → P (get_or xs k d)
all_at P xs k d within all = grind (arith, common_steps)

module _ {O K : Type 0} (key_of : O → K) (order : K → K → Ordering) (total : IsTotalOrder order) where
  abbrev pub by_key : Touched O → Touched O → Ordering
  by_key a b = order (key_of a.offer) (key_of b.offer)

  pub touches_none : (before : List O) → Touches key_of order before before []
  touches_none before = record { by_key = tt; recorded = tt; current = tt; others = λ key none. refl }

  -- ---- the place of a key

  sorted : (all : List (Touched O)) → Ascends by_key all → (k : ℕ) (d : Touched O) → k + 1 < length all
      → is_lt (by_key (get_or all (k + 1) d) (get_or all k d)) ≡ false
  sorted [] up k d within = absurd (omega (arith, within))
  sorted (a ∷ []) up k d within = absurd (omega (arith, within))
  sorted (a ∷ b ∷ all) up zero d within = ap is_lt (total.antisymm (key_of b.offer) (key_of a.offer)) ∙ backwards (by_key a b) up.0.0
    where
      backwards : (r : Ordering) → is_lt r ≡ true → is_lt (ordering_reverse r) ≡ false
      backwards Less e = refl
      backwards Equal e = refl
      backwards Greater e = absurd (true≢false (sym e))
  sorted (a ∷ b ∷ all) up (suc k) d within =
      let next : suc k + 1 ≡ suc (k + 1) = omega arith in
      rw next (sorted (b ∷ all) up.1 k d (omega (arith, within)))

  -- a binary search may look for a key
  pub searchable : (all : List (Touched O)) → Ascends by_key all → (key : K) → IsNonDecreasingBy (λ t. ordering_index (order (key_of t.offer) key)) all
  searchable all up key = searchable_from_sorted total (λ (t : Touched O). key_of t.offer) all key (λ k d least within. sorted all up k d within)

  all_greater : (t : Touched O) (all : List (Touched O)) → ((j : ℕ) → j < length all → by_key (get_or all j t) t ≡ Greater)
      → AllByRecursion (λ u. by_key u t ≡ Greater) all
  all_greater t [] each = tt
  all_greater t (u ∷ all) each = (each 0 (omega arith), all_greater t all (λ j within. each (suc j) (omega (arith, within))))

  greater_apart : (t : Touched O) (all : List (Touched O)) → AllByRecursion (λ u. by_key u t ≡ Greater) all
      → is_touched key_of order (key_of t.offer) all ≡ false
  greater_apart t [] each = refl
  greater_apart t (u ∷ all) each = let e = each.0 in rw e (greater_apart t all each.1)

  -- between the smaller and the greater keys is the place of one that isn't there
  pub gap : (t : Touched O) (all : List (Touched O)) (at : ℕ) → at ≤ length all → Ascends by_key all
      → ((j : ℕ) → j < at → by_key (get_or all j t) t ≡ Less) → ((j : ℕ) → at ≤ j → j < length all → by_key (get_or all j t) t ≡ Greater)
      → Ascends by_key (insert all at t) × (is_touched key_of order (key_of t.offer) all ≡ false)
  gap t all zero within up less greater =
      let each = all_greater t all (λ j below. greater j (omega arith) below) in (
        (
          all_then (λ u. by_key u t ≡ Greater) (λ u. is_lt (by_key t u) ≡ true)
              (λ u e. ap is_lt (total.antisymm (key_of t.offer) (key_of u.offer) ∙ ap ordering_reverse e)) all each,
          up,
        ),
        greater_apart t all each,
      )
  gap t [] (suc at) within up less greater = absurd (omega (arith, within))
  gap t (u ∷ all) (suc at) within up less greater =
      let below = less 0 (omega arith) in
      let rest = gap t all at (omega (arith, within)) up.1 (λ j before. less (suc j) (omega (arith, before)))
      (λ j from inside. greater (suc j) (omega (arith, from)) (omega (arith, inside))) in
      ((all-insert (λ x. is_lt (by_key u x) ≡ true) all at t up.0 (ap is_lt below), rest.0), rw below rest.1)

  -- what a binary search says of a key
  pub held_key : (key : K) (all : List (Touched O)) (r : Result ℕ ℕ) → IsSearchInRange r (length all)
      → IsBinarySearchResult (λ t. order (key_of t.offer) key) all r
      → IfOk r (λ place. (place < length all) × ((d : Touched O) → order (key_of (get_or all place d).offer) key ≡ Equal))
  held_key key all r within equal = grind arith

  gap_of : (t : Touched O) (all : List (Touched O)) → Ascends by_key all → (r : Result ℕ ℕ) → IsSearchInRange r (length all)
      → IsBinarySearchResult (λ u. order (key_of u.offer) (key_of t.offer)) all r
      → IfErr r (λ place. Ascends by_key (insert all place t) × (is_touched key_of order (key_of t.offer) all ≡ false))
  gap_of t all up r within equal = grind (arith, searchable, gap)

  pub gap_found : (key : K) (t : Touched O) → key_of t.offer ≡ key → (all : List (Touched O)) → Ascends by_key all → (r : Result ℕ ℕ) → IsSearchInRange r (length all)
      → IsBinarySearchResult (λ u. order (key_of u.offer) key) all r
      → IfErr r (λ place. Ascends by_key (insert all place t) × (is_touched key_of order key all ≡ false))
  gap_found key t is all up r within =
      subst (λ (k : K). IsBinarySearchResult (λ u. order (key_of u.offer) k) all r → IfErr r (λ place. Ascends by_key (insert all place t) × (is_touched key_of order k all ≡ false)))
      is (gap_of t all up r within)

  -- a key that is greater than the last one is greater than all
  below_last : (t : Touched O) (all : List (Touched O)) (k : ℕ) → k + 1 ≡ length all → Ascends by_key all → by_key (get_or all k t) t ≡ Less
      → (j : ℕ) → j < length all → by_key (get_or all j t) t ≡ Less
  below_last t [] k e up last j within = absurd (omega (arith, within))
  below_last t (a ∷ all) zero e up last zero within = last
  below_last t (a ∷ all) zero e up last (suc j) within = absurd (omega (arith, e, within))
  below_last t (a ∷ all) (suc k) e up last zero within = grind (arith, is_less, all_at, is_lt)
  below_last t (a ∷ all) (suc k) e up last (suc j) within = below_last t all k (omega (arith, e)) up.1 last j (omega (arith, within))

  pub gap_behind : (t : Touched O) (key : K) → key_of t.offer ≡ key → (all : List (Touched O)) (at : ℕ) → at ≡ length all → Ascends by_key all
      → (0 < length all → is_lt (order (key_of (get_or all (length all - 1) t).offer) key) ≡ true)
      → Ascends by_key (insert all at t) × (is_touched key_of order key all ≡ false)
  gap_behind t key is all at end up less =
      subst (λ (k : K). Ascends by_key (insert all at t) × (is_touched key_of order k all ≡ false)) is
      (gap t all at (omega (arith, end)) up
      (λ j before.
      let inside : j < length all = omega (arith, end, before) in
      let some : 0 < length all = omega (arith, inside) in
      let last : is_lt (by_key (get_or all (length all - 1) t) t) ≡ true =
      subst (λ (k : K). is_lt (order (key_of (get_or all (length all - 1) t).offer) k) ≡ true) (sym is) (less some) in
      below_last t all (length all - 1) (omega (arith, some)) up (is_less (by_key (get_or all (length all - 1) t) t) last) j inside)
      (λ j from inside. absurd (omega (arith, end, from, inside))))

  -- ---- an offer

  -- where the records of other keys stay, their offers stay
  pub offers_stay : (old new : List (Held O)) (key : K) → record_of key_of order key new ≡ record_of key_of order key old
      → offer_at key_of order key (offers new) ≡ offer_at key_of order key (offers old)
  offers_stay old new key stays = grind (arith, found, is_eq, option_map)

  -- equal keys have the same offer
  pub offer_alike : (a b : K) → is_eq (order a b) ≡ true → (some : List O) → offer_at key_of order a some ≡ offer_at key_of order b some
  offer_alike a b e some = grind arith

  -- only a key and its equals have another offer
  abbrev pub OthersStay : K → List O → List O → Type 0
  OthersStay changed now new = (key : K) → is_eq (order changed key) ≡ false → offer_at key_of order key new ≡ offer_at key_of order key now

  -- where its key has what it had, every key has
  pub all_stay : (changed : K) (now new : List O) → OthersStay changed now new → offer_at key_of order changed now ≡ offer_at key_of order changed new
      → (key : K) → offer_at key_of order key new ≡ offer_at key_of order key now
  all_stay changed now new stay same key = grind arith

  pub touches_same : (before now new : List O) (all : List (Touched O)) → ((key : K) → offer_at key_of order key new ≡ offer_at key_of order key now)
      → Touches key_of order before now all → Touches key_of order before new all
  touches_same before now new all stay old = grind (arith, all_then)

  -- ---- one key more

  -- a key that is none of those isn't equal to one of them
  apart_each : (key : K) (all : List (Touched O)) → is_touched key_of order key all ≡ false → AllByRecursion (λ u. is_eq (order key (key_of u.offer)) ≡ false) all
  apart_each key [] none = tt
  apart_each key (u ∷ all) none =
      let parts = neither (is_eq (order (key_of u.offer) key)) (is_touched key_of order key all) none in
      (eq_sym order total key (key_of u.offer) ∙ parts.0, apart_each key all parts.1)

  pub touches_new : (before now new : List O) (all : List (Touched O)) (at : ℕ) (t : Touched O) → Touches key_of order before now all
      → t.before ≡ offer_at key_of order (key_of t.offer) now → t.after ≡ offer_at key_of order (key_of t.offer) new
      → OthersStay (key_of t.offer) now new → Ascends by_key (insert all at t)
      → is_touched key_of order (key_of t.offer) all ≡ false → Touches key_of order before new (insert all at t)
  touches_new before now new all at t old was is stay up none = record {
    by_key = up;
    recorded = all-insert (λ u. u.before ≡ offer_at key_of order (key_of u.offer) before) all at t old.recorded
        (was ∙ old.others (key_of t.offer) none);
    current = all-insert (λ u. u.after ≡ offer_at key_of order (key_of u.offer) new) all at t
        (all_then (λ u. (u.after ≡ offer_at key_of order (key_of u.offer) now) × (is_eq (order (key_of t.offer) (key_of u.offer)) ≡ false))
        (λ u. u.after ≡ offer_at key_of order (key_of u.offer) new) (λ u both. both.0 ∙ sym (stay (key_of u.offer) both.1)) all
        (all_both (λ u. u.after ≡ offer_at key_of order (key_of u.offer) now) (λ u. is_eq (order (key_of t.offer) (key_of u.offer)) ≡ false) all
        old.current (apart_each (key_of t.offer) all none))) is;
    others = λ key free.
        let parts = neither (is_eq (order (key_of t.offer) key)) (is_touched key_of order key all)
        (sym (any-insert (λ u. is_eq (order (key_of u.offer) key)) all at t) ∙ free) in
        stay key parts.0 ∙ old.others key parts.1;
  }
