-- What offers cost a table: what is told of each key that has another offer than before, and a record more where they bring one; and
-- they bring as much.
use Rattle.std.proofs.Common.{◌≡◌, refl, sym, ap, ◌∙◌, ℕ, ◌+◌, ◌≤◌, not, if◌then◌else◌, Bool, true, false, List, [], ◌∷◌, ◌++◌, map, filter, length, Option, None, Some, inl, inr, arith, Ordering, is_eq, is_lt, append_assoc, append-nil}
use Rattle.std.specs.List.{AllByRecursion, sum_by}
use Rattle.std.specs.Cmp.{IsTotalOrder}
use Rattle.std.proofs.lemmas.Bool.{cases_Bool, both_ways}
use Rattle.std.proofs.lemmas.List.Sums.{sum_by-cons}
use Rattle.ipx_table.specs.Facts.{Fact, Offered, Second, PortEnd, End}
use Rattle.ipx_table.specs.Reading.{Reading, Rules, rules_of}
use Rattle.ipx_table.specs.Stands.{held}
use Rattle.ipx_table.specs.declared.held.Held.{Held}
use Rattle.ipx_router.specs.Changes.{Change, same_or_none, put_keys, change_at, differs, changes}
use Rattle.ipx_router.specs.Facts.{offers}
use Rattle.ipx_router.specs.inside.Touched.{offer_at}
use Rattle.ipx_router.proofs.changes.KeysThatDiffer.{Rises, rises-puts, is_less, is_equal}
use Rattle.ipx_internet.proofs.lists.EachElement.{all_then}
use Rattle.ipx_internet.proofs.records.KeptOrOffered.{OffersOf, Left, several}
use Rattle.ipx_internet.proofs.records.RecordsGained.{few_more, same_or_fewer}

-- what is told of a key, by the offer that it has now
abbrev pub telling : {O : Type 0} → (O → ℕ) → Option O → ℕ
telling told (Some o) = told o
telling told None = 1

-- the first of those that pass counts if it passes
pub sum_filtered : {X : Type 0} (p : X → Bool) (w : X → ℕ) (x : X) (xs : List X) → sum_by w (filter p (x ∷ xs)) ≡ (if p x then w x else 0) + sum_by w (filter p xs)
sum_filtered {X} p w x xs = by (p x)
  where
    by : (b : Bool) → sum_by w (if b then x ∷ filter p xs else filter p xs) ≡ (if b then w x else 0) + sum_by w (filter p xs)
    by true = sum_by-cons w x (filter p xs)
    by false = omega arith

module _ {O K : Type 0} (reading : Reading O K) (order : K → K → Ordering) (same : O → O → Bool) (total : IsTotalOrder order) where
  -- ---- sums over keys, of which one at most is the key of an offer

  module _ (key : K) (f g : K → ℕ) (more : ℕ) (apart : (k : K) → is_eq (order key k) ≡ false → f k ≤ g k) (any : (k : K) → f k ≤ g k + more) where
    none_more : (keys : List K) → AllByRecursion (λ k. is_eq (order key k) ≡ false) keys → sum_by f keys ≤ sum_by g keys
    none_more [] all = omega arith
    none_more (k ∷ keys) all = omega (arith, none_more keys all.1, sum_by-cons)

    behind : (first x : K) → is_eq (order key first) ≡ true → is_lt (order first x) ≡ true → is_eq (order key x) ≡ false
    behind first x equal l = ap is_eq (total.congr key first x (is_equal (order key first) equal) ∙ is_less (order first x) l)

    once_more : (keys : List K) → Rises reading.key order same total keys → sum_by f keys ≤ sum_by g keys + more
    once_more [] up = omega arith
    once_more (k ∷ keys) up =
        let sum = sum_by-cons f k keys in
        let other = sum_by-cons g k keys in
        elim (cases_Bool (is_eq (order key k))) [
          | inl equal ↦
              let one = any k in
              let rest = none_more keys
              (all_then (λ x. is_lt (order k x) ≡ true) (λ x. is_eq (order key x) ≡ false) (λ x l. behind k x equal l) keys up.0) in
              omega (arith, one, rest, sum, other)
          | inr off ↦
              let one = apart k off in
              let rest = once_more keys up.1 in
              omega (arith, one, rest, sum, other)
        ]

  module _ (itself : (o : O) → same o o ≡ true) (capacity : ℕ) (shares : List ℕ) (told : O → ℕ) (some : (o : O) → 1 ≤ told o) where
    abbrev rules : Rules O
    rules = rules_of reading order capacity shares

    abbrev at : K → List O → Option O
    at key os = offer_at reading.key order key os

    abbrev now : List (Fact O) → List O
    now facts = offers (held rules facts)

    -- a key that has what it had costs nothing
    abbrev cost_of : Option O → Option O → ℕ
    cost_of before after = if same_or_none reading.key order same before after then 0 else telling told after

    -- an offer that isn't down may bring a record, and be told of
    abbrev pub brings : Fact O → ℕ
    brings (Offered o) = if reading.is_down o then 0 else 1 + told o
    brings Second = 0
    brings (PortEnd port) = 0
    brings End = 0

    costs_few : (before after : Option O) → cost_of before after ≤ telling told after
    costs_few before after = grind arith

    module _ (base : List O) (keys : List K) (rises : Rises reading.key order same total keys) where
      abbrev cost : List O → ℕ
      cost os = sum_by (λ key. cost_of (at key base) (at key os)) keys

      -- ---- one offer

      module _ (facts : List (Fact O)) (offer : O) where
        abbrev next : List (Fact O)
        next = facts ++ Offered offer ∷ []

        abbrev Is : O → Type 0
        Is o = o ≡ offer

        -- at each key
        at_key : (more : ℕ) → 1 ≤ more → (reading.is_down offer ≡ false → told offer ≤ more) → (key : K)
            → cost_of (at key base) (at key (now next)) ≤ cost_of (at key base) (at key (now facts)) + more
        at_key more one enough key = by (several reading order total capacity shares Is (Offered offer ∷ []) facts (refl, tt) key)
          where
            by : Left reading order Is key (at key (now facts)) (at key (now next))
                → cost_of (at key base) (at key (now next)) ≤ cost_of (at key base) (at key (now facts)) + more
            by (inl stays) = let e = ap (λ o. cost_of (at key base) o) stays in omega (arith, e)
            by (inr ends) =
                let few = costs_few (at key base) (at key (now next)) in
                elim ends.left [
                  | inl none ↦ let e = ap (telling told) none in omega (arith, few, e, one)
                  | inr (is, up) ↦
                      let e = ap (telling told) is in
                      let same_offer = ap told ends.such in
                      let whole = enough (ap reading.is_down (sym ends.such) ∙ up) in
                      omega (arith, few, e, same_offer, whole)
                ]

        elsewhere : (key : K) → is_eq (order (reading.key offer) key) ≡ false
            → cost_of (at key base) (at key (now next)) ≤ cost_of (at key base) (at key (now facts))
        elsewhere key apart = by (several reading order total capacity shares Is (Offered offer ∷ []) facts (refl, tt) key)
          where
            by : Left reading order Is key (at key (now facts)) (at key (now next))
                → cost_of (at key base) (at key (now next)) ≤ cost_of (at key base) (at key (now facts))
            by (inl stays) = let e = ap (λ o. cost_of (at key base) o) stays in omega (arith, e)
            by (inr ends) = absurd (both_ways (is_eq (order (reading.key offer) key)) apart (ap (λ o. is_eq (order (reading.key o) key)) (sym ends.such) ∙ ends.of_key))

        costs : (more : ℕ) → 1 ≤ more → (reading.is_down offer ≡ false → told offer ≤ more) → cost (now next) ≤ cost (now facts) + more
        costs more one enough =
            once_more (reading.key offer) (λ key. cost_of (at key base) (at key (now next))) (λ key. cost_of (at key base) (at key (now facts))) more elsewhere
            (at_key more one enough) keys rises

        one_offer : cost (now next) + length (held rules next) ≤ cost (now facts) + length (held rules facts) + brings (Offered offer)
        one_offer = elim (cases_Bool (reading.is_down offer)) [
          | inr up ↦
              let more = costs (told offer) (some offer) (λ e. omega arith) in
              let record_more = few_more reading order total capacity shares facts (offer ∷ []) in
              let whole : brings (Offered offer) ≡ 1 + told offer = rw up refl in
              omega (arith, more, record_more, whole)
          | inl down ↦ elim (same_or_fewer reading order total capacity shares (Offered offer ∷ []) facts (down, tt)) [
            | inl stays ↦
                let costs_same = ap (λ (hs : List (Held O)). cost (offers hs)) stays in
                let as_many = ap length stays in
                omega (arith, costs_same, as_many)
            | inr fewer ↦
                let more = costs 1 (omega arith) (λ up. absurd (both_ways (reading.is_down offer) up down)) in
                omega (arith, more, fewer)
          ]
        ]

      -- ---- several, one after the other

      all_offers : (new facts : List (Fact O)) → AllByRecursion (OffersOf (λ o. Unit {0})) new
          → cost (now (facts ++ new)) + length (held rules (facts ++ new)) ≤ cost (now facts) + length (held rules facts) + sum_by brings new
      all_offers [] facts all =
          let same_cost = ap (λ fs. cost (now fs)) (append-nil facts) in
          let as_many = ap (λ fs. length (held rules fs)) (append-nil facts) in
          omega (arith, same_cost, as_many)
      all_offers (Offered offer ∷ new) facts all =
          let next = facts ++ Offered offer ∷ [] in
          let one = one_offer facts offer in
          let rest = all_offers new next all.1 in
          let same_cost = ap (λ fs. cost (now fs)) (append_assoc facts (Offered offer ∷ []) new) in
          let as_many = ap (λ fs. length (held rules fs)) (append_assoc facts (Offered offer ∷ []) new) in
          let sum = sum_by-cons brings (Offered offer) new in
          omega (arith, one, rest, same_cost, as_many, sum)
      all_offers (Second ∷ new) facts all = absurd all.0
      all_offers (PortEnd port ∷ new) facts all = absurd all.0
      all_offers (End ∷ new) facts all = absurd all.0

      -- what stays costs nothing
      nothing_costs : (ks : List K) → sum_by (λ key. cost_of (at key base) (at key base)) ks ≡ 0
      nothing_costs [] = omega arith
      nothing_costs (k ∷ ks) = grind (arith, nothing_costs ks)

    -- ---- what changed

    counted : (before after : List O) (keys : List K)
        → sum_by (λ c. telling told c.after) (filter (differs reading.key order same) (map (change_at reading.key order same before after) keys))
        ≤ sum_by (λ key. cost_of (at key before) (at key after)) keys
    counted before after [] = omega arith
    counted before after (key ∷ keys) =
        let rest = counted before after keys in
        let c : Change O = change_at reading.key order same before after key in
        let sum = sum_by-cons (λ key. cost_of (at key before) (at key after)) key keys in
        let first = sum_filtered (differs reading.key order same) (λ (c : Change O). telling told c.after) c (map (change_at reading.key order same before after) keys) in
        let one = either_way (same_or_none reading.key order same (at key before) (at key after)) (telling told (at key after)) in
        omega (arith, rest, sum, first, one)
      where
        either_way : (b : Bool) (n : ℕ) → (if not b then n else 0) ≡ (if b then 0 else n)
        either_way true n = refl
        either_way false n = refl

    pub changes_cost : (new facts : List (Fact O)) → AllByRecursion (OffersOf (λ o. Unit {0})) new
        → sum_by (λ c. telling told c.after) (changes reading.key order same (now facts) (now (facts ++ new))) + length (held rules (facts ++ new))
        ≤ length (held rules facts) + sum_by brings new
    changes_cost new facts all =
        let keys = put_keys reading.key order same (now facts) (put_keys reading.key order same (now (facts ++ new)) []) in
        let rises = rises-puts reading.key order same total (now facts) (put_keys reading.key order same (now (facts ++ new)) [])
        (rises-puts reading.key order same total (now (facts ++ new)) [] tt) in
        let those = counted (now facts) (now (facts ++ new)) keys in
        let whole = all_offers (now facts) keys rises new facts all in
        let nothing = nothing_costs (now facts) keys rises keys in
        omega (arith, those, whole, nothing)
