-- What one fact more leaves of the record of a key: an offer of it renews it, takes its place, ends it or leaves it; a second makes it older
-- or ends it.
use Rattle.std.proofs.lemmas.Grind.{common_steps}
use Rattle.std.proofs.Common.{◌≡◌, refl, sym, ap, ◌∙◌, subst, ◌⊎◌, ℕ, suc, ◌≤◌, ◌&&◌, ◌||◌, nat_lt, Bool, true, false, not, List, [], ◌∷◌, ◌++◌, filter, find, length, drop, take, Option, None, Some, inl, inr, arith, true≢false, append-nil, Ordering, Less, Equal, Greater, is_eq, is_lt}
use Rattle.std.specs.Ordering.{ordering_reverse}
use Rattle.std.specs.Cmp.{IsTotalOrder}
use Rattle.std.proofs.lemmas.Bool.{cases_Bool}
use Rattle.std.proofs.lemmas.List.Folds.{find-append}
use Rattle.ipx_table.specs.Accepted.{is_accepted, has_share, may_replace}
use Rattle.ipx_table.specs.inside.AfterOffer.{fresh, after_offer}
use Rattle.ipx_table.specs.Facts.{Offered}
use Rattle.ipx_table.specs.Reading.{Rules}
use Rattle.ipx_table.specs.Stands.{IsDistinct, older, is_last, second_later}
use Rattle.ipx_table.specs.Taken.{known_of}
use Rattle.ipx_table.specs.declared.held.Held.{Held}
use Rattle.ipx_table.proofs.Offers.{of_key, apart_from, HeldAt, held_at, held-accepted, held-uncut, not_held-accepted, not_held-left, unchanged}
use Rattle.ipx_table.proofs.Refused.{found_place, found_none}
use Rattle.ipx_table.proofs.Singles.{none-find, all-append}

module _ {O : Type 0} (rules : Rules O) (total : IsTotalOrder rules.by_key) (held : List (Held O)) (offer : O) (distinct : IsDistinct rules.by_key held) where
  -- the record of the offer's key afterwards
  abbrev pub then_known : Option (Held O)
  then_known = known_of rules (after_offer rules held offer) offer

  itself : of_key rules total offer (fresh offer) ≡ true
  itself = equal (rules.by_key offer offer) (total.antisymm offer offer)
    where
      equal : (r : Ordering) → r ≡ ordering_reverse r → is_eq r ≡ true
      equal Less e = sym (ap is_lt e)
      equal Equal e = refl
      equal Greater e = ap is_lt e

  taken_in : is_accepted rules held (Offered offer) ≡ true → then_known ≡ Some (fresh offer)
  taken_in yea = grind (arith, itself, none-find, of_key, apart_from, find-append)

  gone : (place : ℕ) (it : Held O) → HeldAt rules total held place it offer → is_accepted rules held (Offered offer) ≡ false
      → rules.same_source it.offer offer ≡ true → then_known ≡ None
  gone place it at nay own =
      let rest = held-uncut rules total false held place it offer at in
      let both = all-append (λ x. of_key rules total offer x ≡ false) (take place held) (drop (suc place) held) at.alone.none_before at.alone.none_behind in
      rw (nay, rest, own) (ap (find (of_key rules total offer)) (append-nil (take place held ++ drop (suc place) held))
      ∙ none-find (of_key rules total offer) (take place held ++ drop (suc place) held) both)

  -- ---- there was none

  module _ (none : known_of rules held offer ≡ None) where
    pub admitted : rules.is_down offer ≡ false → (nat_lt (length held) rules.capacity && has_share rules offer held) ≡ true → then_known ≡ Some (fresh offer)
    admitted up room = taken_in (not_held-accepted rules total held offer (found_none (of_key rules total offer) held none) ∙ rw (up, room) refl)

    -- there is none, or this one
    none_or_new : (then_known ≡ None) ⊎ ((then_known ≡ Some (fresh offer)) × (rules.is_down offer ≡ false))
    none_or_new = elim (cases_Bool (rules.is_down offer)) [
      | inl down ↦ inl (stays (rw down refl))
      | inr up ↦ elim (cases_Bool (nat_lt (length held) rules.capacity && has_share rules offer held)) [
        | inl room ↦ inr (admitted up room, up)
        | inr full ↦ inl (stays (rw (up, full) refl))
      ]
    ]
      where
        stays : (not (rules.is_down offer) && (nat_lt (length held) rules.capacity && has_share rules offer held)) ≡ false → then_known ≡ None
        stays nay = ap (λ hs. known_of rules hs offer) (sym (not_held-left rules total held offer (found_none (of_key rules total offer) held none) nay)) ∙ none

  -- ---- there was one

  module _ (it : Held O) (some : known_of rules held offer ≡ Some it) where
    abbrev at_place : (k : ℕ) × HeldAt rules total held k it offer
    at_place =
        let found = found_place (of_key rules total offer) held it some in
        (found.0, held_at rules total held found.0 it offer found.1 found.2 distinct)

    judged : is_accepted rules held (Offered offer)
        ≡ (not (rules.is_down offer) && (rules.same_source it.offer offer || not
        (rules.same_source it.offer offer) && rules.is_worse it.offer offer && may_replace rules offer held it))
    judged = held-accepted rules total held at_place.0 it offer at_place.1

    -- the same source renews it
    pub renewed : rules.is_down offer ≡ false → rules.same_source it.offer offer ≡ true → then_known ≡ Some (fresh offer)
    renewed up own = taken_in (judged ∙ rw (up, own) refl)

    -- a better one takes its place
    pub replaced : rules.is_down offer ≡ false → rules.same_source it.offer offer ≡ false → rules.is_worse it.offer offer ≡ true
        → may_replace rules offer held it ≡ true → then_known ≡ Some (fresh offer)
    replaced up other worse may = taken_in (judged ∙ rw (up, other, worse, may) refl)

    stays : is_accepted rules held (Offered offer) ≡ false → rules.same_source it.offer offer ≡ false → then_known ≡ Some it
    stays nay other = ap (λ hs. known_of rules hs offer) (unchanged rules total held at_place.0 it offer at_place.1 nay other) ∙ some

    -- another source doesn't end it, nor does one that isn't better
    pub not_ended : rules.is_down offer ≡ true → rules.same_source it.offer offer ≡ false → then_known ≡ Some it
    not_ended down other = stays (judged ∙ rw down refl) other

    pub not_replaced : rules.is_down offer ≡ false → rules.same_source it.offer offer ≡ false → rules.is_worse it.offer offer ≡ false → then_known ≡ Some it
    not_replaced up other better = stays (judged ∙ rw (up, other, better) refl) other

    -- there is that one, none, or this one
    one_of_three : (then_known ≡ Some it) ⊎ ((then_known ≡ None) ⊎ ((then_known ≡ Some (fresh offer)) × (rules.is_down offer ≡ false)))
    one_of_three = elim (cases_Bool (rules.same_source it.offer offer)) [
      | inl own ↦ elim (cases_Bool (rules.is_down offer)) [
        | inl down ↦ inr (inl (gone at_place.0 it at_place.1 (judged ∙ rw down refl) own))
        | inr up ↦ inr (inr (renewed up own, up))
      ]
      | inr other ↦ elim (cases_Bool (rules.is_down offer)) [
        | inl down ↦ inl (not_ended down other)
        | inr up ↦ elim (cases_Bool (rules.is_worse it.offer offer)) [
          | inr better ↦ inl (not_replaced up other better)
          | inl worse ↦ elim (cases_Bool (may_replace rules offer held it)) [
            | inl may ↦ inr (inr (replaced up other worse may, up))
            | inr may ↦ inl (stays (judged ∙ rw (up, other, worse, may) refl) other)
          ]
        ]
      ]
    ]

  -- whatever there was: that, none, or this one
  pub left_with : (then_known ≡ known_of rules held offer) ⊎ ((then_known ≡ None) ⊎ ((then_known ≡ Some (fresh offer)) × (rules.is_down offer ≡ false)))
  left_with = by (known_of rules held offer) refl
    where
      by : (o : Option (Held O)) → known_of rules held offer ≡ o
          → (then_known ≡ known_of rules held offer) ⊎ ((then_known ≡ None) ⊎ ((then_known ≡ Some (fresh offer)) × (rules.is_down offer ≡ false)))
      by None none = elim (none_or_new none) [
        | inl nothing ↦ inl (nothing ∙ sym none)
        | inr new ↦ inr (inr new)
      ]
      by (Some it) some = elim (one_of_three it some) [
        | inl same ↦ inl (same ∙ sym some)
        | inr now ↦ inr now
      ]

-- ---- a second

module _ {O : Type 0} (test : O → Bool) where
  abbrev of_test : Held O → Bool
  of_test h = test h.offer

  no_length : {X : Type 0} (xs : List X) → length xs ≤ 0 → xs ≡ []
  no_length xs few = grind (arith, common_steps)

  none_older : (xs : List (Held O)) → filter of_test xs ≡ [] → find of_test (second_later xs) ≡ None
  none_older [] none = refl
  none_older (x ∷ xs) none = elim (cases_Bool (of_test x)) [
    | inl e ↦ absurd (true≢false (ap (λ (hs : List (Held O)). elim hs [ [] ↦ false | ◌∷◌ h rest ↦ true ]) (rw e at none)))
    | inr e ↦
        let rest = none_older xs (rw e at none) in
        elim (cases_Bool (is_last x)) [
          | inl last ↦ rw last rest
          | inr kept ↦ rw (kept, e) rest
        ]
  ]

  -- what is found then was found before, a second younger
  pub found_older : (xs : List (Held O)) → length (filter of_test xs) ≤ 1 → (h : Held O) → find of_test xs ≡ Some h
      → (find of_test (second_later xs) ≡ Some (older h)) ⊎ ((is_last h ≡ true) × (find of_test (second_later xs) ≡ None))
  found_older [] few h e = absurd (true≢false (sym (ap (λ (o : Option (Held O)). elim o [ None ↦ false | Some x ↦ true ]) e)))
  found_older (x ∷ xs) few h e = elim (cases_Bool (of_test x)) [
    | inl here ↦
        let less : suc (length (filter of_test xs)) ≤ 1 = rw here at few in
        let rest = none_older xs (no_length (filter of_test xs) (omega (arith, less))) in
        let same : x ≡ h = ap (λ (o : Option (Held O)). elim o [ None ↦ x | Some y ↦ y ]) (rw here at e) in
        elim (cases_Bool (is_last x)) [
          | inl last ↦ inr (subst (λ (y : Held O). is_last y ≡ true) same last, rw last rest)
          | inr kept ↦ inl (rw (kept, here) (ap (λ (y : Held O). Some (older y)) same))
        ]
    | inr other ↦
        let rest = found_older xs (rw other at few) h (rw other at e) in
        elim (cases_Bool (is_last x)) [
          | inl last ↦ rw last rest
          | inr kept ↦ rw (kept, other) rest
        ]
  ]

  pub none_older_found : (xs : List (Held O)) → find of_test xs ≡ None → find of_test (second_later xs) ≡ None
  none_older_found [] none = refl
  none_older_found (x ∷ xs) none = elim (cases_Bool (of_test x)) [
    | inl e ↦ absurd (true≢false (ap (λ (o : Option (Held O)). elim o [ None ↦ false | Some y ↦ true ]) (rw e at none)))
    | inr e ↦
        let rest = none_older_found xs (rw e at none) in
        elim (cases_Bool (is_last x)) [
          | inl last ↦ rw last rest
          | inr kept ↦ rw (kept, e) rest
        ]
  ]
