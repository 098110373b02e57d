-- Which offer a key is left with by an offer of it.
use Rattle.std.proofs.Common.{◌≡◌, refl, sym, ap, ◌∙◌, ◌&&◌, nat_lt, Bool, true, false, List, ◌++◌, find, length, drop, take, suc, ℕ, Option, None, Some, option_map, inl, inr, true≢false, append-nil, Ordering, Less, Equal, Greater, is_eq, is_lt, arith}
use Rattle.std.specs.List.{list_any}
use Rattle.std.specs.Ordering.{ordering_reverse}
use Rattle.std.specs.Cmp.{IsTotalOrder}
use Rattle.std.proofs.lemmas.Bool.{cases_Bool}
use Rattle.std.proofs.lemmas.List.Folds.{find-append}
use Rattle.ipx_table.specs.Reading.{Rules}
use Rattle.ipx_table.specs.Facts.{Offered}
use Rattle.ipx_table.specs.Accepted.{is_accepted, has_share, may_replace}
use Rattle.ipx_table.specs.inside.AfterOffer.{fresh, after_offer}
use Rattle.ipx_table.specs.Stands.{IsDistinct}
use Rattle.ipx_table.specs.Taken.{is_change, known_of, offer_left, same_left, taken_over, taken_beside}
use Rattle.ipx_table.specs.declared.held.Held.{Held}
use Rattle.ipx_table.proofs.Offers.{of_key, apart_from, HeldAt, held_at, held-accepted, held-uncut, not_held-accepted, not_held-left, unchanged}
use Rattle.ipx_table.proofs.Refused.{found_place, found_none}
use Rattle.ipx_table.proofs.Singles.{none-find, all-append}

module _ {O : Type 0} (rules : Rules O) (total : IsTotalOrder rules.by_key) (same_offer : O → O → Bool) where
  abbrev offer_of : Option (Held O) → Option O
  offer_of known = option_map (λ h. h.offer) known

  itself : (offer : O) → of_key rules total offer (fresh offer) ≡ true
  itself offer = equal (rules.by_key offer offer) (total.antisymm offer offer)
    where
      equal : (r : Ordering) → r ≡ ordering_reverse r → is_eq r ≡ true
      equal Less e = sym (ap is_lt e)
      equal Equal e = refl
      equal Greater e = ap is_lt e

  -- an offer that is accepted
  taken_in : (held : List (Held O)) (offer : O) → is_accepted rules held (Offered offer) ≡ true → known_of rules (after_offer rules held offer) offer ≡ Some (fresh offer)
  taken_in held offer yea = grind (arith, itself, none-find, of_key, apart_from, find-append)

  left_none : (held : List (Held O)) (offer : O) → list_any (of_key rules total offer) held ≡ false → known_of rules held offer ≡ None
      → offer_of (known_of rules (after_offer rules held offer) offer) ≡ offer_left (taken_beside rules same_offer held offer None) None offer
  left_none held offer none known = grind (arith, not_held-left, taken_in, not_held-accepted)

  gone : (held : List (Held O)) (place : ℕ) (it : Held O) (offer : O) → HeldAt rules total held place it offer
      → is_accepted rules held (Offered offer) ≡ false → rules.same_source it.offer offer ≡ true → known_of rules (after_offer rules held offer) offer ≡ None
  gone held place it offer at nay own =
      let rest = held-uncut rules total false held place it offer at in
      let both = all-append (λ x. of_key rules total offer x ≡ false) (take place held) (drop (suc place) held) at.alone.none_before at.alone.none_behind in
      rw (nay, rest, own) (ap (find (of_key rules total offer)) (append-nil (take place held ++ drop (suc place) held))
      ∙ none-find (of_key rules total offer) (take place held ++ drop (suc place) held) both)

  left_held : (held : List (Held O)) (place : ℕ) (it : Held O) (offer : O) → HeldAt rules total held place it offer → known_of rules held offer ≡ Some it
      → offer_of (known_of rules (after_offer rules held offer) offer) ≡ offer_left (taken_beside rules same_offer held offer (Some it)) (Some it.offer) offer
  left_held held place it offer at known =
      let judged = held-accepted rules total held place it offer at in
      let stays = λ (e : is_accepted rules held (Offered offer) ≡ false) (other : rules.same_source it.offer offer ≡ false).
      ap (λ hs. offer_of (known_of rules hs offer)) (unchanged rules total held place it offer at e other) ∙ ap offer_of known in
      elim (cases_Bool (rules.same_source it.offer offer)) [
        | inl own ↦ elim (cases_Bool (rules.is_down offer)) [
          | inl down ↦ ap offer_of (gone held place it offer at (judged ∙ rw down refl) own) ∙ rw (down, own) refl
          | inr up ↦ ap offer_of (taken_in held offer (judged ∙ rw (up, own) refl)) ∙ rw (up, own) refl
        ]
        | inr other ↦ elim (cases_Bool (rules.is_down offer)) [
          | inl down ↦ stays (judged ∙ rw down refl) other ∙ rw (down, other) refl
          | inr up ↦ elim (cases_Bool (rules.is_worse it.offer offer)) [
            | inl worse ↦ elim (cases_Bool (may_replace rules offer held it)) [
              | inl may ↦ ap offer_of (taken_in held offer (judged ∙ rw (up, other, worse, may) refl)) ∙ rw (up, other, worse, may) refl
              | inr may ↦ stays (judged ∙ rw (up, other, worse, may) refl) other ∙ rw (up, other, worse, may) refl
            ]
            | inr better ↦ stays (judged ∙ rw (up, other, better) refl) other ∙ rw (up, other, better) refl
          ]
        ]
      ]

  pub left : (held : List (Held O)) (offer : O) → IsDistinct rules.by_key held
      → offer_of (known_of rules (after_offer rules held offer) offer) ≡ offer_left (taken_over rules same_offer held offer) (offer_of (known_of rules held offer)) offer
  left held offer distinct = by_find (known_of rules held offer) refl
    where
      by_find : (known : Option (Held O)) → known_of rules held offer ≡ known
          → offer_of (known_of rules (after_offer rules held offer) offer) ≡ offer_left (taken_beside rules same_offer held offer known) (offer_of known) offer
      by_find None e = left_none held offer (found_none (of_key rules total offer) held e) e
      by_find (Some it) e =
          let found = found_place (of_key rules total offer) held it e in
          left_held held found.0 it offer (held_at rules total held found.0 it offer found.1 found.2 distinct) e

  -- what isn't told as a change leaves a key with what it had
  pub same_beside : ((o : O) → same_offer o o ≡ true) → (held : List (Held O)) (offer : O) (known : Option (Held O))
      → is_change (taken_beside rules same_offer held offer known) ≡ false
      → same_left same_offer (offer_of known) (offer_left (taken_beside rules same_offer held offer known) (offer_of known) offer) ≡ true
  same_beside alike held offer None e = elim (cases_Bool (rules.is_down offer)) [
    | inl down ↦ rw down refl
    | inr up ↦ elim (cases_Bool (nat_lt (length held) rules.capacity && has_share rules offer held)) [
      | inl room ↦ let no : true ≡ false = rw (up, room) at e in absurd (true≢false no)
      | inr full ↦ rw (up, full) refl
    ]
  ]
  same_beside alike held offer (Some it) e = elim (cases_Bool (rules.same_source it.offer offer)) [
    | inl own ↦ elim (cases_Bool (rules.is_down offer)) [
      | inl down ↦ let no : true ≡ false = rw (down, own) at e in absurd (true≢false no)
      | inr up ↦ elim (cases_Bool (same_offer it.offer offer)) [
        | inl same ↦ rw (up, own) same
        | inr differ ↦ let no : true ≡ false = rw (up, own, differ) at e in absurd (true≢false no)
      ]
    ]
    | inr other ↦ elim (cases_Bool (rules.is_down offer)) [
      | inl down ↦ rw (down, other) (alike it.offer)
      | inr up ↦ elim (cases_Bool (rules.is_worse it.offer offer)) [
        | inl worse ↦ elim (cases_Bool (may_replace rules offer held it)) [
          | inl may ↦ let no : true ≡ false = rw (up, other, worse, may) at e in absurd (true≢false no)
          | inr may ↦ rw (up, other, worse, may) (alike it.offer)
        ]
        | inr better ↦ rw (up, other, better) (alike it.offer)
      ]
    ]
  ]
