-- Offers that a table refuses, or that are no better than what it holds, change nothing.
use Rattle.std.proofs.Common.{◌≡◌, refl, sym, ap, ◌∙◌, ℕ, suc, zero, Bool, true, false, List, [], ◌∷◌, ◌++◌, find, slice_get, Option, None, Some, is_some, inl, inr, true≢false, arith}
use Rattle.std.specs.List.{list_any}
use Rattle.std.specs.Cmp.{IsTotalOrder}
use Rattle.std.proofs.lemmas.Bool.{cases_Bool}
use Rattle.ipx_table.specs.Reading.{Rules}
use Rattle.ipx_table.specs.Facts.{Fact, Offered}
use Rattle.ipx_table.specs.Alive.{alive}
use Rattle.ipx_table.specs.Accepted.{marked, may_replace}
use Rattle.ipx_table.specs.inside.AfterOffer.{after_offer}
use Rattle.ipx_table.specs.Stands.{IsDistinct}
use Rattle.ipx_table.specs.Taken.{taken, taken_over, taken_beside}
use Rattle.ipx_table.specs.declared.held.Held.{Held}
use Rattle.ipx_table.specs.declared.taken.Taken.{Taken}
use Rattle.ipx_table.specs.declared.taken.Taken.TheVariants.{Withdrawn, Nothing, Refreshed, Replaced, Worse, Admitted, Full}
use Rattle.ipx_table.proofs.History.{alive_after-offered}
use Rattle.ipx_table.proofs.Living.{kept}
use Rattle.ipx_table.proofs.Offers.{of_key, HeldAt, held_at, held-accepted, unchanged, not_held-left}

-- the answers that say that nothing changed
abbrev pub is_refusal : Taken → Bool
is_refusal Withdrawn = false
is_refusal Nothing = true
is_refusal (Refreshed changed) = false
is_refusal Replaced = false
is_refusal Worse = true
is_refusal Admitted = false
is_refusal Full = true

pub found_place : {X : Type 0} (p : X → Bool) (xs : List X) (x : X) → find p xs ≡ Some x → (k : ℕ) × (slice_get xs k ≡ Some x) × (p x ≡ true)
found_place p [] x e = absurd (true≢false (sym (ap is_some e)))
found_place p (y ∷ ys) x e = elim (cases_Bool (p y)) [
  | inl passes ↦
      let there : Some y ≡ Some x = rw passes at e in
      (zero, there, sym (ap (λ o. elim o [ None ↦ p y | Some z ↦ p z ]) there) ∙ passes)
  | inr fails ↦
      let rest = found_place p ys x (rw fails at e) in (suc rest.0, rest.1, rest.2)
]

pub found_none : {X : Type 0} (p : X → Bool) (xs : List X) → find p xs ≡ None → list_any p xs ≡ false
found_none p [] e = refl
found_none p (y ∷ ys) e = elim (cases_Bool (p y)) [
  | inl passes ↦ let there : Some y ≡ None = rw passes at e in absurd (true≢false (ap is_some there))
  | inr fails ↦ rw fails (found_none p ys (rw fails at e))
]

module _ {O : Type 0} (rules : Rules O) (total : IsTotalOrder rules.by_key) (same_offer : O → O → Bool) where
  beside_none : (held : List (Held O)) (offer : O) → list_any (of_key rules total offer) held ≡ false
      → is_refusal (taken_beside rules same_offer held offer None) ≡ true → after_offer rules held offer ≡ held
  beside_none held offer none refusal = grind (arith, not_held-left)

  beside_held : (held : List (Held O)) (place : ℕ) (it : Held O) (offer : O) → HeldAt rules total held place it offer
      → is_refusal (taken_beside rules same_offer held offer (Some it)) ≡ true → after_offer rules held offer ≡ held
  beside_held held place it offer at refusal =
      elim (cases_Bool (rules.same_source it.offer offer)) [
        | inl own ↦ elim (cases_Bool (rules.is_down offer)) [
          | inl down ↦ let no : false ≡ true = rw (down, own) at refusal in absurd (true≢false (sym no))
          | inr up ↦ let no : false ≡ true = rw (up, own) at refusal in absurd (true≢false (sym no))
        ]
        | inr other ↦ elim (cases_Bool (rules.is_down offer)) [
          | inl down ↦ unchanged rules total held place it offer at (held-accepted rules total held place it offer at ∙ rw down refl) other
          | inr up ↦ elim (cases_Bool (rules.is_worse it.offer offer)) [
            | inl worse ↦ elim (cases_Bool (may_replace rules offer held it)) [
              | inl may ↦ let no : false ≡ true = rw (up, other, worse, may) at refusal in absurd (true≢false (sym no))
              | inr may ↦ unchanged rules total held place it offer at (held-accepted rules total held place it offer at ∙ rw (up, other, worse, may) refl) other
            ]
            | inr better ↦ unchanged rules total held place it offer at (held-accepted rules total held place it offer at ∙ rw (up, other, better) refl) other
          ]
        ]
      ]

  after_refusal : (held : List (Held O)) (offer : O) → IsDistinct rules.by_key held → is_refusal (taken_over rules same_offer held offer) ≡ true
      → after_offer rules held offer ≡ held
  after_refusal held offer distinct refusal = by_find (find (of_key rules total offer) held) refl
    where
      by_find : (o : Option (Held O)) → find (of_key rules total offer) held ≡ o → after_offer rules held offer ≡ held
      by_find None e = beside_none held offer (found_none (of_key rules total offer) held e)
          (sym (ap (λ o. is_refusal (taken_beside rules same_offer held offer o)) e) ∙ refusal)
      by_find (Some it) e =
          let found = found_place (of_key rules total offer) held it e in
          beside_held held found.0 it offer (held_at rules total held found.0 it offer found.1 found.2 distinct)
          (sym (ap (λ o. is_refusal (taken_beside rules same_offer held offer o)) e) ∙ refusal)

  pub refused : (facts : List (Fact O)) (offer : O) → is_refusal (taken rules same_offer facts offer) ≡ true
      → alive rules (marked rules (facts ++ Offered offer ∷ [])) ≡ alive rules (marked rules facts)
  refused facts offer refusal = grind (arith, alive_after-offered, after_refusal, kept)
