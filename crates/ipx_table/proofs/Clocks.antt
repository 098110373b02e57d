-- A second of the clock: what it does to ages, and to records with their slots.
use Rattle.std.proofs.Common.{◌≡◌, refl, sym, ap, ◌∙◌, ℕ, ◌+◌, ◌<◌, ◌==◌, Bool, true, false, not, if◌then◌else◌, ◌||◌, length, get_or, take, List, [], ◌∷◌, map, filter, slice_get, None, IfSome, inl, inr, arith, true≢false, zero, suc}
use Rattle.std.specs.List.{AllByRecursion, list_any}
use Rattle.std.proofs.lemmas.Bool.{cases_Bool, eqb-true, eqb-false, eq-eqb, ne_eqb}
use Rattle.ipx_table.specs.Alive.{lifetime}
use Rattle.ipx_table.specs.Slots.{age_at, seen, seen_at}
use Rattle.ipx_table.specs.inside.Clock.{next}
use Rattle.ipx_table.specs.Stands.{second_later, ended, is_last}
use Rattle.ipx_table.specs.declared.held.Held.{Held}

pub next_going : (clock : ℕ) → clock < lifetime → next clock < lifetime
next_going clock going = omega arith

age_next : (clock slot : ℕ) → clock < lifetime → slot < lifetime → (slot == next clock) ≡ false → age_at (next clock) slot ≡ age_at clock slot + 1
age_next clock slot going fits e = let other = eqb-false slot (next clock) e in omega (arith, going, fits, other)

last_now : (clock slot : ℕ) → clock < lifetime → slot < lifetime → (slot == next clock) ≡ true → (age_at clock slot + 1 == lifetime) ≡ true
last_now clock slot going fits e = let same = eqb-true slot (next clock) e in eq-eqb (age_at clock slot + 1) lifetime (omega (arith, going, fits, same))

not_last : (clock slot : ℕ) → clock < lifetime → slot < lifetime → (slot == next clock) ≡ false → (age_at clock slot + 1 == lifetime) ≡ false
not_last clock slot going fits e =
    let other = eqb-false slot (next clock) e in
    ne_eqb (age_at clock slot + 1) lifetime (λ last. omega (arith, going, fits, other, last))

module _ {O : Type 0} (clock : ℕ) (going : clock < lifetime) where
  pub second-seen : (ps : List (O × ℕ)) → AllByRecursion (λ p. p.1 < lifetime) ps
      → seen (next clock) (filter (λ p. not (p.1 == next clock)) ps) ≡ second_later (seen clock ps)
  second-seen [] fits = refl
  second-seen (p ∷ ps) fits =
      let rest = second-seen ps fits.1 in
      elim (cases_Bool (p.1 == next clock)) [
        | inl now ↦ let last = last_now clock p.1 going fits.0 now in simp (now, last) rest
        | inr later ↦
            let more = not_last clock p.1 going fits.0 later in
            let aged = age_next clock p.1 going fits.0 later in
            simp (later, more) (ap (λ zs. seen_at (next clock) p ∷ zs) rest
            ∙ ap (λ (n : ℕ). let h : Held O = record { offer = p.0; age = n } in h ∷ second_later (seen clock ps)) aged)
      ]

  pub ended-seen : (ps : List (O × ℕ)) → AllByRecursion (λ p. p.1 < lifetime) ps
      → map (λ p. p.0) (filter (λ p. p.1 == next clock) ps) ≡ ended (seen clock ps)
  ended-seen [] fits = refl
  ended-seen (p ∷ ps) fits =
      let rest = ended-seen ps fits.1 in
      elim (cases_Bool (p.1 == next clock)) [
        | inl now ↦ let last = last_now clock p.1 going fits.0 now in simp (now, last) (ap (λ (os : List O). p.0 ∷ os) rest)
        | inr later ↦ let more = not_last clock p.1 going fits.0 later in simp (later, more) rest
      ]

  pub any-seen : (ps : List (O × ℕ)) → AllByRecursion (λ p. p.1 < lifetime) ps
      → list_any (λ p. p.1 == next clock) ps ≡ list_any is_last (seen clock ps)
  any-seen [] fits = refl
  any-seen (p ∷ ps) fits =
      elim (cases_Bool (p.1 == next clock)) [
        | inl now ↦ let last = last_now clock p.1 going fits.0 now in simp (now, last) refl
        | inr later ↦ let more = not_last clock p.1 going fits.0 later in simp (later, more) (any-seen ps fits.1)
      ]

  -- where none is in its last second, all are a second older
  pub quiet-seen : (ps : List (O × ℕ)) → AllByRecursion (λ p. p.1 < lifetime) ps → list_any is_last (seen clock ps) ≡ false
      → seen (next clock) ps ≡ second_later (seen clock ps)
  quiet-seen [] fits quiet = refl
  quiet-seen (p ∷ ps) fits quiet =
      elim (cases_Bool (p.1 == next clock)) [
        | inl now ↦
            let last = last_now clock p.1 going fits.0 now in
            let no : true ≡ false = rw last at quiet in absurd (true≢false no)
        | inr later ↦
            let more = not_last clock p.1 going fits.0 later in
            let aged = age_next clock p.1 going fits.0 later in
            let rest = quiet-seen ps fits.1 (rw more at quiet) in
            simp more (ap (λ zs. seen_at (next clock) p ∷ zs) rest
            ∙ ap (λ (n : ℕ). let h : Held O = record { offer = p.0; age = n } in h ∷ second_later (seen clock ps)) aged)
      ]

-- ---- a slot that no record has

pub any_second : {O : Type 0} (test : ℕ → Bool) (ps : List (O × ℕ)) → list_any test (map (λ p. p.1) ps) ≡ list_any (λ p. test p.1) ps
any_second test [] = refl
any_second test (p ∷ ps) = ap (λ (b : Bool). test p.1 || b) (any_second test ps)

pub none_of_slot : {O : Type 0} (slot : ℕ) (ps : List (O × ℕ)) → list_any (λ s. s == slot) (map (λ p. p.1) ps) ≡ false
    → (filter (λ p. not (p.1 == slot)) ps ≡ ps) × (filter (λ p. p.1 == slot) ps ≡ [])
none_of_slot slot [] e = (refl, refl)
none_of_slot slot (p ∷ ps) e =
    elim (cases_Bool (p.1 == slot)) [
      | inl there ↦ let no : true ≡ false = rw there at e in absurd (true≢false no)
      | inr other ↦
          let rest = none_of_slot slot ps (rw other at e) in
          rw other (ap (λ zs. p ∷ zs) rest.0, rest.1)
    ]

-- what holds of each slot holds of that of one record
pub slot-got : {O : Type 0} (ps : List (O × ℕ)) (k : ℕ) → AllByRecursion (λ p. p.1 < lifetime) ps → IfSome (slice_get ps k) (λ p. p.1 < lifetime)
slot-got [] k fits = tt
slot-got (p ∷ ps) zero fits = fits.0
slot-got (p ∷ ps) (suc k) fits = slot-got ps k fits.1

pub slot-found : {O : Type 0} (ps : List (O × ℕ)) (held : Bool) (k : ℕ) → AllByRecursion (λ p. p.1 < lifetime) ps → IfSome (if held then slice_get ps k else None) (λ p. p.1 < lifetime)
slot-found ps true k fits = slot-got ps k fits
slot-found ps false k fits = tt

-- records are younger than the lifetime
pub young-seen : {O : Type 0} (clock : ℕ) (ps : List (O × ℕ)) → AllByRecursion (λ h. h.age < lifetime) (seen clock ps)
young-seen clock [] = tt
young-seen clock (p ∷ ps) = (omega arith, young-seen clock ps)

-- ---- the loop over slots

or_right : (a b : Bool) → (a || b) ≡ (b || a)
or_right true true = refl
or_right true false = refl
or_right false true = refl
or_right false false = refl

or_through : (a b c : Bool) → ((a || b) || c) ≡ (a || (b || c))
or_through true b c = refl
or_through false b c = refl

pub any-more : (slot : ℕ) (slots : List ℕ) (k : ℕ) (any : Bool) → k < length slots → any ≡ list_any (λ s. s == slot) (take k slots)
    → (any || (get_or slots k 0 == slot)) ≡ list_any (λ s. s == slot) (take (k + 1) slots)
any-more slot slots k any within e = ap (λ (b : Bool). b || (get_or slots k 0 == slot)) e ∙ sym (one_more slots k within)
  where
    one_more : (xs : List ℕ) (k : ℕ) → k < length xs → list_any (λ s. s == slot) (take (k + 1) xs) ≡ (list_any (λ s. s == slot) (take k xs) || (get_or xs k 0 == slot))
    one_more [] k within = absurd (omega (arith, within))
    one_more (x ∷ xs) zero within = or_right (x == slot) false
    one_more (x ∷ xs) (suc k) within =
        let next_place : suc k + 1 ≡ suc (k + 1) = omega arith in
        rw next_place (ap (λ (b : Bool). (x == slot) || b) (one_more xs k (omega (arith, within)))
        ∙ sym (or_through (x == slot) (list_any (λ s. s == slot) (take k xs)) (get_or xs k 0 == slot)))
