-- The list of alive offers, place by place.
use Rattle.std.proofs.Common.{◌≡◌, refl, sym, ap, ap₂, ◌∙◌, subst, ℕ, suc, zero, Bool, true, false, ◌&&◌, nat_lt, List, [], ◌∷◌, slice_get, Option, None, Some, is_some, inl, inr, true≢false}
use Rattle.std.proofs.lemmas.Bool.{cases_Bool, and_parts, and_from, ltb-true, lt-ltb}
use Rattle.ipx_table.specs.Reading.{Rules}
use Rattle.ipx_table.specs.Facts.{Offered, Second, PortEnd, End, Marked, seconds}
use Rattle.ipx_table.specs.Alive.{alive, lasts, lifetime, IsAliveAt}
use Rattle.ipx_table.specs.declared.held.Held.{Held}

module _ {O : Type 0} (rules : Rules O) where
  -- a place, seen with one fact more before it
  behind : (first : Marked O) (facts : List (Marked O)) (place : ℕ) (held : Held O) → IsAliveAt rules facts place held → IsAliveAt rules (first ∷ facts) (suc place) held
  behind first facts place held a = record { accepted = a.accepted; lasting = a.lasting; age = a.age; young = a.young }

  before : (first : Marked O) (facts : List (Marked O)) (place : ℕ) (held : Held O) → IsAliveAt rules (first ∷ facts) (suc place) held → IsAliveAt rules facts place held
  before first facts place held a = record { accepted = a.accepted; lasting = a.lasting; age = a.age; young = a.young }

  inside : {X : Type 0} {x y : X} → Some x ≡ Some y → x ≡ y
  inside {X = X} {x = x} e = ap (λ (o : Option X). elim o [ None ↦ x | Some z ↦ z ]) e

  -- the offer of a fact, if it is one
  abbrev offer_in : O → Marked O → O
  offer_in other (Offered offer, mark) = offer
  offer_in other (Second, mark) = other
  offer_in other (PortEnd port, mark) = other
  offer_in other (End, mark) = other

  abbrev is_offered : Marked O → Bool
  is_offered (Offered offer, mark) = true
  is_offered (Second, mark) = false
  is_offered (PortEnd port, mark) = false
  is_offered (End, mark) = false

  pub place_of : (facts : List (Marked O)) (k : ℕ) (held : Held O) → slice_get (alive rules facts) k ≡ Some held → (place : ℕ) × IsAliveAt rules facts place held
  place_of [] k held e = absurd (true≢false (sym (ap is_some e)))
  place_of ((Offered offer, false) ∷ later) k held e = let p = place_of later k held e in (suc p.0, behind (Offered offer, false) later p.0 held p.1)
  place_of ((Second, mark) ∷ later) k held e = let p = place_of later k held e in (suc p.0, behind (Second, mark) later p.0 held p.1)
  place_of ((PortEnd port, mark) ∷ later) k held e = let p = place_of later k held e in (suc p.0, behind (PortEnd port, mark) later p.0 held p.1)
  place_of ((End, mark) ∷ later) k held e = let p = place_of later k held e in (suc p.0, behind (End, mark) later p.0 held p.1)
  place_of ((Offered offer, true) ∷ later) k held e =
      elim (cases_Bool (lasts rules offer later && nat_lt (seconds later) lifetime)) [
        | inl lives ↦ first k (λ j h. place_of later j h) (rw lives at e) lives
        | inr ends ↦ let p = place_of later k held (rw ends at e) in (suc p.0, behind (Offered offer, true) later p.0 held p.1)
      ]
    where
      first : (k : ℕ) → ((j : ℕ) → (h : Held O) → slice_get (alive rules later) j ≡ Some h → (place : ℕ) × IsAliveAt rules later place h)
          → slice_get (record { offer = offer; age = seconds later } ∷ alive rules later) k ≡ Some held
          → (lasts rules offer later && nat_lt (seconds later) lifetime) ≡ true → (place : ℕ) × IsAliveAt rules ((Offered offer, true) ∷ later) place held
      first zero ih e lives =
          let parts = and_parts (lasts rules offer later) (nat_lt (seconds later) lifetime) lives in (
            zero,
            subst (λ (h : Held O). IsAliveAt rules ((Offered offer, true) ∷ later) zero h) (inside e)
                (record { accepted = refl; lasting = parts.0; age = refl; young = ltb-true (seconds later) lifetime parts.1 }),
          )
      first (suc k) ih e lives = let p = ih k held e in (suc p.0, behind (Offered offer, true) later p.0 held p.1)

  pub listed_at : (facts : List (Marked O)) (place : ℕ) (held : Held O) → IsAliveAt rules facts place held → (k : ℕ) × (slice_get (alive rules facts) k ≡ Some held)
  listed_at [] place held a = absurd (true≢false (sym (ap is_some a.accepted)))
  listed_at ((Offered offer, false) ∷ later) zero held a = absurd (true≢false (sym (ap (λ (m : Marked O). m.1) (inside a.accepted))))
  listed_at ((Second, mark) ∷ later) zero held a = absurd (true≢false (sym (ap is_offered (inside a.accepted))))
  listed_at ((PortEnd port, mark) ∷ later) zero held a = absurd (true≢false (sym (ap is_offered (inside a.accepted))))
  listed_at ((End, mark) ∷ later) zero held a = absurd (true≢false (sym (ap is_offered (inside a.accepted))))
  listed_at ((Offered offer, true) ∷ later) zero held a =
      let same : offer ≡ held.offer = ap (offer_in offer) (inside a.accepted) in
      let lives : (lasts rules offer later && nat_lt (seconds later) lifetime) ≡ true =
      and_from (lasts rules offer later) (nat_lt (seconds later) lifetime) (ap (λ o. lasts rules o later) same ∙ a.lasting)
      (ap (λ (n : ℕ). nat_lt n lifetime) (sym a.age) ∙ lt-ltb held.age lifetime a.young) in
      (zero, rw lives (ap Some (ap₂ (λ (o : O) (n : ℕ). let h : Held O = record { offer = o; age = n } in h) same (sym a.age))))
  listed_at ((Offered offer, false) ∷ later) (suc place) held a = listed_at later place held (before (Offered offer, false) later place held a)
  listed_at ((Second, mark) ∷ later) (suc place) held a = listed_at later place held (before (Second, mark) later place held a)
  listed_at ((PortEnd port, mark) ∷ later) (suc place) held a = listed_at later place held (before (PortEnd port, mark) later place held a)
  listed_at ((End, mark) ∷ later) (suc place) held a = listed_at later place held (before (End, mark) later place held a)
  listed_at ((Offered offer, true) ∷ later) (suc place) held a =
      let there = listed_at later place held (before (Offered offer, true) later place held a) in
      elim (cases_Bool (lasts rules offer later && nat_lt (seconds later) lifetime)) [
        | inl lives ↦ (suc there.0, rw lives there.1)
        | inr ends ↦ (there.0, rw ends there.1)
      ]
