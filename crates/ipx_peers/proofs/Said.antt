-- What a verdict says of a datagram and of the places.
use Rattle.std.proofs.Common.{◌≡◌, refl, arith, ℕ, ◌<◌, ◌≤◌, true, false, ◌&&◌, ◌==◌, not, nat_lt, inl, inr, [], ◌∷◌, length, map, Option, None, Some, length-set, length-append}
use Rattle.std.specs.List.{list_any, position}
use Rattle.std.proofs.lemmas.Bool.{cases_Bool, and_parts, not-true, eqb-false, ltb-true}
use Rattle.std.proofs.lemmas.List.{length-map}
use Rattle.ipx_peers.specs.declared.opened.Opened.{Opened}
use Rattle.ipx_peers.specs.declared.verdict.Verdict.{Verdict}
use Rattle.ipx_peers.specs.declared.verdict.Verdict.TheVariants.{Dropped, Greet, Repeated, Heard, New, Full, Again}
use Rattle.ipx_peers.specs.Windows.{is_fresh}
use Rattle.ipx_peers.specs.Events.{Begins, Hears, Sends, Second, History}
use Rattle.ipx_peers.specs.Places.{same, is_session, is_of, is_away, first, heard, yielded, later}
use Rattle.ipx_peers.specs.States.{State, counts, place_at, verdict_of, verdict, places_after, state}

-- it is heard
pub record IsTaken (opened : Opened) (s : State) : Type 0 where
  pub counts : counts s opened ≡ true
  pub echo : same opened.echo s.session ≡ true
  pub number : 0 < opened.number

abbrev pub Says : Opened → State → Verdict → Type 0
Says opened s Dropped = Unit {0}
Says opened s Greet = same opened.echo s.session ≡ false
Says opened s Repeated = Unit {0}
Says opened s (Heard index) =
    IsTaken opened s × (position (is_of opened.session) s.places ≡ Some index) × (is_fresh opened.number (place_at index s.places).numbers ≡ true)
Says opened s (New index) =
    IsTaken opened s × (position (is_of opened.session) s.places ≡ None) × (index ≡ length s.places) × (length s.places < 64)
Says opened s Full = Unit {0}
Says opened s Again = Unit {0}

pub taken : (opened : Opened) (s : State) → counts s opened ≡ true → same opened.echo s.session ≡ true → IsTaken opened s
taken opened s counted echo =
    let begun = is_session s.session in
    let numbered = not (opened.number == 0) in
    let (three, other) = and_parts (begun && numbered && is_session opened.session) (not (same opened.session s.session)) counted in
    let (two, session) = and_parts (begun && numbered) (is_session opened.session) three in
    let (began, number) = and_parts begun numbered two in
    let not_zero = eqb-false opened.number 0 (not-true (opened.number == 0) number) in
    record { counts = counted; echo = echo; number = omega (arith, not_zero) }

said_of : (opened : Opened) (s : State) → IsTaken opened s → (o : Option ℕ) → position (is_of opened.session) s.places ≡ o → Says opened s (verdict_of opened s.places o)
said_of opened s taken (Some index) is = elim (cases_Bool (is_fresh opened.number (place_at index s.places).numbers)) [
  | inl e ↦ rw e (taken, is, e)
  | inr e ↦ rw e tt
]
said_of opened s taken None is = elim (cases_Bool (nat_lt (length s.places) 64)) [
  | inl e ↦ rw e (taken, is, refl, ltb-true (length s.places) 64 e)
  | inr e ↦ rw e (elim (cases_Bool (list_any is_away s.places)) [
    | inl any ↦ rw any tt
    | inr none ↦ rw none tt
  ])
]

pub says : (opened : Opened) (s : State) → Says opened s (verdict opened s)
says opened s = elim (cases_Bool (counts s opened)) [
  | inl e ↦ rw e (elim (cases_Bool (same opened.echo s.session)) [
    | inl echoes ↦ rw echoes (said_of opened s (taken opened s e echoes) (position (is_of opened.session) s.places) refl)
    | inr other ↦ rw other other
  ])
  | inr e ↦ rw e tt
]

-- ---- there are at most 64 places

few_after : (opened : Opened) (s : State) (v : Verdict) → Says opened s v → length s.places ≤ 64 → length (places_after opened s.places v) ≤ 64
few_after opened s Dropped said few = few
few_after opened s Greet said few = few
few_after opened s Repeated said few = few
few_after opened s (Heard index) said few = omega (arith, few, length-set s.places index (heard opened (place_at index s.places)))
few_after opened s (New index) said few =
    let room = said.3 in
    omega (arith, room, length-map s.places (yielded opened.address), length-append (map (yielded opened.address) s.places) (first opened ∷ []))
few_after opened s Full said few = few
few_after opened s Again said few = few

pub few_places : (history : History) → length (state history).places ≤ 64
few_places [] = omega arith
few_places (Begins session ∷ earlier) = omega arith
few_places (Hears opened ∷ earlier) = few_after opened (state earlier) (verdict opened (state earlier)) (says opened (state earlier)) (few_places earlier)
few_places (Sends ∷ earlier) = few_places earlier
few_places (Second ∷ earlier) = omega (arith, few_places earlier, length-map (state earlier).places later)
