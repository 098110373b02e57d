-- The numbers of a place are those that the history has of its session.
use Rattle.std.proofs.Common.{◌≡◌, ◌∙◌, refl, sym, ap, subst, ℕ, true, false, cond, ◌&&◌, inl, inr, List, [], ◌∷◌, ◌++◌, map, set, None, Some}
use Rattle.std.specs.List.{position}
use Rattle.std.proofs.lemmas.Bool.{cases_Bool}
use Rattle.std.proofs.lemmas.List.Quantifiers.{position-Some}
use Rattle.ipx_peers.specs.declared.opened.Opened.{Opened}
use Rattle.ipx_peers.specs.declared.verdict.Verdict.{Verdict}
use Rattle.ipx_peers.specs.declared.verdict.Verdict.TheVariants.{Dropped, Greet, Repeated, Heard, New, Full, Again}
use Rattle.ipx_peers.specs.Events.{Begins, Hears, Sends, Second, History}
use Rattle.ipx_peers.specs.Places.{same, Place, nobody, is_of, first, heard, yielded, later}
use Rattle.ipx_peers.specs.States.{State, place_at, verdict, places_after, state}
use Rattle.ipx_peers.specs.Laws.{is_heard, numbers_of}
use Rattle.ipx_peers.proofs.Said.{Says, says}
use Rattle.ipx_peers.proofs.Deciding.{same_is, same_itself}
use Rattle.ipx_peers.proofs.Found.{found, found_known, found_unknown, any_unknown, found_mapped, any_mapped, found_behind, found_before, found_set, found_set_other}

abbrev counted : List ℕ → Opened → List ℕ → Verdict → List ℕ
counted session opened numbers v = cond (same opened.session session && is_heard v) (opened.number ∷ numbers) numbers

abbrev Step : List ℕ → Opened → List Place → Verdict → Type 0
Step session opened xs v = found session (places_after opened xs v) ≡ counted session opened (found session xs) v

unheard : (session : List ℕ) (opened : Opened) (numbers : List ℕ) → numbers ≡ cond (same opened.session session && false) (opened.number ∷ numbers) numbers
unheard session opened numbers = elim (cases_Bool (same opened.session session)) [
  | inl e ↦ rw e refl
  | inr e ↦ rw e refl
]

-- ---- its own

heard_own : (opened : Opened) (xs : List Place) (i : ℕ) → position (is_of opened.session) xs ≡ Some i
    → found opened.session (set xs i (heard opened (place_at i xs))) ≡ opened.number ∷ found opened.session xs
heard_own opened xs i is =
    let here = (position-Some (is_of opened.session) xs i nobody is).1 in
    found_set opened.session xs i (heard opened (place_at i xs)) is here
    ∙ ap (λ n. opened.number ∷ n) (found_known opened.session xs i is)

new_own : (opened : Opened) (xs : List Place) → position (is_of opened.session) xs ≡ None
    → found opened.session (map (yielded opened.address) xs ++ first opened ∷ []) ≡ opened.number ∷ found opened.session xs
new_own opened xs none =
    let nobody_there = any_mapped opened.session (yielded opened.address) (λ x. refl) xs ∙ any_unknown opened.session xs none in
    found_behind opened.session (map (yielded opened.address) xs) (first opened) nobody_there (same_itself opened.session)
    ∙ ap (λ n. opened.number ∷ n) (sym (found_unknown opened.session xs none))

-- ---- another's

heard_other : (session : List ℕ) (opened : Opened) (xs : List Place) (i : ℕ) → position (is_of opened.session) xs ≡ Some i → same opened.session session ≡ false
    → found session (set xs i (heard opened (place_at i xs))) ≡ found session xs
heard_other session opened xs i is other =
    let (within, here, before) = position-Some (is_of opened.session) xs i nobody is in
    let it : (place_at i xs).session ≡ opened.session = same_is (place_at i xs).session opened.session here in
    let differs : is_of session (place_at i xs) ≡ false = ap (λ s. same s session) it ∙ other in
    found_set_other session xs i (heard opened (place_at i xs)) within differs differs

new_other : (session : List ℕ) (opened : Opened) (xs : List Place) → same opened.session session ≡ false
    → found session (map (yielded opened.address) xs ++ first opened ∷ []) ≡ found session xs
new_other session opened xs other =
    found_before session (map (yielded opened.address) xs) (first opened) other
    ∙ found_mapped session (yielded opened.address) (λ x. refl) (λ x. refl) xs

-- ---- both

as_own : (session : List ℕ) (opened : Opened) (xs ys : List Place) → same opened.session session ≡ true
    → found opened.session ys ≡ opened.number ∷ found opened.session xs → found session ys ≡ opened.number ∷ found session xs
as_own session opened xs ys e own =
    subst (λ (s : List ℕ). found s ys ≡ opened.number ∷ found s xs) (same_is opened.session session e) own

step : (session : List ℕ) (opened : Opened) (s : State) (v : Verdict) → Says opened s v → Step session opened s.places v
step session opened s Dropped said = unheard session opened (found session s.places)
step session opened s Greet said = unheard session opened (found session s.places)
step session opened s Repeated said = unheard session opened (found session s.places)
step session opened s (Heard i) said = elim (cases_Bool (same opened.session session)) [
  | inl e ↦ rw e (as_own session opened s.places (places_after opened s.places (Heard i)) e (heard_own opened s.places i said.1))
  | inr e ↦ rw e (heard_other session opened s.places i said.1 e)
]
step session opened s (New i) said = elim (cases_Bool (same opened.session session)) [
  | inl e ↦ rw e (as_own session opened s.places (places_after opened s.places (New i)) e (new_own opened s.places said.1))
  | inr e ↦ rw e (new_other session opened s.places e)
]
step session opened s Full said = unheard session opened (found session s.places)
step session opened s Again said = unheard session opened (found session s.places)

pub tied : (session : List ℕ) (history : History) → found session (state history).places ≡ numbers_of session history
tied session [] = refl
tied session (Begins own ∷ earlier) = refl
tied session (Hears opened ∷ earlier) =
    let s = state earlier in
    step session opened s (verdict opened s) (says opened s)
    ∙ ap (λ n. counted session opened n (verdict opened s)) (tied session earlier)
tied session (Sends ∷ earlier) = tied session earlier
tied session (Second ∷ earlier) = found_mapped session later (λ x. refl) (λ x. refl) (state earlier).places ∙ tied session earlier

-- ---- of a place that is known, and of none

pub numbers_known : (history : History) (session : List ℕ) (i : ℕ) → position (is_of session) (state history).places ≡ Some i
    → (place_at i (state history).places).numbers ≡ numbers_of session history
numbers_known history session i is = found_known session (state history).places i is ∙ tied session history

pub numbers_unknown : (history : History) (session : List ℕ) → position (is_of session) (state history).places ≡ None → numbers_of session history ≡ []
numbers_unknown history session none = sym (tied session history) ∙ found_unknown session (state history).places none
