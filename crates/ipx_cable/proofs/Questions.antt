-- Nobody who hasn't answered is forgotten.
use Rattle.std.proofs.Common.{◌≡◌, ◌≢◌, ◌⊎◌, ◌∙◌, refl, sym, ap, subst, arith, ℕ, ◌+◌, ◌<◌, ◌≤◌, ◌==◌, zero, suc, inl, inr, Bool, true, false, ◌&&◌, not, nat_lt, List, [], ◌∷◌, length, get_or, set, length-set, replicate}
use Rattle.std.proofs.lemmas.Bool.{cases_Bool, cases_eq, cases_lt, both_ways, and_parts, and_from, not-true, not_from_false, eqb-true, eqb-false, ne_eqb, ltb-false, ltb-true, le-ltb}
use Rattle.std.proofs.lemmas.List.{get_or-set_same, get_or-set_other, set_past, get_or-replicate, get_or_past, length-replicate}
use Rattle.ipx_cable.specs.declared.asked.Asked.{Asked}
use Rattle.ipx_cable.specs.Asking.{moment, waits, no_later, is_due, next_after_look, are_due}
use Rattle.ipx_cable.specs.Questions.{Event, Ask, Answer, Look, History, State, rests, next_of, one_looked, one_next, all_looked, next_looked, after, state_after, asked_at}

-- whoever waits is no earlier than the next moment of all
Known : (next again : ℕ) → Type 0
Known next again = (again ≡ 0) ⊎ ((0 < next) × (next ≤ again))

moment_comes : (now number : ℕ) → 0 < moment now number
moment_comes now number = grind arith

-- a moment more makes nobody forgotten, and is known itself
earlier_known : (when next again : ℕ) → 0 < when → Known next again → Known (no_later when next) again
unfolding Known
earlier_known when next again some (inl none) = inl none
earlier_known when next again some (inr (there, first)) =
    let not_none : (next == 0) ≡ false = ne_eqb next 0 (λ none. absurd (omega (arith, none, there))) in
    elim (cases_Bool (nat_lt when next)) [
      | inl less ↦ rw (not_none, less) (inr (some, omega (arith, ltb-true when next less, first)))
      | inr more ↦ rw (not_none, more) (inr (there, first))
    ]

itself_known : (when next : ℕ) → 0 < when → Known (no_later when next) when
unfolding Known
itself_known when next some = elim (cases_Bool (next == 0)) [
  | inl none ↦ rw none (inr (some, omega arith))
  | inr there ↦ elim (cases_Bool (nat_lt when next)) [
    | inl less ↦ rw (there, less) (inr (some, omega arith))
    | inr more ↦ rw (there, more) (inr (positive next there, ltb-false when next more))
  ]
]
  where
    positive : (n : ℕ) → (n == 0) ≡ false → 0 < n
    positive zero is = absurd (both_ways true is refl)
    positive (suc n) is = omega arith

-- ---- a look at all

one_later : (now number : ℕ) (asked : Asked) (next again : ℕ) → Known next again → Known (one_next now number asked next) again
one_later now number asked next again known = elim (cases_Bool (is_due now asked)) [
  | inl due ↦ rw due (earlier_known (moment now number) next again (moment_comes now number) known)
  | inr not_due ↦ rw not_due (elim (cases_Bool (waits asked && nat_lt now asked.again)) [
    | inr past ↦ rw past known
    | inl later ↦ rw later (earlier_known asked.again next again (comes later) known)
  ])
]
  where
    comes : (waits asked && nat_lt now asked.again) ≡ true → 0 < asked.again
    comes later =
        let less = ltb-true now asked.again (and_parts (waits asked) (nat_lt now asked.again) later).1 in
        omega (arith, less)

one_itself : (now number : ℕ) (asked : Asked) (next : ℕ) → Known (one_next now number asked next) (one_looked now number asked).again
unfolding Known
one_itself now number asked next = elim (cases_Bool (is_due now asked)) [
  | inl due ↦ rw due (itself_known (moment now number) next (moment_comes now number))
  | inr not_due ↦ rw not_due (elim (cases_Bool (waits asked && nat_lt now asked.again)) [
    | inl later ↦ rw later (itself_known asked.again next (comes later))
    | inr past ↦ inl (none not_due past)
  ])
]
  where
    comes : (waits asked && nat_lt now asked.again) ≡ true → 0 < asked.again
    comes later =
        let less = ltb-true now asked.again (and_parts (waits asked) (nat_lt now asked.again) later).1 in
        omega (arith, less)

    none : is_due now asked ≡ false → (waits asked && nat_lt now asked.again) ≡ false → asked.again ≡ 0
    none not_due past = elim (cases_Bool (asked.again == 0)) [
      | inl is ↦ eqb-true asked.again 0 is
      | inr isnt ↦
          let waits_for : waits asked ≡ true = not_from_false (asked.again == 0) isnt in
          elim (cases_Bool (nat_lt now asked.again)) [
            | inl less ↦ absurd (both_ways (waits asked && nat_lt now asked.again) past (and_from (waits asked) (nat_lt now asked.again) waits_for less))
            | inr more ↦ absurd (both_ways (is_due now asked) not_due (and_from (waits asked) (not (nat_lt now asked.again)) waits_for (not_from_false (nat_lt now asked.again) more)))
          ]
    ]

all_later : (now : ℕ) (numbers : ℕ → ℕ) (index : ℕ) (all : List Asked) (next again : ℕ) → Known next again
    → Known (next_looked now numbers index all next) again
all_later now numbers index [] next again known = known
all_later now numbers index (asked ∷ others) next again known =
    all_later now numbers (suc index) others (one_next now (numbers index) asked next) again (one_later now (numbers index) asked next again known)

all_known : (now : ℕ) (numbers : ℕ → ℕ) (index : ℕ) (all : List Asked) (next who : ℕ)
    → Known (next_looked now numbers index all next) (get_or (all_looked now numbers index all) who rests).again
unfolding Known
all_known now numbers index [] next who = inl (ap (λ (a : Asked). a.again) (get_or_past [] who rests (omega arith)))
all_known now numbers index (asked ∷ others) next zero =
    all_later now numbers (suc index) others (one_next now (numbers index) asked next) (one_looked now (numbers index) asked).again (one_itself now (numbers index) asked next)
all_known now numbers index (asked ∷ others) next (suc who) = all_known now numbers (suc index) others (one_next now (numbers index) asked next) who

-- ---- what happens

one_set : (who at : ℕ) (asked : Asked) (all : List Asked)
    → (get_or (set all at asked) who rests ≡ get_or all who rests) ⊎ (get_or (set all at asked) who rests ≡ asked)
one_set who at asked all = elim (cases_eq who at) [
  | inr other ↦ inl (get_or-set_other all at who asked rests other)
  | inl same ↦ elim (cases_lt at (length all)) [
    | inl within ↦ inr (ap (λ k. get_or (set all at asked) k rests) same ∙ get_or-set_same all at asked rests within)
    | inr past ↦ inl (ap (λ l. get_or l who rests) (set_past all at asked past))
  ]
]

at_first : (count who : ℕ) → get_or (replicate count rests) who rests ≡ rests
at_first count who = elim (cases_lt who count) [
  | inl within ↦ get_or-replicate count who rests rests within
  | inr past ↦
      let long : length (replicate {A = Asked} count rests) ≡ count = length-replicate count rests in
      get_or_past (replicate count rests) who rests (omega (arith, past, long))
]

known_at : (count who : ℕ) (history : History) → Known (state_after count history).next (asked_at who (state_after count history)).again
unfolding Known
known_at count who [] = inl (ap (λ (a : Asked). a.again) (at_first count who))
known_at count who (Ask at now number ∷ earlier) =
    let state = state_after count earlier in
    let comes = moment_comes now number in
    elim (one_set who at (record { again = moment now number }) state.all) [
      | inl same ↦ subst (λ (a : Asked). Known (no_later (moment now number) state.next) a.again) (sym same)
          (earlier_known (moment now number) state.next (asked_at who state).again comes (known_at count who earlier))
      | inr is ↦ subst (λ (a : Asked). Known (no_later (moment now number) state.next) a.again) (sym is) (itself_known (moment now number) state.next comes)
    ]
known_at count who (Answer at ∷ earlier) =
    let state = state_after count earlier in
    elim (one_set who at rests state.all) [
      | inl same ↦ subst (λ (a : Asked). Known state.next a.again) (sym same) (known_at count who earlier)
      | inr is ↦ inl (ap (λ (a : Asked). a.again) is)
    ]
known_at count who (Look now numbers ∷ earlier) =
    let state = state_after count earlier in
    let before = known_at count who earlier in
    elim (cases_Bool (are_due now (next_of state.next))) [
      | inl due ↦ rw due (all_known now numbers 0 state.all 0 who)
      | inr not_due ↦ rw not_due before
    ]

pub not_forgotten : (count who now : ℕ) (history : History) → is_due now (asked_at who (state_after count history)) ≡ true
    → are_due now (next_of (state_after count history).next) ≡ true
unfolding Known
not_forgotten count who now history due =
    let state = state_after count history in
    let asked = asked_at who state in
    let (waiting, come) = and_parts (waits asked) (not (nat_lt now asked.again)) due in
    let time = ltb-false now asked.again (not-true (nat_lt now asked.again) come) in
    elim (known_at count who history) [
      | inl none ↦ absurd (eqb-false asked.again 0 (not-true (asked.again == 0) waiting) none)
      | inr (there, first) ↦
          and_from (not (state.next == 0)) (not (nat_lt now state.next))
          (not_from_false (state.next == 0) (ne_eqb state.next 0 (λ none. absurd (omega (arith, none, there)))))
          (not_from_false (nat_lt now state.next) (le-ltb now state.next (omega (arith, first, time))))
    ]
