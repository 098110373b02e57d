-- When those go that wait for each other.
use Rattle.std.proofs.Common.{◌≡◌, ◌⊎◌, ◌∙◌, refl, sym, ap, subst, arith, ℕ, zero, suc, ◌+◌, ◌-◌, ◌*◌, ◌/◌, ◌<◌, ◌≤◌, ◌==◌, inl, inr, min, not, nat_lt, true, false, [], ◌∷◌}
use Rattle.std.proofs.Math.Nat.{div-mul-le_self, mul-le-mul_left}
use Rattle.std.proofs.lemmas.Bool.{cases_Bool, cases_eq, cases_lt, and_parts, and_from, not-true, not_from_false, ltb-false, le-ltb, eqb-false, ne_eqb}
use Rattle.ipx_cable.specs.declared.pace.Pace.{Pace}
use Rattle.ipx_cable.specs.Paces.{most_wait, largest, least, closer, paced, goes, gone}
use Rattle.ipx_cable.specs.Pacing.{More, Ask, History, State, nothing, leaving, after, state_after, left_since, goes_at, IsShown, latest, GoesOn, HaveRoom, SomeWait}

-- ---- what it means that somebody goes

pub record GoesNow (waiting now : ℕ) (pace : Pace) : Type 0 where
  pub some : 0 < waiting
  pub due : pace.next ≤ now

pub goes_now : (waiting now : ℕ) (pace : Pace) → goes waiting now pace ≡ true → GoesNow waiting now pace
goes_now waiting now pace is =
    let (some, due) = and_parts (not (waiting == 0)) (not (nat_lt now pace.next)) is in
    record {
      some = (let none = eqb-false waiting 0 (not-true (waiting == 0) some) in elim (cases_eq waiting 0) [
        | inl is_none ↦ absurd (none is_none)
        | inr more ↦ omega (arith, more)
      ]);
      due = ltb-false now pace.next (not-true (nat_lt now pace.next) due);
    }

pub goes_then : (waiting now : ℕ) (pace : Pace) → 0 < waiting → pace.next ≤ now → goes waiting now pace ≡ true
goes_then waiting now pace some due =
    and_from (not (waiting == 0)) (not (nat_lt now pace.next))
    (not_from_false (waiting == 0) (ne_eqb waiting 0 (λ none. absurd (omega (arith, none, some)))))
    (not_from_false (nat_lt now pace.next) (le-ltb now pace.next due))

-- ---- more wait

all_in : (waiting between : ℕ) → waiting * least waiting between ≤ most_wait
all_in waiting between =
    let part = div-mul-le_self most_wait waiting in
    let less : least waiting between ≤ most_wait / waiting = omega arith in
    let product = mul-le-mul_left waiting less in
    omega (arith, part, product)

-- what more waiting makes of a pace: no later than so much from now on, no farther apart than their number allows, nor than before
pub record Closer (waiting between now : ℕ) (old new : Pace) : Type 0 where
  pub apart : new.between ≤ least waiting between
  pub soon : new.next ≤ now + new.between
  pub there : 0 < new.next

paced_is : (waiting between now : ℕ) (pace : Pace) → 0 < waiting → 0 < now → Closer waiting between now pace (paced waiting between now pace)
paced_is waiting between now pace some shown =
    let not_none : (waiting == 0) ≡ false = ne_eqb waiting 0 (λ none. absurd (omega (arith, none, some))) in
    elim (cases_Bool (pace.next == 0)) [
      | inl e ↦ rw (not_none, e) (record { apart = omega arith; soon = omega arith; there = shown })
      | inr e ↦
          let later : 0 < pace.next = elim (cases_eq pace.next 0) [
            | inl is_none ↦ absurd (eqb-false pace.next 0 e is_none)
            | inr more ↦ omega (arith, more)
          ] in
          rw (not_none, e) (record { apart = omega arith; soon = omega arith; there = omega (arith, later, shown) })
    ]

paced_keeps : (waiting between now : ℕ) (pace : Pace) → 0 < waiting → 0 < pace.next → paced waiting between now pace ≡ closer (least waiting between) now pace
paced_keeps waiting between now pace some later =
    let not_none : (waiting == 0) ≡ false = ne_eqb waiting 0 (λ none. absurd (omega (arith, none, some))) in
    let not_first : (pace.next == 0) ≡ false = ne_eqb pace.next 0 (λ none. absurd (omega (arith, none, later))) in
    rw (not_none, not_first) refl

-- ---- all go in time

-- of those that waited, the last goes by then
record InTime (all went end : ℕ) (state : State) : Type 0 where
  wait : all ≤ went + state.waiting
  there : 0 < state.pace.next
  due : state.pace.next + (all - went - 1) * state.pace.between ≤ end

begins : (start : State) (count between now : ℕ) → 0 < now → 0 < start.waiting + count
    → InTime (start.waiting + count) 0 (now + most_wait) (after (More count between now) start)
begins start count between now shown some =
    let w = start.waiting + count in
    let it = paced_is w between now start.pace some shown in
    let b = (paced w between now start.pace).between in
    let product = mul-le-mul_left w it.apart in
    let all = all_in w between in
    let one_less : b + (w - 0 - 1) * b ≡ w * b = one_more w b some in
    record { wait = omega arith; there = it.there; due = omega (arith, it.soon, one_less, product, all) }
  where
    one_more : (w b : ℕ) → 0 < w → b + (w - 0 - 1) * b ≡ w * b
    one_more zero b some = absurd (omega (arith, some))
    one_more (suc w) b some =
        let same : suc w - 0 - 1 ≡ w = omega arith in
        let grows : b + w * b ≡ suc w * b = omega arith in
        ap (λ n. b + n * b) same ∙ grows

more_in_time : (all went end count between now : ℕ) (state : State) → 0 < now → went < all → InTime all went end state
    → InTime all went end (after (More count between now) state)
more_in_time all went end count between now state shown some it =
    let w = state.waiting + count in
    let waits : 0 < w = omega (arith, some, it.wait) in
    let is = paced_keeps w between now state.pace waits it.there in
    let new = closer (least w between) now state.pace in
    let less : new.between ≤ state.pace.between = omega arith in
    let product = mul-le-mul_left (all - went - 1) less in
    let sooner : new.next ≤ state.pace.next = omega arith in
    let there : 0 < new.next = omega (arith, it.there, shown) in
    subst (λ (p : Pace). InTime all went end (record { pace = p; waiting = w })) (sym is)
    (record { wait = omega (arith, it.wait); there = there; due = omega (arith, it.due, product, sooner) })

-- one of them goes, or isn't due
next_of : Pace → ℕ
next_of pace = min (pace.next + pace.between) largest

gone_is : (waiting now : ℕ) (pace : Pace) → goes waiting now pace ≡ true → 1 < waiting
    → gone waiting now pace ≡ (record { next = next_of pace; between = pace.between })
unfolding next_of
gone_is waiting now pace is more =
    let not_last : (waiting == 1) ≡ false = ne_eqb waiting 1 (λ one. absurd (omega (arith, one, more))) in
    rw (is, not_last) refl

ask_in_time : (all went end now : ℕ) (state : State) → went < all → went + leaving (Ask now) state < all → InTime all went end state
    → InTime all (went + leaving (Ask now) state) end (after (Ask now) state)
unfolding next_of
ask_in_time all went end now state some left it = elim (cases_Bool (goes state.waiting now state.pace)) [
  | inr stays ↦ by_stay stays
  | inl is ↦ by_go is
]
  where
    by_stay : goes state.waiting now state.pace ≡ false → InTime all (went + leaving (Ask now) state) end (after (Ask now) state)
    by_stay stays = rw stays
        (subst (λ n. InTime all n end (record { pace = state.pace; waiting = state.waiting - 0 })) (omega arith)
        (record { wait = omega (arith, it.wait); there = it.there; due = it.due }))

    by_go : goes state.waiting now state.pace ≡ true → InTime all (went + leaving (Ask now) state) end (after (Ask now) state)
    by_go is =
        let one : leaving (Ask now) state ≡ 1 = rw is refl in
        let more : 1 < state.waiting = omega (arith, left, one, it.wait) in
        let pace = gone_is state.waiting now state.pace is more in
        let between = state.pace.between in
        let sum = one_less (all - went - 1) between (omega (arith, left, one)) in
        let there : 0 < next_of state.pace = omega (arith, it.there) in
        rw (one, pace) (record { wait = omega (arith, it.wait, more); there = there; due = due_then sum })
      where
        one_less : (n b : ℕ) → 0 < n → b + (n - 1) * b ≡ n * b
        one_less zero b some = absurd (omega (arith, some))
        one_less (suc n) b some =
            let same : suc n - 1 ≡ n = omega arith in
            let grows : b + n * b ≡ suc n * b = omega arith in
            ap (λ k. b + k * b) same ∙ grows

        due_then : state.pace.between + (all - went - 1 - 1) * state.pace.between ≡ (all - went - 1) * state.pace.between
            → next_of state.pace + (all - (went + 1) - 1) * state.pace.between ≤ end
        due_then sum =
            let same : all - (went + 1) - 1 ≡ all - went - 1 - 1 = omega arith in
            let product : (all - (went + 1) - 1) * state.pace.between ≡ (all - went - 1 - 1) * state.pace.between = ap (λ n. n * state.pace.between) same in
            omega (arith, it.due, sum, product)

in_time : (all end : ℕ) (start : State) (history : History) → IsShown history → left_since start history < all → InTime all 0 end start
    → InTime all (left_since start history) end (state_after start history)
in_time all end start [] shown left it = it
in_time all end start (More count between now ∷ earlier) shown left it =
    let before = in_time all end start earlier shown.1 (omega (arith, left)) it in
    let same : left_since start earlier + 0 ≡ left_since start earlier = omega arith in
    subst (λ n. InTime all n end (state_after start (More count between now ∷ earlier))) (sym same)
    (more_in_time all (left_since start earlier) end count between now (state_after start earlier) shown.0 (omega (arith, left)) before)
in_time all end start (Ask now ∷ earlier) shown left it =
    let before = in_time all end start earlier shown.1 (omega (arith, left)) it in
    ask_in_time all (left_since start earlier) end now (state_after start earlier) (omega (arith, left)) left before

pub all_in_time : (start : State) (count between now later : ℕ) (history : History) → 0 < now → IsShown history
    → left_since (after (More count between now) start) history < start.waiting + count → now + most_wait ≤ later
    → goes_at later (state_after (after (More count between now) start) history)
all_in_time start count between now later history shown all_shown left end =
    let first = after (More count between now) start in
    let it = in_time (start.waiting + count) (now + most_wait) first history all_shown left (begins start count between now shown (omega (arith, left))) in
    let state = state_after first history in
    goes_then state.waiting later state.pace (omega (arith, left, it.wait)) (omega (arith, it.due, end))

-- ---- none goes too early

record Apart (apart begin went time : ℕ) (state : State) : Type 0 where
  there : 0 < state.pace.next
  between : apart ≤ state.pace.between
  before : begin + went * apart ≤ time + apart
  next : (begin + went * apart ≤ state.pace.next) ⊎ (state.pace.next ≡ largest)

more_apart : (apart begin went time count between now : ℕ) (state : State) → 0 < state.waiting → time ≤ now → 0 < now → apart ≤ least (state.waiting + count) between
    → Apart apart begin went time state → Apart apart begin went now (after (More count between now) state)
more_apart apart begin went time count between now state some later shown room it =
    let w = state.waiting + count in
    let is = paced_keeps w between now state.pace (omega (arith, some)) it.there in
    let new = closer (least w between) now state.pace in
    let wide : apart ≤ new.between = omega (arith, room, it.between) in
    let there : 0 < new.next = omega (arith, it.there, shown) in
    subst (λ (p : Pace). Apart apart begin went now (record { pace = p; waiting = w })) (sym is)
    (record { there = there; between = wide; before = omega (arith, it.before, later); next = by it.next wide })
  where
    by : (begin + went * apart ≤ state.pace.next) ⊎ (state.pace.next ≡ largest) → apart ≤ min (least (state.waiting + count) between) state.pace.between
        → (begin + went * apart ≤ (closer (least (state.waiting + count) between) now state.pace).next)
        ⊎ ((closer (least (state.waiting + count) between) now state.pace).next ≡ largest)
    by old wide =
        let b = min (least (state.waiting + count) between) state.pace.between in
        elim (cases_lt (now + b) largest) [
          | inl small ↦ elim old [
            | inl low ↦ inl (omega (arith, low, small, it.before, later, wide))
            | inr high ↦ inl (omega (arith, high, small, it.before, later, wide))
          ]
          | inr large ↦ elim old [
            | inl low ↦ elim (cases_lt state.pace.next largest) [
              | inl less ↦ inl (omega (arith, low, large, less))
              | inr past ↦ inr (omega (arith, large, past))
            ]
            | inr high ↦ inr (omega (arith, large, high))
          ]
        ]

ask_apart : (apart begin went time now : ℕ) (state : State) → 0 < (after (Ask now) state).waiting → time ≤ now → now < largest
    → Apart apart begin went time state → Apart apart begin (went + leaving (Ask now) state) now (after (Ask now) state)
unfolding next_of
ask_apart apart begin went time now state some later small it = elim (cases_Bool (goes state.waiting now state.pace)) [
  | inr stays ↦ by_stay stays
  | inl is ↦ by_go is
]
  where
    by_stay : goes state.waiting now state.pace ≡ false → Apart apart begin (went + leaving (Ask now) state) now (after (Ask now) state)
    by_stay stays = rw stays
        (subst (λ n. Apart apart begin n now (record { pace = state.pace; waiting = state.waiting - 0 })) (omega arith)
        (record { there = it.there; between = it.between; before = omega (arith, it.before, later); next = it.next }))

    by_go : goes state.waiting now state.pace ≡ true → Apart apart begin (went + leaving (Ask now) state) now (after (Ask now) state)
    by_go is =
        let due = (goes_now state.waiting now state.pace is).due in
        let one : leaving (Ask now) state ≡ 1 = rw is refl in
        let more : 1 < state.waiting = omega (arith, some, one) in
        let pace = gone_is state.waiting now state.pace is more in
        let low : begin + went * apart ≤ state.pace.next = elim it.next [
          | inl low ↦ low
          | inr high ↦ absurd (omega (arith, high, due, small))
        ] in
        let product : (went + 1) * apart ≡ went * apart + apart = omega arith in
        let next : (begin + (went + 1) * apart ≤ next_of state.pace) ⊎ (next_of state.pace ≡ largest) = elim (cases_lt (state.pace.next + state.pace.between) largest) [
          | inl less ↦ inl (omega (arith, less, low, it.between, product))
          | inr past ↦ inr (omega (arith, past))
        ] in
        rw (one, pace) (record { there = omega (arith, it.there); between = it.between; before = omega (arith, product, low, due); next = next })

no_earlier : (begin : ℕ) (history : History) → GoesOn begin history → begin ≤ latest begin history
no_earlier begin [] goes_on = omega arith
no_earlier begin (event ∷ earlier) goes_on = omega (arith, no_earlier begin earlier goes_on.2, goes_on.0)

still_wait : (start : State) (history : History) → 0 < start.waiting → SomeWait start history → 0 < (state_after start history).waiting
still_wait start [] some wait = some
still_wait start (event ∷ earlier) some wait = wait.0

apart_since : (apart begin : ℕ) (start : State) (history : History) → HaveRoom apart start history → SomeWait start history → 0 < start.waiting → 0 < begin
    → GoesOn begin history → Apart apart begin 0 begin start → Apart apart begin (left_since start history) (latest begin history) (state_after start history)
apart_since apart begin start [] room wait some shown goes_on it = it
apart_since apart begin start (More count between now ∷ earlier) room wait some shown goes_on it =
    let before = apart_since apart begin start earlier room.1 wait.1 some shown goes_on.2 it in
    let same : left_since start earlier + 0 ≡ left_since start earlier = omega arith in
    let waits = still_wait start earlier some wait.1 in
    let late = no_earlier begin earlier goes_on.2 in
    subst (λ n. Apart apart begin n now (state_after start (More count between now ∷ earlier))) (sym same)
    (more_apart apart begin (left_since start earlier) (latest begin earlier) count between now (state_after start earlier) waits goes_on.0 (omega (arith, goes_on.0, late, shown)) room.0 before)
apart_since apart begin start (Ask now ∷ earlier) room wait some shown goes_on it =
    let before = apart_since apart begin start earlier room.1 wait.1 some shown goes_on.2 it in
    ask_apart apart begin (left_since start earlier) (latest begin earlier) now (state_after start earlier) wait.0 goes_on.0 goes_on.1 before

first_apart : (apart count between begin : ℕ) → 0 < count → 0 < begin → apart ≤ least count between
    → Apart apart begin 0 begin (after (More count between begin) nothing)
first_apart apart count between begin some shown room =
    let not_none : (0 + count == 0) ≡ false = ne_eqb (0 + count) 0 (λ none. absurd (omega (arith, none, some))) in
    let same : least (0 + count) between ≡ least count between = ap (λ n. least n between) (omega arith) in
    rw not_none (record { there = shown; between = omega (arith, same, room); before = omega arith; next = inl (omega arith) })

pub not_early : (apart count between begin later : ℕ) (history : History) → 0 < count → 0 < begin → apart ≤ least count between
    → HaveRoom apart (after (More count between begin) nothing) history → SomeWait (after (More count between begin) nothing) history → GoesOn begin history
    → latest begin history ≤ later → later < largest → goes_at later (state_after (after (More count between begin) nothing) history)
    → begin + left_since (after (More count between begin) nothing) history * apart ≤ later
not_early apart count between begin later history some shown room rooms wait goes_on late fits goes_then =
    let first = after (More count between begin) nothing in
    let it = apart_since apart begin first history rooms wait (omega (arith, some)) shown goes_on (first_apart apart count between begin some shown room) in
    let state = state_after first history in
    let due = (goes_now state.waiting later state.pace goes_then).due in
    elim it.next [
      | inl low ↦ omega (arith, low, due)
      | inr high ↦ absurd (omega (arith, high, due, fits))
    ]
