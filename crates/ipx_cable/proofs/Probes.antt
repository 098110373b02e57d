-- Which links are shut after any probes.
use Rattle.std.proofs.Common.{◌≡◌, ◌⊎◌, ◌↔◌, ◌∙◌, refl, sym, ap, subst, arith, ℕ, ◌+◌, ◌-◌, ◌<◌, ◌≤◌, inl, inr, Bool, true, false, ◌&&◌, not, nat_lt, List, [], ◌∷◌, ◌++◌, length, map, get_or, set, replicate, length-set}
use Rattle.std.proofs.lemmas.Bool.{cases_Bool, cases_eq, cases_lt, and_parts, and_from, not-true, not_from_false, ltb-true, lt-ltb, cond-true}
use Rattle.std.proofs.lemmas.List.{get_or-set_same, get_or-set_other, get_or-map, get_or-replicate, get_or_past, set_past, length-map, length-replicate}
use Rattle.ipx_cable.specs.Loops.{shut_now, is_shut, is_late, left_here, left_there}
use Rattle.ipx_cable.specs.Probing.{Event, Probe, Second, History, left_at, both, lefts, left_after, seconds, Shuts, Unshut, Alone, CameLately, IsCable}

-- ---- one event

-- a link that is set has what it is set to, if it is there; another has what it had
one_set : (link at left : ℕ) (lefts : List ℕ)
    → (left_at link (set lefts at left) ≡ left_at link lefts) ⊎ ((link ≡ at) × (left_at link (set lefts at left) ≡ left))
one_set link at left lefts = elim (cases_eq link at) [
  | inr other ↦ inl (get_or-set_other lefts at link left 0 other)
  | inl same ↦ elim (cases_lt at (length lefts)) [
    | inl within ↦ inr (same, ap (λ k. get_or (set lefts at left) k 0) same ∙ get_or-set_same lefts at left 0 within)
    | inr past ↦ inl (ap (λ l. get_or l link 0) (set_past lefts at left past))
  ]
]

-- a link keeps what it has left, or is shut by a probe that concerns it
Kept : (link here there sent now : ℕ) (old new : ℕ) → Type 0
Kept link here there sent now old new = (new ≡ old) ⊎ ((new ≡ shut_now) × Shuts link (Probe here there sent now))

kept_here : (here there sent now left : ℕ) → Kept here here there sent now left (left_here here there sent now left)
unfolding Kept
kept_here here there sent now left = elim (cases_Bool (not (is_late sent now) && nat_lt there here)) [
  | inl e ↦
      let (in_time, earlier) = and_parts (not (is_late sent now)) (nat_lt there here) e in
      inr (rw e refl, (not-true (is_late sent now) in_time, inl (refl, ltb-true there here earlier)))
  | inr e ↦ inl (rw e refl)
]

kept_there : (here there sent now left : ℕ) → Kept there here there sent now left (left_there here there sent now left)
unfolding Kept
kept_there here there sent now left = elim (cases_Bool (not (is_late sent now) && (nat_lt here there && not (is_shut left)))) [
  | inl e ↦
      let (in_time, rest) = and_parts (not (is_late sent now)) (nat_lt here there && not (is_shut left)) e in
      let (earlier, not_shut) = and_parts (nat_lt here there) (not (is_shut left)) rest in
      inr (rw e refl, (not-true (is_late sent now) in_time, inr (refl, ltb-true here there earlier)))
  | inr e ↦ inl (rw e refl)
]

after_here : (link here there sent now : ℕ) (lefts : List ℕ)
    → Kept link here there sent now (left_at link lefts) (left_at link (set lefts here (left_here here there sent now (left_at here lefts))))
unfolding Kept
after_here link here there sent now lefts = elim (one_set link here (left_here here there sent now (left_at here lefts)) lefts) [
  | inl same ↦ inl same
  | inr it ↦
      let at : here ≡ link = sym it.0 in
      let kept : Kept link here there sent now (left_at link lefts) (left_here here there sent now (left_at here lefts)) =
      subst (λ k. Kept k here there sent now (left_at k lefts) (left_here here there sent now (left_at here lefts))) at (kept_here here there sent now (left_at here lefts)) in
      subst (λ n. Kept link here there sent now (left_at link lefts) n) (sym it.1) kept
]

step : (link here there sent now : ℕ) (lefts : List ℕ) → Kept link here there sent now (left_at link lefts) (left_at link (both here there sent now lefts))
unfolding Kept
step link here there sent now lefts =
    let first = set lefts here (left_here here there sent now (left_at here lefts)) in
    let before = after_here link here there sent now lefts in
    elim (one_set link there (left_there here there sent now (left_at there first)) first) [
      | inl same ↦ subst (λ n. Kept link here there sent now (left_at link lefts) n) (sym same) before
      | inr it ↦
          let at : there ≡ link = sym it.0 in
          let kept : Kept link here there sent now (left_at link first) (left_there here there sent now (left_at there first)) =
          subst (λ k. Kept k here there sent now (left_at k first) (left_there here there sent now (left_at there first))) at (kept_there here there sent now (left_at there first)) in
          elim kept [
            | inr shut ↦ inr (it.1 ∙ shut.0, shut.1)
            | inl same ↦ subst (λ n. Kept link here there sent now (left_at link lefts) n) (sym (it.1 ∙ same)) before
          ]
    ]

second_at : (link : ℕ) (lefts : List ℕ) → left_at link (map (λ left. left - 1) lefts) ≡ left_at link lefts - 1
second_at link lefts = elim (cases_lt link (length lefts)) [
  | inl within ↦ get_or-map (λ left. left - 1) lefts link 0 0 within
  | inr past ↦
      let nothing : left_at link lefts ≡ 0 = get_or_past lefts link 0 past in
      let long = length-map lefts (λ left. left - 1) in
      get_or_past (map (λ left. left - 1) lefts) link 0 (omega (arith, past, long)) ∙ omega (arith, nothing)
]

at_first : (count link : ℕ) → left_at link (replicate count 0) ≡ 0
at_first count link = elim (cases_lt link count) [
  | inl within ↦ get_or-replicate count link 0 0 within
  | inr past ↦
      let long : length (replicate {A = ℕ} count 0) ≡ count = length-replicate count 0 in
      get_or_past (replicate count 0) link 0 (omega (arith, past, long))
]

-- ---- any events

most : (count link : ℕ) (history : History) → left_after count link history ≤ shut_now
unfolding Kept
most count link [] = omega (arith, at_first count link)
most count link (Second ∷ earlier) = omega (arith, second_at link (lefts count earlier), most count link earlier)
most count link (Probe here there sent now ∷ earlier) = elim (step link here there sent now (lefts count earlier)) [
  | inl same ↦ omega (arith, same, most count link earlier)
  | inr shut ↦ omega (arith, shut.0)
]

pub stays_open : (count link : ℕ) (history : History) → Unshut link history → left_after count link history ≡ 0
unfolding Kept
stays_open count link [] none = at_first count link
stays_open count link (Second ∷ earlier) none = omega (arith, second_at link (lefts count earlier), stays_open count link earlier none.1)
stays_open count link (Probe here there sent now ∷ earlier) none = elim (step link here there sent now (lefts count earlier)) [
  | inl same ↦ same ∙ stays_open count link earlier none.1
  | inr shut ↦ absurd (none.0 shut.1)
]

never_first : (event : Event) → Shuts 0 event → ⊥
never_first (Probe here there sent now) (in_time, inl (at, before)) = absurd (omega (arith, before))
never_first (Probe here there sent now) (in_time, inr (at, before)) = absurd (omega (arith, before))
never_first Second never = never

unshut_first : (history : History) → Unshut 0 history
unshut_first [] = tt
unshut_first (event ∷ earlier) = (never_first event, unshut_first earlier)

pub first_open : (count : ℕ) (history : History) → left_after count 0 history ≡ 0
first_open count history = stays_open count 0 history (unshut_first history)

-- what a link has left is no less than it was, but for the seconds that passed
stays : (count link : ℕ) (later earlier : History) → left_after count link earlier ≤ left_after count link (later ++ earlier) + seconds later
unfolding Kept
stays count link [] earlier = omega arith
stays count link (Second ∷ later) earlier = omega (arith, second_at link (lefts count (later ++ earlier)), stays count link later earlier)
stays count link (Probe here there sent now ∷ later) earlier = elim (step link here there sent now (lefts count (later ++ earlier))) [
  | inl same ↦ omega (arith, same, stays count link later earlier)
  | inr shut ↦ omega (arith, shut.0, most count link earlier)
]

-- and no more, where no probe concerns it
fades : (count link : ℕ) (later earlier : History) → Unshut link later → left_after count link (later ++ earlier) ≤ shut_now - seconds later
unfolding Kept
fades count link [] earlier none = omega (arith, most count link earlier)
fades count link (Second ∷ later) earlier none = omega (arith, second_at link (lefts count (later ++ earlier)), fades count link later earlier none.1)
fades count link (Probe here there sent now ∷ later) earlier none = elim (step link here there sent now (lefts count (later ++ earlier))) [
  | inl same ↦ omega (arith, same, fades count link later earlier none.1)
  | inr shut ↦ absurd (none.0 shut.1)
]

pub opens_again : (count link : ℕ) (later earlier : History) → Unshut link later → shut_now ≤ seconds later → left_after count link (later ++ earlier) ≡ 0
opens_again count link later earlier none passed = omega (arith, passed, fades count link later earlier none)

-- ---- a probe that shuts

long_both : (here there sent now : ℕ) (lefts : List ℕ) → length (both here there sent now lefts) ≡ length lefts
long_both here there sent now lefts =
    length-set (set lefts here (left_here here there sent now (left_at here lefts))) there _ ∙ length-set lefts here _

long : (count : ℕ) (history : History) → length (lefts count history) ≡ count
long count [] = length-replicate count 0
long count (Second ∷ earlier) = length-map (lefts count earlier) (λ left. left - 1) ∙ long count earlier
long count (Probe here there sent now ∷ earlier) = long_both here there sent now (lefts count earlier) ∙ long count earlier

just_shut : (here there sent now : ℕ) (lefts : List ℕ) → here < length lefts → there < here → is_late sent now ≡ false
    → left_at here (both here there sent now lefts) ≡ shut_now
just_shut here there sent now lefts within before in_time =
    let shuts : (not (is_late sent now) && nat_lt there here) ≡ true =
    and_from (not (is_late sent now)) (nat_lt there here) (not_from_false (is_late sent now) in_time) (lt-ltb there here before) in
    get_or-set_other (set lefts here (left_here here there sent now (left_at here lefts))) there here _ 0 (λ same. absurd (omega (arith, same, before)))
    ∙ get_or-set_same lefts here (left_here here there sent now (left_at here lefts)) 0 within
    ∙ cond-true (not (is_late sent now) && nat_lt there here) shut_now (left_at here lefts) shuts

pub is_shut_still : (count here there : ℕ) (history : History) → here < count → there < here → CameLately here there history → 0 < left_after count here history
is_shut_still count here there history within before came =
    let earlier = Probe here there came.sent came.now ∷ came.earlier in
    let shut = just_shut here there came.sent came.now (lefts count came.earlier) (omega (arith, within, long count came.earlier)) before came.in_time in
    let still = stays count here came.later earlier in
    let some : 0 < left_after count here (came.later ++ earlier) = omega (arith, shut, still, came.lately) in
    subst (λ (h : History). 0 < left_after count here h) (sym came.event) some

-- ---- one cable

unshut_alone : (is_in : ℕ → Bool) (first : ℕ) (history : History) → is_in first ≡ true → ((link : ℕ) → is_in link ≡ true → first ≤ link)
    → Alone is_in history → Unshut first history
unshut_alone is_in first [] has least alone = tt
unshut_alone is_in first (Second ∷ earlier) has least alone = ((λ never. never), unshut_alone is_in first earlier has least alone)
unshut_alone is_in first (Probe here there sent now ∷ earlier) has least alone = (never, unshut_alone is_in first earlier has least alone.1)
  where
    never : Shuts first (Probe here there sent now) → ⊥
    never (in_time, inl (at, before)) =
        let low = least there (sym alone.0 ∙ ap is_in at ∙ has) in
        absurd (omega (arith, low, before))
    never (in_time, inr (at, before)) =
        let low = least here (alone.0 ∙ ap is_in at ∙ has) in
        absurd (omega (arith, low, before))

pub one_open : (is_in : ℕ → Bool) (first count : ℕ) (history : History) → IsCable is_in first count history
    → (link : ℕ) → link < count → is_in link ≡ true → (left_after count link history ≡ 0) ↔ (link ≡ first)
one_open is_in first count history cable link within member = (
  (λ none. elim (cases_eq link first) [
    | inl same ↦ same
    | inr other ↦
        let low = cable.first_of_all link member in
        let before : first < link = omega (arith, low, other) in
        let some = is_shut_still count link first history within before (cable.probed link within member other) in
        absurd (omega (arith, none, some))
  ]),
  (λ same. ap (λ k. left_after count k history) same ∙ stays_open count first history (unshut_alone is_in first history cable.has cable.first_of_all cable.alone)),
)
