-- Of whom it is told that he moves to and fro.
use Rattle.std.proofs.Common.{◌≡◌, ◌≢◌, ◌⊎◌, ◌∙◌, refl, sym, ap, subst, arith, ℕ, ◌+◌, ◌-◌, ◌<◌, ◌≤◌, ◌==◌, inl, inr, Bool, true, false, ◌&&◌, not, nat_lt, List, [], ◌∷◌, ◌++◌, length, get_or, set, length-set, replicate, Option, None, Some}
use Rattle.std.proofs.lemmas.Bool.{cases_Bool, cases_eq, both_ways, and_parts, and_from, not-true, not_from_false, eqb-false, eqb-true, ne_eqb, ltb-false, le-ltb}
use Rattle.std.proofs.lemmas.List.{get_or-set_same, get_or-set_other, get_or-replicate, length-replicate}
use Rattle.std.proofs.lemmas.Option.{none-some}
use Rattle.ipx_cable.specs.declared.twin.Twin.{Twin}
use Rattle.ipx_cable.specs.declared.twins.Twins.{Twins}
use Rattle.ipx_cable.specs.Stations.{same_node}
use Rattle.ipx_cable.specs.Twins.{many, counted, between, no_twin, none_watched, place_of, first_heard, known_of, moves_to, begins, moved_to, told_lately, is_due, told_of, is_told_at, twin_after, twin_at, twin_known, told_link, twins_after}
use Rattle.ipx_cable.specs.Watching.{Heard, Hear, History, watched_after, IsTold, is_of_zeros, StaysAt, latest, GoesOn, moves_since}
use Rattle.ipx_cable.proofs.Nodes.{same_itself, same_is}

few : (node : List ℕ) → place_of node < 64
few node = grind arith

whole : (history : History) → length (watched_after history).list ≡ 64
whole [] = refl
whole (Hear node link second ∷ earlier) = length-set (watched_after earlier).list (place_of node) _ ∙ whole earlier

-- ---- one place

-- what stands at a node's place when another is heard: what stood there, or what becomes of that
Placed : (node other : List ℕ) (link second : ℕ) (twins : Twins) → Type 0
Placed node other link second twins =
    (twin_at node (twins_after other link second twins) ≡ twin_at node twins)
    ⊎ ((twin_at other twins ≡ twin_at node twins)
    × (twin_at node (twins_after other link second twins) ≡ twin_after link second twins.told (twin_known other link twins)))

placed : (node other : List ℕ) (link second : ℕ) (history : History) → Placed node other link second (watched_after history)
unfolding Placed
placed node other link second history = elim (cases_eq (place_of node) (place_of other)) [
  | inr differ ↦ inl (get_or-set_other twins.list (place_of other) (place_of node) _ no_twin differ)
  | inl same ↦
      let few : place_of other < length twins.list = omega (arith, few other, whole history) in
      let there = get_or-set_same twins.list (place_of other) (twin_after link second twins.told (twin_known other link twins)) no_twin few in
      let at = ap (λ k. get_or (twins_after other link second twins).list k no_twin) same in
      let before : twin_at other twins ≡ twin_at node twins = ap (λ k. get_or twins.list k no_twin) (sym same) in
      inr (before, at ∙ there)
]
  where
    twins : Twins
    twins = watched_after history

-- what becomes of one that is heard: nothing, or it has moved, and somebody may have been told
After : (link second told : ℕ) (twin : Twin) → Type 0
After link second told twin =
    ((moves_to link second twin ≡ false) × (twin_after link second told twin ≡ twin))
    ⊎ ((moves_to link second twin ≡ true)
    × ((twin_after link second told twin ≡ moved_to link second twin) ⊎ (twin_after link second told twin ≡ told_of (moved_to link second twin))))

after : (link second told : ℕ) (twin : Twin) → After link second told twin
unfolding After
after link second told twin = elim (cases_Bool (moves_to link second twin)) [
  | inr stays ↦ inl (stays, rw stays refl)
  | inl moves ↦ inr (
    moves,
    elim (cases_Bool (is_due second told (moved_to link second twin))) [
      | inl due ↦ inr (rw (moves, due) refl)
      | inr not_due ↦ inl (rw (moves, not_due) refl)
    ],
  )
]

known_node : (node : List ℕ) (link : ℕ) (twin : Twin) → (known_of node link twin).node ≡ node
known_node node link twin = elim (cases_Bool (same_node twin.node node)) [
  | inl same ↦ rw same (same_is twin.node node same)
  | inr other ↦ rw other refl
]

after_node : (link second told : ℕ) (twin : Twin) → (twin_after link second told twin).node ≡ twin.node
unfolding After
after_node link second told twin = elim (after link second told twin) [
  | inl (stays, is) ↦ ap (λ (t : Twin). t.node) is
  | inr (moves, inl is) ↦ ap (λ (t : Twin). t.node) is
  | inr (moves, inr is) ↦ ap (λ (t : Twin). t.node) is
]

-- ---- who stays

OnLink : List ℕ → ℕ → Twin → Type 0
OnLink node link twin = same_node twin.node node ≡ true → twin.link ≡ link

known_on : (node other : List ℕ) (link at : ℕ) (twin : Twin) → (same_node other node ≡ true → at ≡ link) → OnLink node link twin
    → OnLink node link (known_of other at twin)
unfolding OnLink
known_on node other link at twin fits on = elim (cases_Bool (same_node twin.node other)) [
  | inl same ↦ rw same on
  | inr differ ↦ rw differ fits
]

after_on : (node : List ℕ) (link at second told : ℕ) (twin : Twin) → (same_node twin.node node ≡ true → at ≡ link) → OnLink node link twin
    → OnLink node link (twin_after at second told twin)
unfolding OnLink After
after_on node link at second told twin fits on = elim (after at second told twin) [
  | inl (stays, is) ↦ subst (λ t. OnLink node link t) (sym is) on
  | inr (moves, inl is) ↦ subst (λ t. OnLink node link t) (sym is) fits
  | inr (moves, inr is) ↦ subst (λ t. OnLink node link t) (sym is) fits
]

stays_on : (node : List ℕ) (link : ℕ) (history : History) → is_of_zeros node ≡ false → StaysAt node link history
    → OnLink node link (twin_at node (watched_after history))
unfolding OnLink Placed
stays_on node link [] not_zeros stays =
    let is = get_or-replicate 64 (place_of node) no_twin no_twin (few node) in
    subst (λ t. OnLink node link t) (sym is) (λ same. absurd (both_ways (is_of_zeros node) not_zeros (zeros same)))
  where
    zeros : same_node (replicate 6 0) node ≡ true → is_of_zeros node ≡ true
    zeros same = ap (λ n. same_node n (replicate 6 0)) (sym (same_is (replicate 6 0) node same))
stays_on node link (Hear other at second ∷ earlier) not_zeros (fits, stays) =
    let before = stays_on node link earlier not_zeros stays in
    let twins = watched_after earlier in
    elim (placed node other at second earlier) [
      | inl same ↦ subst (λ t. OnLink node link t) (sym same) before
      | inr (at_place, is) ↦
          let known = known_on node other link at (twin_at other twins) fits (subst (λ t. OnLink node link t) (sym at_place) before) in
          let fits_known : same_node (twin_known other at twins).node node ≡ true → at ≡ link =
          λ same. fits (sym (ap (λ n. same_node n node) (known_node other at (twin_at other twins))) ∙ same) in
          subst (λ t. OnLink node link t) (sym is) (after_on node link at second twins.told (twin_known other at twins) fits_known known)
    ]

-- somebody is told: it moved, and is due then
record Told (link second told : ℕ) (twin : Twin) : Type 0 where
  moves : moves_to link second twin ≡ true
  often : many ≤ (moved_to link second twin).moves
  late : told_lately second told ≡ false

told_is : (node : List ℕ) (link second before : ℕ) (history : History) → IsTold node link second before history
    → is_told_at link second (watched_after history).told (twin_known node link (watched_after history)) ≡ true
told_is node link second before history is = elim (cases_Bool (is_told_at link second twins.told (twin_known node link twins))) [
  | inl told ↦ told
  | inr never ↦ absurd (none-some before (sym (none never) ∙ is))
]
  where
    twins : Twins
    twins = watched_after history

    none : is_told_at link second twins.told (twin_known node link twins) ≡ false → told_link node link second twins ≡ None
    none never = rw never refl

parts_of : (link second told : ℕ) (twin : Twin) → is_told_at link second told twin ≡ true → Told link second told twin
parts_of link second told twin is =
    let moved = moved_to link second twin in
    let (moves, due) = and_parts (moves_to link second twin) (is_due second told moved) is in
    let (often, rest) = and_parts (not (nat_lt moved.moves many)) (not moved.is_told && not (told_lately second told)) due in
    let (untold, late) = and_parts (not moved.is_told) (not (told_lately second told)) rest in
    record {
      moves = moves;
      often = ltb-false moved.moves many (not-true (nat_lt moved.moves many) often);
      late = not-true (told_lately second told) late;
    }

told_parts : (node : List ℕ) (link second before : ℕ) (history : History) → IsTold node link second before history
    → Told link second (watched_after history).told (twin_known node link (watched_after history))
told_parts node link second before history is =
    parts_of link second (watched_after history).told (twin_known node link (watched_after history)) (told_is node link second before history is)

pub who_stays : (node : List ℕ) (link second before : ℕ) (history : History) → is_of_zeros node ≡ false → StaysAt node link history
    → IsTold node link second before history → ⊥
unfolding OnLink
who_stays node link second before history not_zeros stays is =
    let told = told_parts node link second before history is in
    let (another, later) = and_parts (not (twin.link == link)) (not (twin.moved == second)) told.moves in
    eqb-false twin.link link (not-true (twin.link == link) another) (here (known_node node link (twin_at node twins)))
  where
    twins : Twins
    twins = watched_after history

    twin : Twin
    twin = twin_known node link twins

    here : twin.node ≡ node → twin.link ≡ link
    here is_it = known_on node node link link (twin_at node twins) (λ same. refl) (stays_on node link history not_zeros stays)
        (ap (λ n. same_node n node) is_it ∙ same_itself node)

-- ---- when somebody was told last

late_by : (second told : ℕ) → told_lately second told ≡ false → 0 < told → told + between ≤ second
late_by second told not_lately some = elim (cases_Bool (nat_lt (second - told) between)) [
  | inr later ↦
      let enough = ltb-false (second - told) between later in
      omega (arith, enough)
  | inl less ↦
      let there : not (told == 0) ≡ true = not_from_false (told == 0) (ne_eqb told 0 (λ none. absurd (omega (arith, none, some)))) in
      absurd (both_ways (told_lately second told) not_lately (and_from (not (told == 0)) (nat_lt (second - told) between) there less))
]

told_step : (begin : ℕ) (node : List ℕ) (link second : ℕ) (earlier : History) → 0 < begin → begin ≤ (watched_after earlier).told
    → begin ≤ (watched_after (Hear node link second ∷ earlier)).told
told_step begin node link second earlier some before =
    let twins = watched_after earlier in
    elim (cases_Bool (is_told_at link second twins.told (twin_known node link twins))) [
      | inr never ↦ rw never before
      | inl is ↦
          let told = parts_of link second twins.told (twin_known node link twins) is in
          let by = late_by second twins.told told.late (omega (arith, some, before)) in
          rw is (omega (arith, by, before))
    ]

told_since : (begin : ℕ) (later earlier : History) → 0 < begin → begin ≤ (watched_after earlier).told → begin ≤ (watched_after (later ++ earlier)).told
told_since begin [] earlier some since = since
told_since begin (Hear node link second ∷ later) earlier some since =
    told_step begin node link second (later ++ earlier) some (told_since begin later earlier some since)

pub once_a_minute : (first then : List ℕ) (at link from second before last : ℕ) (later earlier : History) → 0 < from → IsTold first at from before earlier
    → IsTold then link second last (later ++ Hear first at from ∷ earlier) → from + between ≤ second
once_a_minute first then at link from second before last later earlier some was is =
    let told : (watched_after (Hear first at from ∷ earlier)).told ≡ from = rw (told_is first at from before earlier was) refl in
    let since = told_since from later (Hear first at from ∷ earlier) some (omega (arith, told)) in
    let parts = told_parts then link second last (later ++ Hear first at from ∷ earlier) is in
    let by = late_by second (watched_after (later ++ Hear first at from ∷ earlier)).told parts.late (omega (arith, some, since)) in
    omega (arith, by, since)

-- ---- how often it moved

record Counted (node : List ℕ) (history : History) (twin : Twin) : Type 0 where
  began : twin.began ≤ latest history
  moves : same_node twin.node node ≡ true → twin.moves ≤ moves_since twin.began node history

-- what is known of another, or begins to be
known_counted : (node other : List ℕ) (at : ℕ) (history : History) (twin : Twin) → Counted node history twin → Counted node history (known_of other at twin)
known_counted node other at history twin it = elim (cases_Bool (same_node twin.node other)) [
  | inl same ↦ rw same it
  | inr differ ↦ rw differ (record { began = omega arith; moves = λ same. omega arith })
]

-- what is heard later takes no move away
more_moves : (begin : ℕ) (node : List ℕ) (heard : Heard) (history : History) → moves_since begin node history ≤ moves_since begin node (heard ∷ history)
more_moves begin node heard history = omega arith

still_counted : (node other : List ℕ) (at second : ℕ) (history : History) (twin : Twin) → latest history ≤ second → Counted node history twin
    → Counted node (Hear other at second ∷ history) twin
still_counted node other at second history twin later it = record {
  began = omega (arith, it.began, later);
  moves = λ same. omega (arith, it.moves same, more_moves twin.began node (Hear other at second) history);
}

-- a move is one more
one_more : (node other : List ℕ) (at second begin : ℕ) (history : History) → same_node other node ≡ true
    → moves_to at second (twin_known other at (watched_after history)) ≡ true → begin ≤ second
    → moves_since begin node (Hear other at second ∷ history) ≡ 1 + moves_since begin node history
one_more node other at second begin history same moves since =
    let is_move : (same_node other node && moves_to at second (twin_known other at (watched_after history))) ≡ true = and_from (same_node other node) _ same moves in
    let is_since : not (nat_lt second begin) ≡ true = not_from_false (nat_lt second begin) (le-ltb second begin since) in
    rw (is_move, is_since) refl

moved_counted : (node other : List ℕ) (at second : ℕ) (history : History) → latest history ≤ second
    → moves_to at second (twin_known other at (watched_after history)) ≡ true → Counted node history (twin_known other at (watched_after history))
    → Counted node (Hear other at second ∷ history) (moved_to at second (twin_known other at (watched_after history)))
moved_counted node other at second history later moves it = elim (cases_Bool (begins second twin)) [
  | inl anew ↦ rw anew (record { began = omega arith; moves = λ same. omega (arith, one second same (omega arith)) })
  | inr goes_on ↦ rw goes_on (record { began = omega (arith, it.began, later); moves = λ same. omega (arith, it.moves same, one twin.began same (omega (arith, it.began, later))) })
]
  where
    twin : Twin
    twin = twin_known other at (watched_after history)

    one : (begin : ℕ) → same_node twin.node node ≡ true → begin ≤ second
        → moves_since begin node (Hear other at second ∷ history) ≡ 1 + moves_since begin node history
    one begin same since =
        let is = ap (λ n. same_node n node) (known_node other at (twin_at other (watched_after history))) in
        one_more node other at second begin history (sym is ∙ same) moves since

after_counted : (node other : List ℕ) (at second : ℕ) (history : History) → latest history ≤ second
    → Counted node history (twin_known other at (watched_after history))
    → Counted node (Hear other at second ∷ history) (twin_after at second (watched_after history).told (twin_known other at (watched_after history)))
unfolding After
after_counted node other at second history later it = elim (after at second (watched_after history).told twin) [
  | inl (stays, is) ↦ subst (λ t. Counted node (Hear other at second ∷ history) t) (sym is) (still_counted node other at second history twin later it)
  | inr (moves, inl is) ↦ subst (λ t. Counted node (Hear other at second ∷ history) t) (sym is) (moved_counted node other at second history later moves it)
  | inr (moves, inr is) ↦
      let moved = moved_counted node other at second history later moves it in
      subst (λ t. Counted node (Hear other at second ∷ history) t) (sym is) (record { began = moved.began; moves = moved.moves })
]
  where
    twin : Twin
    twin = twin_known other at (watched_after history)

counted_at : (node : List ℕ) (history : History) → GoesOn history → Counted node history (twin_at node (watched_after history))
unfolding Placed
counted_at node [] goes_on =
    let is = get_or-replicate 64 (place_of node) no_twin no_twin (few node) in
    subst (λ t. Counted node [] t) (sym is) (record { began = omega arith; moves = λ same. omega arith })
counted_at node (Hear other at second ∷ earlier) (later, goes_on) =
    let before = counted_at node earlier goes_on in
    let twins = watched_after earlier in
    elim (placed node other at second earlier) [
      | inl same ↦ subst (λ t. Counted node (Hear other at second ∷ earlier) t) (sym same) (still_counted node other at second earlier (twin_at node twins) later before)
      | inr (at_place, is) ↦
          let known = known_counted node other at earlier (twin_at other twins) (subst (λ t. Counted node earlier t) (sym at_place) before) in
          subst (λ t. Counted node (Hear other at second ∷ earlier) t) (sym is) (after_counted node other at second earlier later known)
    ]

in_a_minute : (link second : ℕ) (twin : Twin) → second ≤ (moved_to link second twin).began + counted
in_a_minute link second twin = elim (cases_Bool (begins second twin)) [
  | inl anew ↦ rw anew (omega arith)
  | inr goes_on ↦
      let few = ltb-false counted (second - twin.began) goes_on in
      rw goes_on (omega (arith, few))
]

pub who_is_told : (node : List ℕ) (link second before : ℕ) (history : History) → GoesOn (Hear node link second ∷ history)
    → IsTold node link second before history
    → (begin : ℕ) × (second ≤ begin + counted) × (many ≤ moves_since begin node (Hear node link second ∷ history))
who_is_told node link second before history (later, goes_on) is =
    let twins = watched_after history in
    let twin = twin_known node link twins in
    let told = told_parts node link second before history is in
    let known = known_counted node node link history (twin_at node twins) (counted_at node history goes_on) in
    let moved = moved_counted node node link second history later told.moves known in
    let own = ap (λ n. same_node n node) (known_node node link (twin_at node twins)) ∙ same_itself node in
    ((moved_to link second twin).began, in_a_minute link second twin, omega (arith, told.often, moved.moves own))
