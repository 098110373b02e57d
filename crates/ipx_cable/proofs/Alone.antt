-- No station is known twice, and each in the kind in which it spoke.
use Rattle.std.proofs.Common.{◌≡◌, ◌≢◌, ◌∙◌, refl, sym, ap, subst, arith, ℕ, ◌+◌, ◌-◌, ◌<◌, inl, inr, Bool, true, false, cond, ◌&&◌, ◌==◌, not, nat_lt, List, [], ◌∷◌, filter, map, Option, None, Some}
use Rattle.std.proofs.lemmas.Bool.{cases_Bool, cases_eq, both_ways, and_parts, and_cases, and_from, not-false, not-true, eqb-false, ltb-true, lt-ltb, false_from_ne_true}
use Rattle.ipx_cable.specs.declared.station.Station.{Station}
use Rattle.ipx_cable.specs.Stations.{is_kind, same_node, station_lasts, stays, is_known, is_of, aged, all_aged, heard, is_another, has_another, place, put, after_word}
use Rattle.ipx_cable.specs.Kinds.{stations_at, bucket_of, is_heard}
use Rattle.ipx_cable.specs.History.{Word, Second, History, Hashes, known}
use Rattle.ipx_cable.specs.Laws.{SpokeIn}
use Rattle.ipx_cable.proofs.Filters.{filter_mapped}
use Rattle.ipx_cable.proofs.Nodes.{same_is}
use Rattle.ipx_cable.proofs.Places.{one_found, other_word, own_word, new_word}
use Rattle.ipx_cable.proofs.Buckets.{whole, at_first, at_second, at_unheard, at_word, at_word_there, at_word_elsewhere}

-- ---- where and when it spoke

spoke_now : (node : List ℕ) (kind : ℕ) (is_for_all : Bool) (history : History) → SpokeIn node kind station_lasts (Word node kind is_for_all ∷ history)
spoke_now node kind is_for_all history = record { later = []; is_for_all = is_for_all; earlier = history; event = refl; lately = refl; others = tt }

spoke_before_word : (node from : List ℕ) (kind other left : ℕ) (is_for_all : Bool) (history : History) → SpokeIn node kind left history
    → (same_node from node ≡ true → is_kind other ≡ true → (other ≢ kind) × (station_lasts < left + stays))
    → SpokeIn node kind left (Word from other is_for_all ∷ history)
spoke_before_word node from kind other left is_for_all history spoke fits = record {
  later = Word from other is_for_all ∷ spoke.later;
  is_for_all = spoke.is_for_all;
  earlier = spoke.earlier;
  event = ap (λ h. Word from other is_for_all ∷ h) spoke.event;
  lately = spoke.lately;
  others = (λ same valid. let f = fits same valid in (f.0, omega (arith, f.1, spoke.lately)), spoke.others);
}

spoke_before_second : (node : List ℕ) (kind left : ℕ) (history : History) → 0 < left → SpokeIn node kind left history
    → SpokeIn node kind (left - 1) (Second ∷ history)
spoke_before_second node kind left history some spoke = record {
  later = Second ∷ spoke.later;
  is_for_all = spoke.is_for_all;
  earlier = spoke.earlier;
  event = ap (λ h. Second ∷ h) spoke.event;
  lately = omega (arith, some, spoke.lately);
  others = spoke.others;
}

-- ---- those with one node

pub data Alone (node : List ℕ) (history : History) (xs : List Station) : Type 0 where
  nobody_there : filter (is_of node) xs ≡ [] → Alone node history xs
  somebody : (s : Station) → filter (is_of node) xs ≡ s ∷ [] → SpokeIn node s.kind s.left history → Alone node history xs

alone_same : (node : List ℕ) (history : History) (xs ys : List Station) → filter (is_of node) ys ≡ filter (is_of node) xs → Alone node history xs → Alone node history ys
alone_same node history xs ys same (nobody_there none) = nobody_there (same ∙ none)
alone_same node history xs ys same (somebody s one spoke) = somebody s (same ∙ one) spoke

-- a word of another, or one in a kind that there isn't
alone_other : (node from : List ℕ) (kind : ℕ) (is_for_all : Bool) (history : History) (xs : List Station)
    → (same_node from node ≡ true → is_kind kind ≡ true → ⊥) → Alone node history xs → Alone node (Word from kind is_for_all ∷ history) xs
alone_other node from kind is_for_all history xs never (nobody_there none) = nobody_there none
alone_other node from kind is_for_all history xs never (somebody s one spoke) =
    somebody s one (spoke_before_word node from s.kind kind s.left is_for_all history spoke (λ same valid. absurd (never same valid)))

-- one's own in another kind, just after the last
another_parts : (kind : ℕ) (s : Station) → is_another kind (Some s) ≡ true → (kind ≢ s.kind) × (station_lasts < s.left + stays)
another_parts kind s is =
    let (differs, just) = and_parts (not (s.kind == kind)) (nat_lt 295 s.left) is in
    let late = ltb-true 295 s.left just in
    (λ same. eqb-false s.kind kind (not-true (s.kind == kind) differs) (sym same), omega (arith, late))

alone_just : (node : List ℕ) (kind : ℕ) (is_for_all : Bool) (history : History) (xs : List Station) → has_another node kind xs ≡ true
    → Alone node history xs → Alone node (Word node kind is_for_all ∷ history) xs
alone_just node kind is_for_all history xs another (nobody_there none) = nobody_there none
alone_just node kind is_for_all history xs another (somebody s one spoke) =
    let parts = another_parts kind s (ap (is_another kind) (sym (one_found node xs s one)) ∙ another) in
    somebody s one (spoke_before_word node node s.kind kind s.left is_for_all history spoke (λ same valid. parts))

-- one's own that counts
alone_heard : (node : List ℕ) (kind : ℕ) (is_for_all : Bool) (history : History) (xs : List Station) → is_kind kind ≡ true
    → (o : Option ℕ) → place node xs ≡ o → Alone node history xs → Alone node (Word node kind is_for_all ∷ history) (put o (heard node kind) xs)
alone_heard node kind is_for_all history xs valid o is (somebody s one spoke) =
    somebody (heard node kind) (own_word node kind xs s valid one o is) (spoke_now node kind is_for_all history)
alone_heard node kind is_for_all history xs valid None is (nobody_there none) = nobody_there none
alone_heard node kind is_for_all history xs valid (Some index) is (nobody_there none) =
    somebody (heard node kind) (new_word node kind xs valid none index is) (spoke_now node kind is_for_all history)

alone_counted : (node : List ℕ) (kind : ℕ) (is_for_all : Bool) (history : History) (xs : List Station) → is_kind kind ≡ true
    → Alone node history xs → Alone node (Word node kind is_for_all ∷ history) (after_word node kind xs)
alone_counted node kind is_for_all history xs valid alone = elim (cases_Bool (has_another node kind xs)) [
  | inl e ↦ rw e (alone_just node kind is_for_all history xs e alone)
  | inr e ↦ rw e (alone_heard node kind is_for_all history xs valid (place node xs) refl alone)
]

-- ---- a second

still_known : (node : List ℕ) (s : Station) → is_of node (aged s) ≡ true → (is_of node s ≡ true) × (0 < s.left - 1)
still_known node s is =
    let (known_then, same) = and_parts (is_known (aged s)) (same_node s.node node) is in
    let (some, valid) = and_parts (nat_lt 0 (s.left - 1)) (is_kind s.kind) known_then in
    let more = ltb-true 0 (s.left - 1) some in
    let known_now = and_from (nat_lt 0 s.left) (is_kind s.kind) (lt-ltb 0 s.left (omega (arith, more))) valid in
    (and_from (is_known s) (same_node s.node node) known_now same, more)

pub known_longer : (node : List ℕ) (s : Station) → is_of node s ≡ true → 0 < s.left - 1 → is_of node (aged s) ≡ true
known_longer node s is more =
    let (known_now, same) = and_parts (is_known s) (same_node s.node node) is in
    let (some, valid) = and_parts (nat_lt 0 s.left) (is_kind s.kind) known_now in
    and_from (is_known (aged s)) (same_node s.node node) (and_from (nat_lt 0 (s.left - 1)) (is_kind s.kind) (lt-ltb 0 (s.left - 1) more) valid) same

pub second_filter : (node : List ℕ) (xs : List Station) → filter (is_of node) (all_aged xs) ≡ filter (is_of node) (map aged (filter (is_of node) xs))
second_filter node xs =
    filter_mapped (is_of node) aged (λ s not_now. false_from_ne_true (is_of node (aged s)) (λ then. both_ways (is_of node s) not_now (still_known node s then).0)) xs

alone_second : (node : List ℕ) (history : History) (xs : List Station) → Alone node history xs → Alone node (Second ∷ history) (all_aged xs)
alone_second node history xs (nobody_there none) = nobody_there (second_filter node xs ∙ ap (λ l. filter (is_of node) (map aged l)) none)
alone_second node history xs (somebody s one spoke) =
    let all : filter (is_of node) (all_aged xs) ≡ cond (is_of node (aged s)) (aged s ∷ []) [] = second_filter node xs ∙ ap (λ l. filter (is_of node) (map aged l)) one in
    elim (cases_Bool (is_of node (aged s))) [
      | inl e ↦
          let more = (still_known node s e).1 in
          somebody (aged s) (all ∙ rw e refl) (spoke_before_second node s.kind s.left history (omega (arith, more)) spoke)
      | inr e ↦ nobody_there (all ∙ rw e refl)
    ]

-- ---- after any history

-- what another says changes nothing
pub others_stay : (hash : Hashes) (history : History) (node other : List ℕ) (kind : ℕ) (is_for_all : Bool) → same_node other node ≡ false
    → filter (is_of node) (stations_at (hash node) (known hash (Word other kind is_for_all ∷ history))) ≡ filter (is_of node) (stations_at (hash node) (known hash history))
others_stay hash history node other kind is_for_all differ =
    let before = known hash history in
    elim (cases_eq (bucket_of (hash node)) (bucket_of (hash other))) [
      | inl same ↦ elim (cases_Bool (is_heard (hash other) other kind is_for_all before)) [
        | inl e ↦
            ap (λ xs. filter (is_of node) xs) (at_word_there (hash node) (hash other) other kind is_for_all before (whole hash history) same e)
            ∙ other_word node other kind (stations_at (hash node) before) differ
        | inr e ↦ ap (λ xs. filter (is_of node) xs) (at_unheard (hash node) (hash other) other kind is_for_all before e)
      ]
      | inr elsewhere ↦ ap (λ xs. filter (is_of node) xs) (at_word_elsewhere (hash node) (hash other) other kind is_for_all before elsewhere)
    ]

-- a word that doesn't count is in no kind, or just after another
unheard : (node : List ℕ) (kind : ℕ) (is_for_all : Bool) (xs : List Station) → (is_kind kind && not (is_for_all && has_another node kind xs)) ≡ false
    → is_kind kind ≡ true → has_another node kind xs ≡ true
unheard node kind is_for_all xs is valid = elim (and_cases (is_kind kind) (not (is_for_all && has_another node kind xs)) is) [
  | inl invalid ↦ absurd (both_ways (is_kind kind) invalid valid)
  | inr copy ↦ (and_parts is_for_all (has_another node kind xs) (not-false (is_for_all && has_another node kind xs) copy)).1
]

alone_own : (hash : Hashes) (history : History) (node : List ℕ) (kind : ℕ) (is_for_all : Bool) → Alone node history (stations_at (hash node) (known hash history))
    → Alone node (Word node kind is_for_all ∷ history) (stations_at (hash node) (known hash (Word node kind is_for_all ∷ history)))
alone_own hash history node kind is_for_all alone =
    let before = known hash history in
    let xs = stations_at (hash node) before in
    elim (cases_Bool (is_heard (hash node) node kind is_for_all before)) [
      | inl e ↦
          subst (λ (ys : List Station). Alone node (Word node kind is_for_all ∷ history) ys) (sym (at_word (hash node) node kind is_for_all before (whole hash history) e))
          (alone_counted node kind is_for_all history xs (and_parts (is_kind kind) (not (is_for_all && has_another node kind xs)) e).0 alone)
      | inr e ↦
          subst (λ (ys : List Station). Alone node (Word node kind is_for_all ∷ history) ys) (sym (at_unheard (hash node) (hash node) node kind is_for_all before e))
          (elim (cases_Bool (is_kind kind)) [
            | inl valid ↦ alone_just node kind is_for_all history xs (unheard node kind is_for_all xs e valid) alone
            | inr invalid ↦ alone_other node node kind is_for_all history xs (λ same valid. both_ways (is_kind kind) invalid valid) alone
          ])
    ]

pub alone : (hash : Hashes) (history : History) (node : List ℕ) → Alone node history (stations_at (hash node) (known hash history))
alone hash [] node = nobody_there (ap (λ xs. filter (is_of node) xs) (at_first (hash node)))
alone hash (Second ∷ earlier) node =
    subst (λ (ys : List Station). Alone node (Second ∷ earlier) ys) (sym (at_second (hash node) (known hash earlier) (whole hash earlier)))
    (alone_second node earlier (stations_at (hash node) (known hash earlier)) (alone hash earlier node))
alone hash (Word from kind is_for_all ∷ earlier) node = elim (cases_Bool (same_node from node)) [
  | inl same ↦
      subst (λ (n : List ℕ). Alone node (Word n kind is_for_all ∷ earlier) (stations_at (hash node) (known hash (Word n kind is_for_all ∷ earlier)))) (sym (same_is from node same))
      (alone_own hash earlier node kind is_for_all (alone hash earlier node))
  | inr differ ↦
      alone_same node (Word from kind is_for_all ∷ earlier) (stations_at (hash node) (known hash earlier)) _ (others_stay hash earlier node from kind is_for_all differ)
      (alone_other node from kind is_for_all earlier (stations_at (hash node) (known hash earlier)) (λ same valid. both_ways (same_node from node) differ same) (alone hash earlier node))
]
