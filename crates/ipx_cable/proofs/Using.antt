-- Which kinds are in use.
use Rattle.std.proofs.Common.{◌≡◌, ◌≢◌, ◌∙◌, refl, sym, ap, subst, arith, ℕ, ◌+◌, ◌-◌, ◌<◌, ◌≤◌, inl, inr, Bool, true, false, ◌&&◌, ◌||◌, not, nat_lt, List, [], ◌∷◌, ◌++◌, length, get_or, Option, None, Some}
use Rattle.std.specs.List.{list_any}
use Rattle.std.proofs.lemmas.Bool.{cases_Bool, cases_eq, both_ways, and_parts, and_from, or_right, ltb-true, lt-ltb, not_from_false, false_from_ne_true, eq-eqb}
use Rattle.std.proofs.lemmas.List.{get_or-set_same, get_or-set_other, get_or-map, get_or-replicate}
use Rattle.ipx_cable.specs.declared.station.Station.{Station}
use Rattle.ipx_cable.specs.declared.kinds.Kinds.{Kinds}
use Rattle.ipx_cable.specs.Stations.{is_kind}
use Rattle.ipx_cable.specs.Kinds.{kind_lasts, is_heard, word, later, lasts, is_used, speaks_to, speaks_to_all, is_everybody}
use Rattle.ipx_cable.specs.History.{Event, Word, Second, History, Hashes, known, seconds, station_after, counts_after, is_used_after, speaks_after}
use Rattle.ipx_cable.specs.Laws.{WasHeard}
use Rattle.ipx_cable.proofs.Filters.{any_at}
use Rattle.ipx_cable.proofs.Buckets.{IsWhole, whole}
use Rattle.ipx_cable.proofs.Staying.{valid_kind}

-- what a kind has left
abbrev pub left_of : ℕ → Kinds → ℕ
left_of kind kinds = get_or kinds.left (kind - 1) 0

pub record OneOfFour (kind : ℕ) : Type 0 where
  pub low : 0 < kind
  pub high : kind < 5

pub one_of_four : (kind : ℕ) → is_kind kind ≡ true → OneOfFour kind
one_of_four kind is =
    let (low, high) = and_parts (nat_lt 0 kind) (nat_lt kind 5) is in
    record { low = ltb-true 0 kind low; high = ltb-true kind 5 high }

pub is_one : (kind : ℕ) → 0 < kind → kind < 5 → is_kind kind ≡ true
is_one kind low high = and_from (nat_lt 0 kind) (nat_lt kind 5) (lt-ltb 0 kind low) (lt-ltb kind 5 high)

-- ---- what an event changes

left_unheard : (hash : ℕ) (node : List ℕ) (kind other : ℕ) (is_for_all : Bool) (kinds : Kinds) → is_heard hash node kind is_for_all kinds ≡ false
    → left_of other (word hash node kind is_for_all kinds) ≡ left_of other kinds
left_unheard hash node kind other is_for_all kinds is = rw is refl

left_heard : (hash : ℕ) (node : List ℕ) (kind : ℕ) (is_for_all : Bool) (kinds : Kinds) → IsWhole kinds → is_kind kind ≡ true → is_heard hash node kind is_for_all kinds ≡ true
    → left_of kind (word hash node kind is_for_all kinds) ≡ kind_lasts
left_heard hash node kind is_for_all kinds all valid is =
    let one = one_of_four kind valid in
    let within : kind - 1 < length kinds.left = omega (arith, one.low, one.high, all.left) in
    rw is (get_or-set_same kinds.left (kind - 1) kind_lasts 0 within)

left_other : (hash : ℕ) (node : List ℕ) (kind other : ℕ) (is_for_all : Bool) (kinds : Kinds) → is_kind kind ≡ true → is_kind other ≡ true → kind ≢ other
    → is_heard hash node kind is_for_all kinds ≡ true → left_of other (word hash node kind is_for_all kinds) ≡ left_of other kinds
left_other hash node kind other is_for_all kinds valid valid_other differ is =
    let one = one_of_four kind valid in
    let two = one_of_four other valid_other in
    rw is (get_or-set_other kinds.left (kind - 1) (other - 1) kind_lasts 0 (λ same. differ (omega (arith, same, one.low, two.low))))

left_second : (kind : ℕ) (hash : Hashes) (history : History) → is_kind kind ≡ true → left_of kind (known hash (Second ∷ history)) ≡ left_of kind (known hash history) - 1
left_second kind hash history valid =
    let one = one_of_four kind valid in
    let before = known hash history in
    let within : kind - 1 < length before.left = omega (arith, one.low, one.high, (whole hash history).left) in
    get_or-map later before.left (kind - 1) 0 0 within

-- ---- a kind that is in use was heard

record HeardFor (hash : Hashes) (kind : ℕ) (history : History) (left : ℕ) : Type 0 where
  was : WasHeard hash kind history
  exact : left + seconds was.later ≡ kind_lasts

before_word : (hash : Hashes) (kind left : ℕ) (event : Event) (history : History) → seconds (event ∷ history) ≡ seconds history
    → ((later : History) → seconds (event ∷ later) ≡ seconds later)
    → HeardFor hash kind history left → HeardFor hash kind (event ∷ history) left
before_word hash kind left event history none keeps it = record {
  was = record {
    later = event ∷ it.was.later;
    node = it.was.node;
    is_for_all = it.was.is_for_all;
    earlier = it.was.earlier;
    event = ap (λ h. event ∷ h) it.was.event;
    counted = it.was.counted;
    lately = omega (arith, keeps it.was.later, it.was.lately);
  };
  exact = omega (arith, keeps it.was.later, it.exact);
}

before_second : (hash : Hashes) (kind left : ℕ) (history : History) → 0 < left - 1 → HeardFor hash kind history left
    → HeardFor hash kind (Second ∷ history) (left - 1)
before_second hash kind left history more it = record {
  was = record {
    later = Second ∷ it.was.later;
    node = it.was.node;
    is_for_all = it.was.is_for_all;
    earlier = it.was.earlier;
    event = ap (λ h. Second ∷ h) it.was.event;
    counted = it.was.counted;
    lately = omega (arith, it.exact, more);
  };
  exact = omega (arith, it.exact, more);
}

just_heard : (hash : Hashes) (kind : ℕ) (node : List ℕ) (is_for_all : Bool) (history : History) → counts_after hash node kind is_for_all history ≡ true
    → HeardFor hash kind (Word node kind is_for_all ∷ history) kind_lasts
just_heard hash kind node is_for_all history counts = record {
  was = record { later = []; node = node; is_for_all = is_for_all; earlier = history; event = refl; counted = counts; lately = omega arith };
  exact = refl;
}

was_heard : (hash : Hashes) (history : History) (kind : ℕ) → is_kind kind ≡ true → 0 < left_of kind (known hash history)
    → HeardFor hash kind history (left_of kind (known hash history))
was_heard hash [] kind valid some =
    let one = one_of_four kind valid in
    let nothing_left : left_of kind (known hash []) ≡ 0 = get_or-replicate 4 (kind - 1) 0 0 (omega (arith, one.low, one.high)) in
    absurd (omega (arith, some, nothing_left))
was_heard hash (Second ∷ earlier) kind valid some =
    let is = left_second kind hash earlier valid in
    let more : 0 < left_of kind (known hash earlier) - 1 = omega (arith, some, is) in
    subst (λ n. HeardFor hash kind (Second ∷ earlier) n) (sym is)
    (before_second hash kind (left_of kind (known hash earlier)) earlier more (was_heard hash earlier kind valid (omega (arith, more))))
was_heard hash (Word node other is_for_all ∷ earlier) kind valid some = elim (cases_Bool (counts_after hash node other is_for_all earlier)) [
  | inl counts ↦ elim (cases_eq other kind) [
    | inl same ↦
        let heard : left_of kind (known hash (Word node other is_for_all ∷ earlier)) ≡ kind_lasts =
        subst (λ k. left_of k (known hash (Word node other is_for_all ∷ earlier)) ≡ kind_lasts) same
        (left_heard (hash node) node other is_for_all (known hash earlier) (whole hash earlier) (subst (λ k. is_kind k ≡ true) (sym same) valid) counts) in
        subst (λ n. HeardFor hash kind (Word node other is_for_all ∷ earlier) n) (sym heard)
        (subst (λ k. HeardFor hash kind (Word node k is_for_all ∷ earlier) kind_lasts) (sym same)
        (just_heard hash kind node is_for_all earlier (subst (λ k. counts_after hash node k is_for_all earlier ≡ true) same counts)))
    | inr differ ↦
        let valid_other = (and_parts (is_kind other) _ counts).0 in
        let is = left_other (hash node) node other kind is_for_all (known hash earlier) valid_other valid differ counts in
        subst (λ n. HeardFor hash kind (Word node other is_for_all ∷ earlier) n) (sym is)
        (before_word hash kind (left_of kind (known hash earlier)) (Word node other is_for_all) earlier refl (λ later. refl)
        (was_heard hash earlier kind valid (omega (arith, some, is))))
  ]
  | inr copy ↦
      let is = left_unheard (hash node) node other kind is_for_all (known hash earlier) copy in
      subst (λ n. HeardFor hash kind (Word node other is_for_all ∷ earlier) n) (sym is)
      (before_word hash kind (left_of kind (known hash earlier)) (Word node other is_for_all) earlier refl (λ later. refl)
      (was_heard hash earlier kind valid (omega (arith, some, is))))
]

-- ---- a kind that was heard is in use

still_used : (hash : Hashes) (later earlier : History) (kind : ℕ) (node : List ℕ) (is_for_all : Bool) → is_kind kind ≡ true
    → counts_after hash node kind is_for_all earlier ≡ true
    → kind_lasts ≤ left_of kind (known hash (later ++ Word node kind is_for_all ∷ earlier)) + seconds later
still_used hash [] earlier kind node is_for_all valid counts =
    omega (arith, left_heard (hash node) node kind is_for_all (known hash earlier) (whole hash earlier) valid counts)
still_used hash (Second ∷ later) earlier kind node is_for_all valid counts =
    omega (arith, still_used hash later earlier kind node is_for_all valid counts, left_second kind hash (later ++ Word node kind is_for_all ∷ earlier) valid)
still_used hash (Word from other all ∷ later) earlier kind node is_for_all valid counts =
    let history = later ++ Word node kind is_for_all ∷ earlier in
    let before = still_used hash later earlier kind node is_for_all valid counts in
    elim (cases_Bool (counts_after hash from other all history)) [
      | inl heard ↦ elim (cases_eq other kind) [
        | inl same ↦
            let is = left_heard (hash from) from other all (known hash history) (whole hash history) (subst (λ k. is_kind k ≡ true) (sym same) valid) heard in
            let left : left_of kind (known hash (Word from other all ∷ history)) ≡ kind_lasts = subst (λ k. left_of k (known hash (Word from other all ∷ history)) ≡ kind_lasts) same is in
            omega (arith, left)
        | inr differ ↦ omega (arith, before, left_other (hash from) from other kind all (known hash history) (and_parts (is_kind other) _ heard).0 valid differ heard)
      ]
      | inr copy ↦ omega (arith, before, left_unheard (hash from) from other kind all (known hash history) copy)
    ]

pub used_forth : (hash : Hashes) (history : History) (kind : ℕ) → is_kind kind ≡ true → is_used_after hash kind history ≡ true → WasHeard hash kind history
used_forth hash history kind valid used =
    let some = (and_parts (is_kind kind) (lasts (left_of kind (known hash history))) used).1 in
    (was_heard hash history kind valid (ltb-true 0 _ some)).was

pub used_back : (hash : Hashes) (history : History) (kind : ℕ) → is_kind kind ≡ true → WasHeard hash kind history → is_used_after hash kind history ≡ true
used_back hash history kind valid was =
    let still = still_used hash was.later was.earlier kind was.node was.is_for_all valid was.counted in
    let some : 0 < left_of kind (known hash (was.later ++ Word was.node kind was.is_for_all ∷ was.earlier)) = omega (arith, still, was.lately) in
    subst (λ (h : History). is_used_after hash kind h ≡ true) (sym was.event)
    (and_from (is_kind kind) (lasts (left_of kind (known hash (was.later ++ Word was.node kind was.is_for_all ∷ was.earlier)))) valid (lt-ltb 0 _ some))

-- ---- in which kinds a stranger is spoken to

pub none_left : (hash : Hashes) (history : History) → ((used : ℕ) → is_used_after hash used history ≡ false) → list_any lasts (known hash history).left ≡ false
none_left hash history none = false_from_ne_true (list_any lasts (known hash history).left) (λ any.
    let (i, within, some) = any_at lasts 0 (known hash history).left any in
    let valid = is_one (i + 1) (omega arith) (omega (arith, within, (whole hash history).left)) in
    let less : i + 1 - 1 ≡ i = omega arith in
    let used : is_used_after hash (i + 1) history ≡ true =
    and_from (is_kind (i + 1)) (lasts (get_or (known hash history).left (i + 1 - 1) 0)) valid (ap (λ k. lasts (get_or (known hash history).left k 0)) less ∙ some) in
    both_ways (is_used_after hash (i + 1) history) (none (i + 1)) used)

pub all_where_none : (hash : Hashes) (history : History) → ((used : ℕ) → is_used_after hash used history ≡ false)
    → (kind : ℕ) → speaks_to_all kind (known hash history) ≡ is_kind kind
all_where_none hash history none kind =
    let any = none_left hash history none in
    let free = or_right (is_used kind (known hash history)) (not (list_any lasts (known hash history).left)) (not_from_false _ any) in
    ap (λ b. is_kind kind && b) free ∙ and_true (is_kind kind)
  where
    and_true : (b : Bool) → (b && true) ≡ b
    and_true true = refl
    and_true false = refl

pub one_for_all : (hash : Hashes) (history : History) → (kind : ℕ) × (is_kind kind ≡ true) × (speaks_to_all kind (known hash history) ≡ true)
one_for_all hash history = by (list_any lasts (known hash history).left) refl
  where
    by : (b : Bool) → list_any lasts (known hash history).left ≡ b → (kind : ℕ) × (is_kind kind ≡ true) × (speaks_to_all kind (known hash history) ≡ true)
    by true any =
        let (i, within, some) = any_at lasts 0 (known hash history).left any in
        let valid = is_one (i + 1) (omega arith) (omega (arith, within, (whole hash history).left)) in
        let less : i + 1 - 1 ≡ i = omega arith in
        let used : is_used (i + 1) (known hash history) ≡ true =
        and_from (is_kind (i + 1)) (lasts (get_or (known hash history).left (i + 1 - 1) 0)) valid (ap (λ k. lasts (get_or (known hash history).left k 0)) less ∙ some) in
        (i + 1, valid, and_from (is_kind (i + 1)) _ valid (ap (λ b. b || not (list_any lasts (known hash history).left)) used))
    by false none = (1, refl, or_right (is_used 1 (known hash history)) (not (list_any lasts (known hash history).left)) (not_from_false _ none))

pub in_one_at_least : (hash : Hashes) (history : History) (node : List ℕ) → (kind : ℕ) × (is_kind kind ≡ true) × (speaks_after hash node kind history ≡ true)
in_one_at_least hash history node = elim (cases_Bool (is_everybody node)) [
  | inl everybody ↦
      let (kind, valid, speaks) = one_for_all hash history in
      (kind, valid, rw everybody speaks)
  | inr one ↦ by one (station_after hash node history) refl
]
  where
    by : is_everybody node ≡ false → (o : Option Station) → station_after hash node history ≡ o → (kind : ℕ) × (is_kind kind ≡ true) × (speaks_after hash node kind history ≡ true)
    by one None stranger =
        let (kind, valid, speaks) = one_for_all hash history in
        (kind, valid, rw one (ap (λ o. speaks_to o kind (known hash history)) stranger ∙ speaks))
    by one (Some station) is =
        (station.kind, valid_kind hash history node station is, rw one (ap (λ o. speaks_to o station.kind (known hash history)) is ∙ eq-eqb station.kind station.kind refl))

pub spoken_to_stranger : (hash : Hashes) (history : History) (node : List ℕ) → station_after hash node history ≡ None
    → (kind : ℕ) → speaks_after hash node kind history ≡ speaks_to_all kind (known hash history)
spoken_to_stranger hash history node stranger kind = elim (cases_Bool (is_everybody node)) [
  | inl everybody ↦ rw everybody refl
  | inr one ↦ rw one (ap (λ o. speaks_to o kind (known hash history)) stranger)
]
