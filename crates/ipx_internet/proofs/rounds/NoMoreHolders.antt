-- How many routers hold a key: after an event whose offers are all unreachable no more than before it, and one less where one ended.
use Rattle.std.proofs.Common.{◌≡◌, sym, ap, ◌∙◌, ◌⊎◌, ℕ, suc, ◌<◌, ◌≤◌, ◌==◌, Bool, true, false, List, [], ◌∷◌, ◌++◌, length, filter, Option, None, Some, is_some, inl, inr, arith, true≢false, get_or-set_same, get_or-set_other, Ordering, is_eq}
use Rattle.std.specs.List.{list_any}
use Rattle.std.specs.Cmp.{IsTotalOrder}
use Rattle.std.proofs.lemmas.Bool.{cases_Bool, cases_eq, both_ways, eqb-true, or_cases}
use Rattle.ipx_table.specs.Reading.{Reading}
use Rattle.ipx_router.specs.History.{Event, History}
use Rattle.ipx_router.specs.Port.{numbers}
use Rattle.ipx_router.specs.inside.Touched.{offer_at}
use Rattle.ipx_router.proofs.histories.OneEventMore.{among}
use Rattle.ipx_router.proofs.bounds.ItemsOfEachList.{length-filter, length-numbers}
use Rattle.ipx_internet.specs.Queue.{history_of, with_event}
use Rattle.ipx_internet.proofs.records.KeptOrOffered.{Left}

-- ---- how many pass

fewer_pass : {X : Type 0} (p q : X → Bool) → ((x : X) → p x ≡ true → q x ≡ true) → (xs : List X) → length (filter p xs) ≤ length (filter q xs)
fewer_pass p q weaker [] = omega arith
fewer_pass p q weaker (x ∷ xs) = grind (arith, fewer_pass p q weaker xs)

one_less_passes : (p q : ℕ → Bool) → ((x : ℕ) → p x ≡ true → q x ≡ true) → (y : ℕ) → p y ≡ false → q y ≡ true → (xs : List ℕ)
    → list_any (λ j. j == y) xs ≡ true → suc (length (filter p xs)) ≤ length (filter q xs)
one_less_passes p q weaker y out in_ [] there = absurd (true≢false (sym there))
one_less_passes p q weaker y out in_ (x ∷ xs) there = elim (or_cases (x == y) (list_any (λ j. j == y) xs) there) [
  | inl here ↦
      let same = eqb-true x y here in
      let e : p x ≡ false = ap p same ∙ out in
      let f : q x ≡ true = ap q same ∙ in_ in
      let rest = fewer_pass p q weaker xs in
      rw (e, f) (omega (arith, rest))
  | inr behind ↦
      let rest = one_less_passes p q weaker y out in_ xs behind in
      elim (cases_Bool (p x)) [
        | inl e ↦ let f = weaker x e in rw (e, f) (omega (arith, rest))
        | inr e ↦ elim (cases_Bool (q x)) [
          | inl f ↦ rw (e, f) (omega (arith, rest))
          | inr f ↦ rw (e, f) rest
        ]
      ]
]

module _ {O K : Type 0} (reading : Reading O K) (order : K → K → Ordering) (total : IsTotalOrder order) where
  -- where all offers that came are unreachable, a key that has an offer now had one before
  pub had_before : (P : O → Type 0) → ((o : O) → P o → reading.is_down o ≡ true) → (key : K) (before after : Option O) → Left reading order P key before after
      → is_some after ≡ true → is_some before ≡ true
  had_before P down key before after (inl same) e = sym (ap is_some same) ∙ e
  had_before P down key before after (inr told) e = by told.left
    where
      by : (after ≡ None) ⊎ ((after ≡ Some told.offer) × (reading.is_down told.offer ≡ false)) → is_some before ≡ true
      by (inl none) = absurd (true≢false (sym e ∙ ap is_some none))
      by (inr (some, up)) = absurd (both_ways (reading.is_down told.offer) up (down told.offer told.such))

  module _ (records : ℕ → History → List O) (routers : ℕ) where
    -- after its history a router holds an offer of that key
    abbrev pub holds : K → ℕ → History → Bool
    holds key router history = is_some (offer_at reading.key order key (records router history))

    -- how many do
    abbrev pub holders : List History → K → ℕ
    holders histories key = length (filter (λ router. holds key router (history_of histories router)) (numbers routers))

    pub holders_most : (histories : List History) (key : K) → holders histories key ≤ routers
    holders_most histories key = omega (arith, length-numbers, length-filter)

    -- equal keys are held by the same
    pub holders_alike : (histories : List History) (a b : K) → is_eq (order a b) ≡ true → holders histories a ≡ holders histories b
    holders_alike histories a b e = grind arith

    module _ (histories : List History) (router : ℕ) (event : Event) (there : router < length histories) (key : K)
        (had : holds key router (history_of histories router ++ event ∷ []) ≡ true → holds key router (history_of histories router) ≡ true) where
      abbrev new : List History
      new = with_event histories router event

      now : history_of new router ≡ history_of histories router ++ event ∷ []
      now = get_or-set_same histories router (history_of histories router ++ event ∷ []) [] there

      had_each : (j : ℕ) → holds key j (history_of new j) ≡ true → holds key j (history_of histories j) ≡ true
      had_each j e = grind (arith, cases_eq, get_or-set_other, now)

      pub holders_fewer : holders new key ≤ holders histories key
      holders_fewer = grind (arith, fewer_pass, had_each)

      pub one_holder_less : router < routers → holds key router (history_of histories router ++ event ∷ []) ≡ false
          → holds key router (history_of histories router) ≡ true → suc (holders new key) ≤ holders histories key
      one_holder_less within out in_ =
          one_less_passes (λ j. holds key j (history_of new j)) (λ j. holds key j (history_of histories j)) had_each router
          (ap (holds key router) now ∙ out) in_ (numbers routers) (among routers router within)
