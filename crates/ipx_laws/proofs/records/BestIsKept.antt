-- What a table keeps of the offers of one key, of whatever kind: one of the best stays while whoever offered it goes on, and one comes where one
-- is offered. The state of the record is carried from offer to offer and from second to second.
use Rattle.std.proofs.Common.{◌≡◌, ◌≢◌, refl, sym, ap, ◌∙◌, subst, ◌⊎◌, ℕ, ◌+◌, ◌≤◌, nat_lt, ◌&&◌, Bool, true, false, List, [], ◌∷◌, ◌++◌, filter, find, length, Option, None, Some, inl, inr, append_assoc, append-nil, Ordering, is_eq, arith}
use Rattle.std.specs.List.{AllByRecursion}
use Rattle.std.specs.Cmp.{IsTotalOrder}
use Rattle.std.specs.Ordering.{is_gt}
use Rattle.std.proofs.lemmas.Bool.{cases_Bool, both_ways, eqb-true}
use Rattle.ipx_table.specs.Accepted.{marked, has_share, may_replace}
use Rattle.ipx_table.specs.Alive.{alive, lifetime}
use Rattle.ipx_table.specs.Facts.{Fact, Offered, Second, PortEnd, End}
use Rattle.ipx_table.specs.Reading.{Reading, Rules, rules_of, one_source, rank_order}
use Rattle.ipx_table.specs.Stands.{IsDistinct, older, second_later}
use Rattle.ipx_table.specs.Taken.{known_of}
use Rattle.ipx_table.specs.inside.AfterOffer.{fresh, after_offer}
use Rattle.ipx_table.specs.declared.held.Held.{Held}
use Rattle.ipx_table.proofs.History.{alive_after-offered, alive_after-second}
use Rattle.ipx_table.proofs.Living.{kept}
use Rattle.ipx_table.proofs.Standing.{rules_total, others-stay}
use Rattle.ipx_internet.proofs.lists.EachElement.{all_of}
use Rattle.ipx_internet.proofs.lists.FoundInAList.{nothing, it_is}
use Rattle.ipx_internet.proofs.records.KeptOrOffered.{OffersOf}
use Rattle.ipx_laws.proofs.lists.SomeElement.{AnyIs, found_with}
use Rattle.ipx_laws.proofs.records.OneFactOnARecord.{admitted, renewed, replaced, not_ended, not_replaced, left_with, found_older, none_older_found}
use Rattle.ipx_laws.proofs.records.SameSource.{source_itself}

module _ {O K S : Type 0} (reading : Reading O K) (order : K → K → Ordering) (total : IsTotalOrder order) (capacity : ℕ) (shares : List ℕ)
    (key : K) (one_key : (k : K) → is_eq (order k key) ≡ true → k ≡ key) (Real : O → Type 0) (Good : S → O → Type 0) where
  abbrev pub rules : Rules O
  rules = rules_of reading order capacity shares

  abbrev rules_are : IsTotalOrder rules.by_key
  rules_are = rules_total reading order total capacity shares

  abbrev pub records : List (Fact O) → List (Held O)
  records facts = alive rules (marked rules facts)

  -- the record of the key
  abbrev pub known_in : List (Held O) → Option (Held O)
  known_in held = find (λ h. is_eq (order (reading.key h.offer) key)) held

  abbrev pub known : List (Fact O) → Option (Held O)
  known facts = known_in (records facts)

  -- one offer is strictly worse than another
  abbrev pub is_worse : O → O → Bool
  is_worse a b = is_gt (rank_order (reading.rank a) (reading.rank b))

  -- the good offers, by who offers them, are the best of the real ones of the key: none is better, one that is as good is one of them, and whoever
  -- offers one offers that alone
  pub record AreBest : Type 0 where
    pub named : (s : S) (g : O) → Good s g → reading.key g ≡ key
    pub up : (s : S) (g : O) → Good s g → reading.is_down g ≡ false
    pub first : (s : S) (g o : O) → Good s g → Real o → reading.key o ≡ key → is_worse g o ≡ false
    pub equal : (s : S) (g o : O) → Good s g → Real o → reading.key o ≡ key → is_worse o g ≡ false → (t : S) × Good t o
    pub alike : (s : S) (g o : O) → Good s g → Good s o → g ≡ o

  -- how old a good record may be, who has to go on, whether one may be missing, and what stays of the offer that there is
  pub record State (Fresh Late : S → ℕ → Type 0) (Later : Type 0) (Same : O → Type 0) (k : Option (Held O)) : Type 0 where
    pub aged : (h : Held O) (s : S) → k ≡ Some h → Good s h.offer → Fresh s h.age ⊎ Late s h.age
    pub holds : ((h : Held O) × (s : S) × (k ≡ Some h) × Good s h.offer × Same h.offer) ⊎ Later

  -- an offer of the key may come: it is real, if it is up, and where a good one has its source, it is good
  pub record IsSteady (o : O) : Type 0 where
    pub real : reading.is_down o ≡ false → Real o
    pub honest : (s : S) (g : O) → Good s g → one_source (reading.source g) (reading.source o) ≡ true → Good s o

  -- there is room for an offer: for a new key, and in the place of the record that there is
  pub record HasPlace (held : List (Held O)) (o : O) : Type 0 where
    pub admits : known_in held ≡ None → (nat_lt (length held) capacity && has_share rules o held) ≡ true
    pub replaces : (h : Held O) → known_in held ≡ Some h → may_replace rules o held h ≡ true

  module _ (Fresh : S → ℕ → Type 0) (now : (s : S) → Fresh s 0) (Same : O → Type 0) where
    -- ---- one offer of the key

    module _ (held : List (Held O)) (distinct : IsDistinct rules.by_key held) (o : O) (named : reading.key o ≡ key) (Late : S → ℕ → Type 0) (Later : Type 0)
        (state : State Fresh Late Later Same (known_in held)) where
      abbrev after : List (Held O)
      after = after_offer rules held o

      of_offer : (hs : List (Held O)) → known_of rules hs o ≡ known_in hs
      of_offer hs = ap (λ k. find (λ h. is_eq (order (reading.key h.offer) k)) hs) named

      fresh_aged : (h : Held O) (s : S) → known_in after ≡ Some (fresh o) → known_in after ≡ Some h → Fresh s h.age
      fresh_aged h s is_o e = it_is (λ (x : Held O). Fresh s x.age) h (fresh o) (sym is_o ∙ e) (now s)

      -- whatever it is, a good one is one that was there, or just came
      pub still_aged : (h : Held O) (s : S) → known_in after ≡ Some h → Good s h.offer → Fresh s h.age ⊎ Late s h.age
      still_aged h s e right = elim (left_with rules rules_are held o distinct) [
        | inl same ↦ state.aged h s (sym (sym (of_offer after) ∙ same ∙ of_offer held) ∙ e) right
        | inr (inl none) ↦ nothing (sym (sym (of_offer after) ∙ none) ∙ e)
        | inr (inr new) ↦ inl (fresh_aged h s (sym (of_offer after) ∙ new.0) e)
      ]

      comes : {Less : S → ℕ → Type 0} {Rest : Type 0} (s : S) → Good s o → Same o → known_in after ≡ Some (fresh o) → State Fresh Less Rest Same (known_in after)
      comes s good same is_o = record {
        aged = λ h t e right. inl (fresh_aged h t is_o e);
        holds = inl (fresh o, s, is_o, good, same);
      }

      unchanged : known_in after ≡ known_in held → State Fresh Late Later Same (known_in after)
      unchanged same = subst (λ (k : Option (Held O)). State Fresh Late Later Same k) (sym same) state

      module _ (best : AreBest) (steady : IsSteady o) where
        -- one that is good comes, or another good one is there: from then on none is missing
        module _ (real : (h : Held O) → known_in held ≡ Some h → Real h.offer × (reading.key h.offer ≡ key)) (free : Later → (r : O) → Same r)
            (s : S) (good : Good s o) (place : HasPlace held o) where
          abbrev Now : Option (Held O) → Type 0
          Now = State Fresh (λ t age. Late t age × (t ≢ s)) ⊥ Same

          up : reading.is_down o ≡ false
          up = best.up s o good

          -- it stays what it was, or was free
          still_same : ((h : Held O) → known_in held ≡ Some h
              → (one_source (reading.source h.offer) (reading.source o) ≡ true) ⊎ (is_worse h.offer o ≡ true)) → Same o
          still_same why = elim state.holds [
            | inr later ↦ free later o
            | inl (h, t, some, good_h, same) ↦ elim (why h some) [
              | inl own ↦ subst Same (best.alike t h.offer o good_h (steady.honest t h.offer good_h own)) same
              | inr worse ↦ absurd (both_ways (is_worse h.offer o) (best.first t h.offer o good_h (steady.real up) named) worse)
            ]
          ]

          this_same : (h : Held O) → known_in held ≡ Some h → Same h.offer
          this_same h some = grind arith

          of_it : (h : Held O) → known_in held ≡ Some h → (Is : O → Type 0) → Is h.offer → (g : Held O) → known_in held ≡ Some g → Is g.offer
          of_it h some Is is g e = it_is (λ (x : Held O). Is x.offer) g h (sym some ∙ e) is

          stays : (h : Held O) → known_in held ≡ Some h → one_source (reading.source h.offer) (reading.source o) ≡ false → (t : S) × Good t h.offer
              → known_in after ≡ Some h → Now (known_in after)
          stays h some other (t, good_h) is_now = record {
            aged = λ g u e right.
                let same : g ≡ h = it_is (λ (x : Held O). x ≡ h) g h (sym is_now ∙ e) refl in
                let A : Held O → Type 0 = λ x. Fresh u x.age ⊎ (Late u x.age × (u ≢ s)) in
                let G : Held O → Type 0 = λ x. Good u x.offer in
                let good_u = subst G same right in
                subst A (sym same) (elim (state.aged h u some good_u) [
                  | inl young ↦ inl young
                  | inr late ↦
                      inr (
                        late,
                        (λ same_one. both_ways (one_source (reading.source h.offer) (reading.source o)) other
                            (source_itself (reading.source h.offer) (reading.source o)
                            (ap reading.source (best.alike s h.offer o (subst (λ (v : S). Good v h.offer) same_one good_u) good)))),
                      )
                ]);
            holds = inl (h, t, is_now, good_h, this_same h some);
          }

          pub good_comes : Now (known_in after)
          good_comes = by (known_in held) refl
            where
              by : (k : Option (Held O)) → known_in held ≡ k → Now (known_in after)
              by None none =
                  comes s good (still_same (λ h some. nothing (sym none ∙ some)))
                  (sym (of_offer after) ∙ admitted rules rules_are held o distinct (of_offer held ∙ none) up (place.admits none))
              by (Some h) some =
                  let is_known = of_offer held ∙ some in
                  elim (cases_Bool (one_source (reading.source h.offer) (reading.source o))) [
                    | inl own ↦
                        comes s good (still_same (λ g e. inl (of_it h some (λ r. one_source (reading.source r) (reading.source o) ≡ true) own g e)))
                        (sym (of_offer after) ∙ renewed rules rules_are held o distinct h is_known up own)
                    | inr other ↦ elim (cases_Bool (is_worse h.offer o)) [
                      | inl worse ↦
                          comes s good (still_same (λ g e. inr (of_it h some (λ r. is_worse r o ≡ true) worse g e)))
                          (sym (of_offer after) ∙ replaced rules rules_are held o distinct h is_known up other worse (place.replaces h some))
                      | inr as_good ↦
                          let is_real = real h some in
                          stays h some other (best.equal s o h.offer good is_real.0 is_real.1 as_good)
                          (sym (of_offer after) ∙ not_replaced rules rules_are held o distinct h is_known up other as_good)
                    ]
                  ]

        -- any other leaves it as it is, or is good
        pub steady_keeps : State Fresh Late Later Same (known_in after)
        steady_keeps = by state.holds
          where
            by : ((h : Held O) × (s : S) × (known_in held ≡ Some h) × Good s h.offer × Same h.offer) ⊎ Later → State Fresh Late Later Same (known_in after)
            by (inr later) = record { aged = still_aged; holds = inr later }
            by (inl (h, s, some, good_h, same)) =
                let is_known = of_offer held ∙ some in
                elim (cases_Bool (one_source (reading.source h.offer) (reading.source o))) [
                  | inl own ↦
                      let good = steady.honest s h.offer good_h own in
                      comes s good (subst Same (best.alike s h.offer o good_h good) same)
                      (sym (of_offer after) ∙ renewed rules rules_are held o distinct h is_known (best.up s o good) own)
                  | inr other ↦ elim (cases_Bool (reading.is_down o)) [
                    | inl down ↦ unchanged (sym (of_offer after) ∙ not_ended rules rules_are held o distinct h is_known down other ∙ sym some)
                    | inr up ↦
                        unchanged (sym (of_offer after)
                        ∙ not_replaced rules rules_are held o distinct h is_known up other (best.first s h.offer o good_h (steady.real up) named) ∙ sym some)
                  ]
                ]

    -- ---- the offers of one packet

    distinct : (facts : List (Fact O)) → IsDistinct rules.by_key (records facts)
    distinct facts = (kept rules rules_are facts).distinct

    own_key : (facts : List (Fact O)) (o : O) → known (facts ++ Offered o ∷ []) ≡ known_in (after_offer rules (records facts) o)
    own_key facts o = ap known_in (alive_after-offered rules facts o)

    other_key : (facts : List (Fact O)) (o : O) → is_eq (order (reading.key o) key) ≡ false → known (facts ++ Offered o ∷ []) ≡ known facts
    other_key facts o apart = own_key facts o ∙ others-stay reading order total capacity shares (records facts) o key apart

    -- an offer of the key, or another
    module _ (Late : S → ℕ → Type 0) (Later : Type 0) (facts : List (Fact O)) (o : O) (state : State Fresh Late Later Same (known facts)) where
      offered : (reading.key o ≡ key → State Fresh Late Later Same (known_in (after_offer rules (records facts) o)))
          → State Fresh Late Later Same (known (facts ++ Offered o ∷ []))
      offered own = grind (arith, is_eq, other_key, own_key)

    -- whatever they are, as one may be missing
    pub offers_any : (Late : S → ℕ → Type 0) (Later : Type 0) → Later → (new facts : List (Fact O)) → AllByRecursion (OffersOf (λ o. Unit {0})) new
        → State Fresh Late Later Same (known facts) → State Fresh Late Later Same (known (facts ++ new))
    offers_any Late Later later [] facts all state = subst (λ (fs : List (Fact O)). State Fresh Late Later Same (known fs)) (sym (append-nil facts)) state
    offers_any Late Later later (Offered o ∷ new) facts all state =
        subst (λ (fs : List (Fact O)). State Fresh Late Later Same (known fs)) (append_assoc facts (Offered o ∷ []) new)
        (offers_any Late Later later new (facts ++ Offered o ∷ []) all.1 (offered Late Later facts o state
        (λ named. record { aged = still_aged (records facts) (distinct facts) o named Late Later state; holds = inr later })))
    offers_any Late Later later (Second ∷ new) facts all state = absurd all.0
    offers_any Late Later later (PortEnd port ∷ new) facts all state = absurd all.0
    offers_any Late Later later (End ∷ new) facts all state = absurd all.0

    -- what is so of the facts before each of them: the records of the key are real; and each offer keeps that
    module _ (best : AreBest) (Such : List (Fact O) → Type 0) (Fit : O → Type 0)
        (real : (facts : List (Fact O)) → Such facts → (h : Held O) → known facts ≡ Some h → Real h.offer)
        (goes_on : (facts : List (Fact O)) (o : O) → Such facts → Fit o → Such (facts ++ Offered o ∷ [])) where
      -- an offer that comes is such a one
      abbrev pub Comes : O → Type 0
      Comes o = Fit o × (reading.key o ≡ key → IsSteady o)

      real_in : (facts : List (Fact O)) → Such facts → (h : Held O) → known facts ≡ Some h → Real h.offer × (reading.key h.offer ≡ key)
      real_in facts such h some =
          let found = found_with (λ x. Unit {0}) (λ x. is_eq (order (reading.key x.offer) key)) (records facts) h (all_of (λ x. Unit {0}) (λ x. tt) (records facts)) some in
          (real facts such h some, one_key (reading.key h.offer) found.1)

      module _ (Late : S → ℕ → Type 0) (Later : Type 0) where
        one_keeps : (facts : List (Fact O)) (o : O) → Comes o → State Fresh Late Later Same (known facts)
            → State Fresh Late Later Same (known (facts ++ Offered o ∷ []))
        one_keeps facts o is state =
            offered Late Later facts o state (λ named. steady_keeps (records facts) (distinct facts) o named Late Later state best (is.1 named))

        pub offers_keep : (new facts : List (Fact O)) → AllByRecursion (OffersOf Comes) new → State Fresh Late Later Same (known facts)
            → State Fresh Late Later Same (known (facts ++ new))
        offers_keep [] facts all state = subst (λ (fs : List (Fact O)). State Fresh Late Later Same (known fs)) (sym (append-nil facts)) state
        offers_keep (Offered o ∷ new) facts all state =
            subst (λ (fs : List (Fact O)). State Fresh Late Later Same (known fs)) (append_assoc facts (Offered o ∷ []) new)
            (offers_keep new (facts ++ Offered o ∷ []) all.1 (one_keeps facts o all.0 state))
        offers_keep (Second ∷ new) facts all state = absurd all.0
        offers_keep (PortEnd port ∷ new) facts all state = absurd all.0
        offers_keep (End ∷ new) facts all state = absurd all.0

      -- where one of them is good
      module _ (place : (facts : List (Fact O)) (s : S) (o : O) → Such facts → Good s o → Real o → HasPlace (records facts) o) (s : S)
          (Late : S → ℕ → Type 0) (Later : Type 0) (free : Later → (r : O) → Same r) where
        abbrev Then : List (Fact O) → Type 0
        Then facts = State Fresh (λ t age. Late t age × (t ≢ s)) ⊥ Same (known facts)

        pub offers_come : (new facts : List (Fact O)) → AllByRecursion (OffersOf Comes) new → AnyIs (OffersOf (Good s)) new → Such facts
            → State Fresh Late Later Same (known facts) → Then (facts ++ new)
        offers_come [] facts all any such state = absurd any
        offers_come (Offered o ∷ new) facts all (inl good) such state =
            let named = best.named s o good in
            let steady = all.0.1 named in
            let came = good_comes (records facts) (distinct facts) o named Late Later state best steady (real_in facts such) free s good
            (place facts s o such good (steady.real (best.up s o good))) in
            subst Then (append_assoc facts (Offered o ∷ []) new)
            (offers_keep (λ t age. Late t age × (t ≢ s)) ⊥ new (facts ++ Offered o ∷ []) all.1
            (subst (λ (k : Option (Held O)). State Fresh (λ t age. Late t age × (t ≢ s)) ⊥ Same k) (sym (own_key facts o)) came))
        offers_come (Offered o ∷ new) facts all (inr behind) such state =
            subst Then (append_assoc facts (Offered o ∷ []) new)
            (offers_come new (facts ++ Offered o ∷ []) all.1 behind (goes_on facts o such all.0.0) (one_keeps Late Later facts o all.0 state))
        offers_come (Second ∷ new) facts all any such state = absurd all.0
        offers_come (PortEnd port ∷ new) facts all any such state = absurd all.0
        offers_come (End ∷ new) facts all any such state = absurd all.0

  -- ---- a second

  -- what is fresh gets older; a record that ends was fresh, or who offered it is late
  module _ (Fresh Then Late Still : S → ℕ → Type 0) (Later After : Type 0) (Same : O → Type 0) (grows : (s : S) (age : ℕ) → Fresh s age → Then s (age + 1))
      (late : (s : S) (h : Held O) → Good s h.offer → Late s h.age → Still s (h.age + 1)) (later : Later → After)
      (ends : (s : S) (h : Held O) → Good s h.offer → h.age + 1 ≡ lifetime → Fresh s h.age ⊎ Late s h.age → After) (facts : List (Fact O)) where
    next : known (facts ++ Second ∷ []) ≡ known_in (second_later (records facts))
    next = ap known_in (alive_after-second rules facts)

    few_of : (h : Held O) → known facts ≡ Some h → length (filter (λ x. is_eq (order (reading.key x.offer) key)) (records facts)) ≤ 1
    few_of h some =
        let found = found_with (λ x. Unit {0}) (λ x. is_eq (order (reading.key x.offer) key)) (records facts) h (all_of (λ x. Unit {0}) (λ x. tt) (records facts)) some in
        let named = one_key (reading.key h.offer) found.1 in
        subst (λ (k : K). length (filter (λ x. is_eq (order (reading.key x.offer) k)) (records facts)) ≤ 1) named ((kept rules rules_are facts).distinct h.offer)

    pub second_keeps : State Fresh Late Later Same (known facts) → State Then Still After Same (known (facts ++ Second ∷ []))
    second_keeps state = subst (λ (k : Option (Held O)). State Then Still After Same k) (sym next) (by (known facts) refl)
      where
        test : O → Bool
        test o = is_eq (order (reading.key o) key)

        -- it holds of the record that there is
        of_it : (h g : Held O) → known facts ≡ Some h → known facts ≡ Some g → (Is : O → Type 0) → Is g.offer → Is h.offer
        of_it h g one two Is is = it_is (λ (x : Held O). Is x.offer) h g (sym two ∙ one) is

        ended : (h : Held O) (s : S) → known facts ≡ Some h → h.age + 1 ≡ lifetime → Good s h.offer → After
        ended h s some last good = ends s h good last (state.aged h s some good)

        by : (k : Option (Held O)) → known facts ≡ k → State Then Still After Same (known_in (second_later (records facts)))
        by None none =
            let gone = none_older_found test (records facts) none in
            record {
              aged = λ h s e right. nothing (sym gone ∙ e);
              holds = elim state.holds [
                | inl there ↦ nothing (sym none ∙ there.2)
                | inr missing ↦ inr (later missing)
              ];
            }
        by (Some h) some = elim (found_older test (records facts) (few_of h some) h some) [
          | inl lives ↦ record {
            aged = λ g s e right.
                let same : g ≡ older h = it_is (λ (x : Held O). x ≡ older h) g (older h) (sym lives ∙ e) refl in
                let A : Held O → Type 0 = λ x. Then s x.age ⊎ Still s x.age in
                let G : Held O → Type 0 = λ x. Good s x.offer in
                let good = subst G same right in
                subst A (sym same) (elim (state.aged h s some good) [
                  | inl is_fresh ↦ inl (grows s h.age is_fresh)
                  | inr is_late ↦ inr (late s h good is_late)
                ]);
            holds = elim state.holds [
              | inl (g, s, is_g, good, same) ↦
                  let both = of_it h g some is_g (λ r. Good s r × Same r) (good, same) in
                  inl (older h, s, lives, both.0, both.1)
              | inr missing ↦ inr (later missing)
            ];
          }
          | inr gone ↦ record {
            aged = λ g s e right. nothing (sym gone.1 ∙ e);
            holds = elim state.holds [
              | inl (g, s, is_g, good, same) ↦
                  let last : h.age + 1 ≡ lifetime = eqb-true (h.age + 1) lifetime gone.0 in
                  inr (ended h s some last (of_it h g some is_g (Good s) good))
              | inr missing ↦ inr (later missing)
            ];
          }
        ]
