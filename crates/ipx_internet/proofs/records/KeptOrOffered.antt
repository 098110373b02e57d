-- What offers leave a key of a table with: what it had, nothing, or one of the offers.
use Rattle.std.proofs.Common.{◌≡◌, sym, ap, ◌∙◌, subst, ◌⊎◌, ℕ, true, false, List, [], ◌∷◌, ◌++◌, find, Option, None, Some, option_map, inl, inr, Ordering, is_eq, append_assoc, append-nil, arith}
use Rattle.std.specs.List.{AllByRecursion}
use Rattle.std.specs.Cmp.{IsTotalOrder}
use Rattle.std.proofs.lemmas.Bool.{cases_Bool}
use Rattle.ipx_table.specs.Accepted.{marked}
use Rattle.ipx_table.specs.Alive.{alive}
use Rattle.ipx_table.specs.Facts.{Fact, Offered, Second, PortEnd, End}
use Rattle.ipx_table.specs.Reading.{Reading, Rules, rules_of}
use Rattle.ipx_table.specs.Stands.{held}
use Rattle.ipx_table.specs.Taken.{offer_left, taken_over}
use Rattle.ipx_table.specs.declared.held.Held.{Held}
use Rattle.ipx_table.proofs.Exchanging.{left}
use Rattle.ipx_table.proofs.History.{alive_after-offered}
use Rattle.ipx_table.proofs.Living.{kept}
use Rattle.ipx_table.proofs.Standing.{rules_total, record-in_order, others-stay}
use Rattle.ipx_router.specs.Facts.{offers}
use Rattle.ipx_router.specs.inside.Touched.{offer_at}
use Rattle.ipx_router.proofs.changes.DiffersByOneFact.{found}
use Rattle.ipx_router.proofs.changes.NotedInPlace.{offer_alike}

-- a fact is an offer, and such a one
abbrev pub OffersOf : {O : Type 0} → (O → Type 0) → Fact O → Type 0
OffersOf P (Offered offer) = P offer
OffersOf P Second = ⊥
OffersOf P (PortEnd port) = ⊥
OffersOf P End = ⊥

module _ {O K : Type 0} (reading : Reading O K) (order : K → K → Ordering) where
  -- such an offer told of a key: the key has nothing now, or the offer, which isn't down
  pub record Told (P : O → Type 0) (key : K) (after : Option O) : Type 0 where
    pub offer : O
    pub such : P offer
    pub of_key : is_eq (order (reading.key offer) key) ≡ true
    pub left : (after ≡ None) ⊎ ((after ≡ Some offer) × (reading.is_down offer ≡ false))

  -- a key has what it had, or such an offer told of it
  abbrev pub Left : (O → Type 0) → K → Option O → Option O → Type 0
  Left P key before after = (after ≡ before) ⊎ Told P key after

  left_then : (P : O → Type 0) (key : K) (before mid after : Option O) → Left P key before mid → Left P key mid after → Left P key before after
  left_then P key before mid after first given = grind arith

  module _ (total : IsTotalOrder order) (capacity : ℕ) (shares : List ℕ) where
    abbrev rules : Rules O
    rules = rules_of reading order capacity shares

    abbrev alive_after : List (Fact O) → List (Held O)
    alive_after facts = alive rules (marked rules facts)

    -- the offer that a key has after facts
    abbrev pub offer_after : K → List (Fact O) → Option O
    offer_after key facts = offer_at reading.key order key (offers (held rules facts))

    -- it is found among the alive ones, in whatever order
    pub among_alive : (key : K) (facts : List (Fact O))
        → offer_after key facts ≡ option_map (λ h. h.offer) (find (λ h. is_eq (order (reading.key h.offer) key)) (alive_after facts))
    among_alive key facts =
        found (λ o. is_eq (order (reading.key o) key)) (held rules facts)
        ∙ ap (option_map (λ h. h.offer)) (record-in_order reading order total capacity shares key (alive_after facts))

    -- ---- one offer

    -- what an answer leaves a key with
    abbrev Leaves : O → Option O → Option O → Type 0
    Leaves offer before after = (after ≡ before) ⊎ ((after ≡ None) ⊎ ((after ≡ Some offer) × (reading.is_down offer ≡ false)))

    answered : (records : List (Held O)) (offer : O) (before : Option O)
        → Leaves offer before (offer_left (taken_over rules (λ a b. true) records offer) before offer)
    answered records offer before = grind arith

    -- its own key
    pub own : (facts : List (Fact O)) (offer : O)
        → offer_after (reading.key offer) (facts ++ Offered offer ∷ [])
        ≡ offer_left (taken_over rules (λ a b. true) (alive_after facts) offer) (offer_after (reading.key offer) facts) offer
    own facts offer =
        let key = reading.key offer in
        among_alive key (facts ++ Offered offer ∷ [])
        ∙ ap (λ hs. option_map (λ h. h.offer) (find (λ h. is_eq (order (reading.key h.offer) key)) hs)) (alive_after-offered rules facts offer)
        ∙ left rules (rules_total reading order total capacity shares) (λ a b. true) (alive_after facts) offer
        (kept rules (rules_total reading order total capacity shares) facts).distinct
        ∙ ap (λ before. offer_left (taken_over rules (λ a b. true) (alive_after facts) offer) before offer) (sym (among_alive key facts))

    -- another key
    other : (facts : List (Fact O)) (offer : O) (key : K) → is_eq (order (reading.key offer) key) ≡ false
        → offer_after key (facts ++ Offered offer ∷ []) ≡ offer_after key facts
    other facts offer key apart = grind (arith, among_alive, option_map, is_eq, alive_after-offered, others-stay)

    one : (P : O → Type 0) (facts : List (Fact O)) (offer : O) → P offer → (key : K)
        → Left P key (offer_after key facts) (offer_after key (facts ++ Offered offer ∷ []))
    one P facts offer is key = elim (cases_Bool (is_eq (order (reading.key offer) key))) [
      | inr apart ↦ inl (other facts offer key apart)
      | inl same ↦
          let before = offer_after (reading.key offer) facts in
          let answer = offer_left (taken_over rules (λ a b. true) (alive_after facts) offer) before offer in
          let was = offer_alike reading.key order total (reading.key offer) key same (offers (held rules facts)) in
          let is_now : offer_after key (facts ++ Offered offer ∷ []) ≡ answer =
          sym (offer_alike reading.key order total (reading.key offer) key same (offers (held rules (facts ++ Offered offer ∷ [])))) ∙ own facts offer in
          elim (answered (alive_after facts) offer before) [
            | inl stays ↦ inl (is_now ∙ stays ∙ was)
            | inr now ↦ inr (record { offer = offer; such = is; of_key = same; left = told answer now is_now })
          ]
    ]
      where
        told : (answer : Option O) → (answer ≡ None) ⊎ ((answer ≡ Some offer) × (reading.is_down offer ≡ false))
            → offer_after key (facts ++ Offered offer ∷ []) ≡ answer
            → (offer_after key (facts ++ Offered offer ∷ []) ≡ None)
            ⊎ ((offer_after key (facts ++ Offered offer ∷ []) ≡ Some offer) × (reading.is_down offer ≡ false))
        told answer (inl none) e = inl (e ∙ none)
        told answer (inr (some, up)) e = inr (e ∙ some, up)

    -- ---- several, one after the other

    pub several : (P : O → Type 0) (new facts : List (Fact O)) → AllByRecursion (OffersOf P) new → (key : K)
        → Left P key (offer_after key facts) (offer_after key (facts ++ new))
    several P [] facts all key = inl (ap (λ fs. offer_after key fs) (append-nil facts))
    several P (Offered offer ∷ new) facts all key =
        let next = facts ++ Offered offer ∷ [] in
        let rest : Left P key (offer_after key next) (offer_after key (facts ++ Offered offer ∷ new)) =
        subst (λ (fs : List (Fact O)). Left P key (offer_after key next) (offer_after key fs)) (append_assoc facts (Offered offer ∷ []) new)
        (several P new next all.1 key) in
        left_then P key (offer_after key facts) (offer_after key next) (offer_after key (facts ++ Offered offer ∷ new)) (one P facts offer all.0 key) rest
    several P (Second ∷ new) facts all key = absurd all.0
    several P (PortEnd port ∷ new) facts all key = absurd all.0
    several P (End ∷ new) facts all key = absurd all.0
