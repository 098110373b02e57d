-- What one event of a router changes for all others, while tables become right: who turns right says so, and who is right says nothing else.
use Rattle.std.proofs.Common.{◌≡◌, ◌≢◌, sym, ap, ◌∙◌, subst, ◌⊎◌, ℕ, ◌+◌, ◌<◌, ◌≤◌, List, ◌++◌, Option, inl, inr}
use Rattle.std.specs.List.{AllByRecursion}
use Rattle.std.proofs.lemmas.Bool.{cases_eq, cases_lt}
use Rattle.ipx_table.specs.Facts.{Fact}
use Rattle.ipx_router.specs.Numbers.{period}
use Rattle.ipx_router.specs.Facts.{route_facts}
use Rattle.ipx_router.specs.History.{History}
use Rattle.ipx_router.specs.declared.route_offer.RouteOffer.{RouteOffer}
use Rattle.ipx_internet.specs.Internet.{Place, ports_of}
use Rattle.ipx_internet.specs.Queue.{Delivery, Queued, history_of}
use Rattle.ipx_internet.proofs.lists.EachElement.{all-append}
use Rattle.ipx_laws.specs.Least.{Way, most_ticks_right}
use Rattle.ipx_laws.proofs.lists.SomeElement.{AnyIs}
use Rattle.ipx_laws.proofs.tables.Given.{Given}
use Rattle.ipx_laws.proofs.tables.LastWords.{WantsOf, Sources, GoodBy, IsGood, facts_of, good_or_not, PendingFor, Fine, Ends, ends_more, ends_behind, any_ends, Calm, Waits, StateWith, Righted}

module _ (given : Given) (before : ℕ) (clock : ℕ → ℕ) (few_seconds : (router : ℕ) → clock router < period) (at_start : ℕ → Option RouteOffer) where
  open given use {net}

  abbrev Waits_by : (ℕ → ℕ) → List History → List Delivery → ℕ → Place → Type 0 → Type 0
  Waits_by = Waits given before clock few_seconds at_start

  abbrev Good_of : List History → ℕ → Type 0
  Good_of = IsGood given

  abbrev Wanting : ℕ → Type 0
  Wanting = WantsOf given

  abbrev Source_of : ℕ → Way → ℕ → Place → Type 0
  Source_of = Sources given

  abbrev Is_fine : Place → Delivery → Type 0
  Is_fine = Fine given before

  abbrev Pends : ℕ → Place → Delivery → Type 0
  Pends = PendingFor given before

  abbrev Ending : ℕ → Place → List Delivery → Type 0
  Ending = Ends given before

  abbrev Is_calm : ℕ → Place → List Delivery → Type 0
  Is_calm = Calm given before

  abbrev State_of : ℕ → (ℕ → ℕ) → List History → List Delivery → (x : ℕ) → Wanting x → List (Fact RouteOffer) → Type 0
  State_of = StateWith given before clock few_seconds at_start

  abbrev Righted_at : (ℕ → ℕ) → Queued → Type 0
  Righted_at = Righted given before clock few_seconds at_start

  -- one event of router y
  module _ (left rest : ℕ → ℕ) (old now : List History) (queue new : List Delivery) (y : ℕ)
      (others : (k : ℕ) → k ≢ y → left k ≡ rest k) (same : (k : ℕ) → k ≢ y → history_of now k ≡ history_of old k)
      (steady_before : most_ticks_right ≤ before → (k : ℕ) → Good_of old k) (steady_now : most_ticks_right ≤ before → Good_of now y)
      (fine : (f : Place) → Good_of now f.router → AllByRecursion (Is_fine f) new)
      (turned : (x port : ℕ) (f : Place) (w : Wanting x) → Source_of x w.v port f → f.router ≡ y → Good_of now y → (Good_of old y → ⊥) → AnyIs (Pends x f) new)
      (told : (x port : ℕ) (f : Place) (w : Wanting x) → Source_of x w.v port f → f.router ≡ y → clock y ≡ 0 → left y ≡ 1
      → (rest y ≡ 1) ⊎ (Good_of now y → AnyIs (Pends x f) new)) where
    good_same : (k : ℕ) → k ≢ y → Good_of now k → Good_of old k
    good_same k off good =
        subst (λ (h : History). GoodBy given k (route_facts (ports_of net k) h)) (same k off) good

    same_good : (k : ℕ) → k ≢ y → Good_of old k → Good_of now k
    same_good k off good =
        subst (λ (h : History). GoodBy given k (route_facts (ports_of net k) h)) (sym (same k off)) good

    -- once all are right for good, they are now
    steady : most_ticks_right ≤ before → (k : ℕ) → Good_of now k
    steady long k = elim (cases_eq k y) [
      | inl is_y ↦ subst (λ (r : ℕ). Good_of now r) (sym is_y) (steady_now long)
      | inr off ↦ same_good k off (steady_before long k)
    ]

    unsteady_if : (k : ℕ) → (Good_of now k → ⊥) → before < most_ticks_right
    unsteady_if k bad = elim (cases_lt before most_ticks_right) [
      | inl less ↦ less
      | inr long ↦ absurd (bad (steady long k))
    ]

    unsteady_before : (k : ℕ) → (Good_of old k → ⊥) → before < most_ticks_right
    unsteady_before k bad = elim (cases_lt before most_ticks_right) [
      | inl less ↦ less
      | inr long ↦ absurd (bad (steady_before long k))
    ]

    at_y : (f : Place) → f.router ≡ y → Good_of now f.router → Good_of now y
    at_y f is_y good = subst (λ (k : ℕ). Good_of now k) is_y good

    waits_then : (S : Type 0) → (before < most_ticks_right → S) → (x port : ℕ) (f : Place) (w : Wanting x) → Source_of x w.v port f
        → Waits_by left old queue x f S → Waits_by rest now (queue ++ new) x f S
    waits_then S unsteady_does x port f w source waits = elim (good_or_not given f.router
        (facts_of given now f.router)) [
          | inr bad ↦ inr (inr (inl (unsteady_if f.router bad, bad)))
          | inl good ↦ by (fine f good) good waits (cases_eq f.router y)
        ]
      where
        last : AllByRecursion (Is_fine f) new → AnyIs (Pends x f) new → Ending x f (queue ++ new)
        last all any =
            ends_behind given before x f queue new
            (any_ends given before x f new any all)

        by : AllByRecursion (Is_fine f) new → Good_of now f.router → Waits_by left old queue x f S → (f.router ≡ y) ⊎ (f.router ≢ y)
            → Waits_by rest now (queue ++ new) x f S
        by all good (inl early) c = inl early
        by all good (inr (inl (at_zero, due, s))) (inr off) = inr (inl (at_zero, sym (others f.router off) ∙ due, s))
        by all good (inr (inl (at_zero, due, s))) (inl is_y) = elim (told x port f w source is_y (ap clock (sym is_y) ∙ at_zero) (ap left (sym is_y) ∙ due)) [
          | inl still ↦ inr (inl (at_zero, ap rest is_y ∙ still, s))
          | inr says ↦ inr (inr (inr (s, last all (says (at_y f is_y good)))))
        ]
        by all good (inr (inr (inl (unsteady, bad)))) (inr off) = absurd (bad (good_same f.router off good))
        by all good (inr (inr (inl (unsteady, bad)))) (inl is_y) =
            inr (inr (inr (
              unsteady_does unsteady,
              last all (turned x port f w source is_y (at_y f is_y good) (λ was. bad (subst (λ (k : ℕ). Good_of old k) (sym is_y) was))),
            )))
        by all good (inr (inr (inr (s, ends)))) c =
            inr (inr (inr (s, ends_more given before x f queue new ends all)))

    pub calm_then : ((x port : ℕ) (f : Place) (w : Wanting x) → Source_of x w.v port f → Good_of old f.router → Is_calm x f queue)
        → (x port : ℕ) (f : Place) (w : Wanting x) → Source_of x w.v port f → Good_of now f.router → Is_calm x f (queue ++ new)
    calm_then calm x port f w source good = elim (good_or_not given f.router
        (facts_of given old f.router)) [
          | inl was ↦ still (calm x port f w source was)
          | inr bad ↦ elim (cases_eq f.router y) [
            | inr off ↦ absurd (bad (good_same f.router off good))
            | inl is_y ↦ inr (
              unsteady_before f.router bad,
              ends_behind given before x f queue new
                  (any_ends given before x f new
                  (turned x port f w source is_y (at_y f is_y good) (λ was. bad (subst (λ (k : ℕ). Good_of old k) (sym is_y) was))) (fine f good)),
            )
          ]
        ]
      where
        still : Is_calm x f queue → Is_calm x f (queue ++ new)
        still (inl all) = inl (all-append (Is_fine f) queue new all (fine f good))
        still (inr (unsteady, ends)) =
            inr (unsteady, ends_more given before x f queue new ends (fine f good))

    pub state_then : (mine x : ℕ) (w : Wanting x) (facts : List (Fact RouteOffer)) → State_of mine left old queue x w facts → State_of mine rest now (queue ++ new) x w facts
    state_then mine x w facts state = record {
      aged = λ h f e right. elim (state.aged h f e right) [
        | inl young ↦ inl young
        | inr late ↦ inr (waits_then ((h.age + mine ≤ period + 1) ⊎ (before < most_ticks_right)) (λ unsteady. inr unsteady) x h.offer.port f w right.source late)
      ];
      holds = elim state.holds [
        | inl held ↦ inl held
        | inr later ↦
            inr (later.0, later.1, later.2, waits_then (before < most_ticks_right) (λ unsteady. unsteady) x later.0 later.1 w later.2 later.3)
      ];
    }
