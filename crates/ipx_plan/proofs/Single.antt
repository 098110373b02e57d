-- Two lists allow one pairing alone.
use Rattle.std.proofs.Common.{◌≡◌, ◌≢◌, ◌⊎◌, ◌∙◌, refl, sym, ap, subst, arith, ℕ, zero, suc, ◌<◌, inl, inr, List, get_or, ext_get_or, Option, Some, None}
use Rattle.std.proofs.lemmas.Bool.{cases_eq}
use Rattle.std.proofs.lemmas.Option.{same_Some}
use Rattle.ipx_plan.specs.declared.link.Link.{Link}
use Rattle.ipx_plan.specs.Likeness.{distance_at}
use Rattle.ipx_plan.specs.Pairing.{Continues, ComesFirst, IsPairing}

-- what comes first and isn't it comes before
comes_before : (distance place other_distance other_place : ℕ) → ComesFirst distance place other_distance other_place → place ≢ other_place
    → (distance < other_distance) ⊎ ((distance ≡ other_distance) × (place < other_place))
comes_before distance place other_distance other_place (inl less) other = inl less
comes_before distance place other_distance other_place (inr near) other = inr (near.0, omega (arith, near.1, other))

module _ (old new : List Link) where
  abbrev far : ℕ → ℕ → ℕ
  far = distance_at old new

  module _ (p q : List (Option ℕ)) (p_is : IsPairing old new p) (q_is : IsPairing old new q) where
    -- one that all pairs which come before it agree on
    same_pair : (j k : ℕ)
        → ((i : ℕ) → (far i k < far j k) ⊎ ((far i k ≡ far j k) × (i < j)) → Continues q i k → Continues p i k)
        → ((l : ℕ) → (far j l < far j k) ⊎ ((far j l ≡ far j k) × (l < k)) → Continues q j l → Continues p j l)
        → Continues p j k → Continues q j k
    same_pair j k of_new of_old there = elim (q_is.nearest j k (p_is.alike j k there)) [
      | inl by_new ↦ elim (cases_eq by_new.0 j) [
        | inl itself ↦ subst (λ (i : ℕ). Continues q i k) itself by_new.1
        | inr other ↦
            let also = of_new by_new.0 (comes_before (far by_new.0 k) by_new.0 (far j k) j by_new.2 other) by_new.1 in
            absurd (other (same_Some by_new.0 j (sym also ∙ there)))
      ]
      | inr by_old ↦ elim (cases_eq by_old.0 k) [
        | inl itself ↦ subst (λ (l : ℕ). Continues q j l) itself by_old.1
        | inr other ↦
            let also = of_old by_old.0 (comes_before (far j by_old.0) by_old.0 (far j k) k by_old.2 other) by_old.1 in
            absurd (other (p_is.once j by_old.0 k also there))
      ]
    ]

  module _ (p q : List (Option ℕ)) (p_is : IsPairing old new p) (q_is : IsPairing old new q) where
    abbrev Agrees : ℕ → ℕ → Type 0
    Agrees j k = (Continues p j k → Continues q j k) × (Continues q j k → Continues p j k)

    agrees_after : (j k : ℕ)
        → ((i : ℕ) → (far i k < far j k) ⊎ ((far i k ≡ far j k) × (i < j)) → Agrees i k)
        → ((l : ℕ) → (far j l < far j k) ⊎ ((far j l ≡ far j k) × (l < k)) → Agrees j l)
        → Agrees j k
    agrees_after j k of_new of_old = (
      same_pair p q p_is q_is j k (λ i before. (of_new i before).1) (λ l before. (of_old l before).1),
      same_pair q p q_is p_is j k (λ i before. (of_new i before).0) (λ l before. (of_old l before).0),
    )

    module _ (r : ℕ) (nearer : (j k : ℕ) → far j k < r → Agrees j k) where
      module _ (n : ℕ) (above : (j k : ℕ) → far j k ≡ r → k < n → Agrees j k) where
        along : (m j : ℕ) → far j n ≡ r → j < m → Agrees j n
        along zero j distance less = absurd (omega (arith, less))
        along (suc m) j distance less =
            agrees_after j n
            (λ i before. elim before [
              | inl near ↦ nearer i n (omega (arith, near, distance))
              | inr left ↦ along m i (left.0 ∙ distance) (omega (arith, left.1, less))
            ])
            (λ l before. elim before [
              | inl near ↦ nearer j l (omega (arith, near, distance))
              | inr up ↦ above j l (up.0 ∙ distance) up.1
            ])

      down : (n j k : ℕ) → far j k ≡ r → k < n → Agrees j k
      down zero j k distance less = absurd (omega (arith, less))
      down (suc n) j k distance less = elim (cases_eq k n) [
        | inl last ↦
            let here : far j n ≡ r = ap (far j) (sym last) ∙ distance in
            subst (λ (l : ℕ). Agrees j l) (sym last) (along n (down n) (suc j) j here (omega arith))
        | inr other ↦ down n j k distance (omega (arith, less, other))
      ]

    within : (r j k : ℕ) → far j k < r → Agrees j k
    within zero j k less = absurd (omega (arith, less))
    within (suc r) j k less = elim (cases_eq (far j k) r) [
      | inl here ↦ down r (within r) (suc k) j k here (omega arith)
      | inr other ↦ within r j k (omega (arith, less, other))
    ]

    agrees : (j k : ℕ) → Agrees j k
    agrees j k = within (suc (far j k)) j k (omega arith)

    same_at : (k : ℕ) (o : Option ℕ) → get_or p k None ≡ o → o ≡ get_or q k None
    same_at k (Some j) is = sym ((agrees j k).0 is)
    same_at k None is = elim (get_or q k None) as (λ u. get_or q k None ≡ u → None ≡ u) [
      | None ↦ λ e. refl
      | Some j ↦ λ e. sym is ∙ (agrees j k).1 e
    ] refl

    pub one_way : p ≡ q
    one_way = ext_get_or None p q (p_is.count ∙ sym q_is.count) (λ k less. same_at k (get_or p k None) refl)
