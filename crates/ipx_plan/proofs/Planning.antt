-- What a plan says of one link.
use Rattle.std.proofs.Common.{◌≡◌, ◌∙◌, sym, ap, arith, ℕ, ◌<◌, inl, inr, List, length, map, get_or, slice_get, Option, Some, None, option_map, option_and_then}
use Rattle.std.proofs.lemmas.Bool.{cases_lt, cases_eq}
use Rattle.std.proofs.lemmas.List.{get_or_past}
use Rattle.std.proofs.lemmas.Option.{none-some, slice_get-map}
use Rattle.ipx_plan.specs.declared.link.Link.{Link}
use Rattle.ipx_plan.specs.declared.fate.Fate.{Fate}
use Rattle.ipx_plan.specs.declared.origin.Cable.{Cable}
use Rattle.ipx_plan.specs.declared.origin.Origin.{Origin}
use Rattle.ipx_plan.specs.Likeness.{apart, distance_at}
use Rattle.ipx_plan.specs.Pairing.{Continues, becomes}
use Rattle.ipx_plan.specs.Cables.{is_as_before, cable}
use Rattle.ipx_plan.specs.Planned.{Planned, IsPlan, link_of, origin, origins, fate, fates}
use Rattle.ipx_plan.specs.Laws.{was_of, becomes_of, cable_of}
use Rattle.ipx_plan.proofs.Alike.{cases_get, get_within, distance_at_most}
use Rattle.ipx_plan.proofs.Each.{made_long, made_there}
use Rattle.ipx_plan.proofs.Pairs.{old_within, new_within, becomes_continues, continues_becomes, none_continues, cases_becomes}
use Rattle.ipx_plan.proofs.Single.{one_way}

module _ (old new : List Link) (plan : Planned) (is : IsPlan old new plan) where
  abbrev pub was : List (Option ℕ)
  was = is.was

  abbrev pub cables : List Cable
  cables = map (λ (o : Origin). o.cable) (origins old new was)

  abbrev origin_at : ℕ × Link → Origin
  origin_at p = origin old new (get_or was p.0 None) p.0 p.1

  abbrev fate_at : ℕ × Link → Fate
  fate_at p = fate old new cables (becomes was p.0) p.0 p.1

  -- ---- its parts

  pub origins_long : length plan.origins ≡ length new
  origins_long = ap length is.origins ∙ made_long origin_at new

  pub fates_long : length plan.fates ≡ length old
  fates_long = ap length is.fates ∙ made_long fate_at old

  pub origin_there : (k : ℕ) (link : Link) → slice_get new k ≡ Some link → slice_get plan.origins k ≡ Some (origin old new (get_or was k None) k link)
  origin_there k link there =
      ap (λ (l : List Origin). slice_get l k) is.origins ∙ made_there origin_at new k ∙ ap (option_map (λ (x : Link). origin_at (k, x))) there

  pub origin_past : (k : ℕ) → slice_get new k ≡ None → slice_get plan.origins k ≡ None
  origin_past k none =
      ap (λ (l : List Origin). slice_get l k) is.origins ∙ made_there origin_at new k ∙ ap (option_map (λ (x : Link). origin_at (k, x))) none

  pub fate_there : (j : ℕ) (link : Link) → slice_get old j ≡ Some link → slice_get plan.fates j ≡ Some (fate old new cables (becomes was j) j link)
  fate_there j link there =
      ap (λ (l : List Fate). slice_get l j) is.fates ∙ made_there fate_at old j ∙ ap (option_map (λ (x : Link). fate_at (j, x))) there

  pub fate_past : (j : ℕ) → slice_get old j ≡ None → slice_get plan.fates j ≡ None
  fate_past j none =
      ap (λ (l : List Fate). slice_get l j) is.fates ∙ made_there fate_at old j ∙ ap (option_map (λ (x : Link). fate_at (j, x))) none

  -- ---- who continues whom

  pub was_is : (k : ℕ) → was_of plan k ≡ get_or was k None
  was_is k = elim (cases_get new k) [
    | inl none ↦
        ap (option_and_then (λ (o : Origin). o.was)) (origin_past k none)
        ∙ (elim (cases_lt k (length new)) [
          | inl within ↦ absurd (none-some (get_within new k within).0 (sym none ∙ (get_within new k within).1))
          | inr past ↦ sym (get_or_past was k None (omega (arith, past, is.pairing.count)))
        ])
    | inr some ↦ ap (option_and_then (λ (o : Origin). o.was)) (origin_there k some.0 some.1)
  ]

  pub old_there : (j k : ℕ) → Continues was j k → (link : Link) × (slice_get old j ≡ Some link)
  old_there j k there = get_within old j (old_within old new j k (is.pairing.alike j k there))

  pub new_there : (j k : ℕ) → Continues was j k → (link : Link) × (slice_get new k ≡ Some link)
  new_there j k there = get_within new k (new_within old new j k (is.pairing.alike j k there))

  pub becomes_is : (j : ℕ) → becomes_of plan j ≡ becomes was j
  becomes_is j = elim (cases_get old j) [
    | inl none ↦
        ap (option_and_then (λ (f : Fate). f.becomes)) (fate_past j none)
        ∙ (elim (cases_becomes was j) [
          | inl nobody ↦ sym nobody
          | inr some ↦
              let there = old_there j some.0 (becomes_continues was j some.0 some.1) in
              absurd (none-some there.0 (sym none ∙ there.1))
        ])
    | inr some ↦ ap (option_and_then (λ (f : Fate). f.becomes)) (fate_there j some.0 some.1)
  ]

  pub becomes_at : (j k : ℕ) → Continues was j k → becomes was j ≡ Some k
  becomes_at j k there =
      let found = continues_becomes was j k there in
      found.1 ∙ ap Some (is.pairing.once j found.0 k (becomes_continues was j found.0 found.1) there)

  pub both_ways : (j k : ℕ) → (was_of plan k ≡ Some j → becomes_of plan j ≡ Some k) × (becomes_of plan j ≡ Some k → was_of plan k ≡ Some j)
  both_ways j k = (
    λ w. becomes_is j ∙ becomes_at j k (sym (was_is k) ∙ w),
    λ b. was_is k ∙ becomes_continues was j k (sym (becomes_is j) ∙ b),
  )

  pub is_alike : (j k : ℕ) → was_of plan k ≡ Some j → distance_at old new j k < apart
  is_alike j k w = is.pairing.alike j k (sym (was_is k) ∙ w)

  pub none_left : (j k : ℕ) → was_of plan k ≡ None → becomes_of plan j ≡ None → distance_at old new j k ≡ apart
  none_left j k added removed = elim (cases_eq (distance_at old new j k) apart) [
    | inl far ↦ far
    | inr other ↦ elim (is.pairing.nearest j k (omega (arith, other, distance_at_most old new j k))) [
      | inl new_has ↦ absurd (none-some new_has.0 (sym (sym (was_is k) ∙ added) ∙ new_has.1))
      | inr old_has ↦ absurd (none_continues was j (sym (becomes_is j) ∙ removed) old_has.0 old_has.1)
    ]
  ]

  -- ---- its cable

  abbrev pub before : ℕ → Option Link
  before k = link_of old (get_or was k None)

  pub cable_there : (k : ℕ) (link : Link) → slice_get new k ≡ Some link
      → cable_of plan k ≡ Some (cable old new (get_or was k None) (is_as_before (before k) link) k link)
  cable_there k link there = ap (option_map (λ (o : Origin). o.cable)) (origin_there k link there)

  pub cable_listed : (k : ℕ) → slice_get cables k ≡ cable_of plan k
  cable_listed k =
      slice_get-map (λ (o : Origin). o.cable) (origins old new was) k
      ∙ ap (λ (l : List Origin). option_map (λ (o : Origin). o.cable) (slice_get l k)) (sym is.origins)

-- ---- there is one

pub same_plan : (old new : List Link) (a b : Planned) → IsPlan old new a → IsPlan old new b → a ≡ b
same_plan old new a b one other =
    let same : one.was ≡ other.was = one_way old new one.was other.was one.pairing other.pairing in
    let origins_same : a.origins ≡ b.origins = one.origins ∙ ap (origins old new) same ∙ sym other.origins in
    let fates_same : a.fates ≡ b.fates = one.fates ∙ ap (fates old new) same ∙ sym other.fates in
    let router_same : a.keeps_router ≡ b.keeps_router = one.router ∙ sym other.router in
    λ i. record { origins = origins_same i; fates = fates_same i; keeps_router = router_same i }
