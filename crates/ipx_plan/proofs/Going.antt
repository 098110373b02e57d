-- The law of clients: which tunnels go on.
use Rattle.std.proofs.Common.{◌≡◌, ◌⊎◌, ◌∙◌, sym, ap, ap₂, ℕ, Bool, true, false, ◌&&◌, ◌||◌, ◌==◌, not, if◌then◌else◌, inl, inr, List, slice_get, Option, Some, None, option_map}
use Rattle.std.proofs.lemmas.Bool.{cases_Bool, false≢true, and_parts, not-false, not_from_true}
use Rattle.std.proofs.lemmas.Option.{same_Some}
use Rattle.ipx_plan.specs.declared.link.Link.{Link}
use Rattle.ipx_plan.specs.declared.fate.Fate.{Fate}
use Rattle.ipx_plan.specs.declared.origin.Origin.{Origin}
use Rattle.ipx_plan.specs.declared.origin.Tunnel.{Tunnel}
use Rattle.ipx_plan.specs.declared.origin.Tunnel.TheVariants.{Absent, Stays, Again, New}
use Rattle.ipx_plan.specs.Carriers.{is_tunnel, tunnel_port}
use Rattle.ipx_plan.specs.Likeness.{same_link}
use Rattle.ipx_plan.specs.Pairing.{Continues, becomes}
use Rattle.ipx_plan.specs.Tunnels.{is_found, is_same_tunnel, tunnel, ends_tunnel}
use Rattle.ipx_plan.specs.Routing.{keeps_router}
use Rattle.ipx_plan.specs.Planned.{Planned, IsPlan, link_of, fate}
use Rattle.ipx_plan.specs.Laws.{was_of, tunnel_of, GoesOn}
use Rattle.ipx_plan.proofs.Pairs.{becomes_continues, cases_becomes}
use Rattle.ipx_plan.proofs.Planning.{was, cables, origin_there, fate_there, was_is, becomes_at, new_there}

-- ---- two links

found_tunnels : (a b : Link) → is_found a b ≡ true → (is_tunnel a.carrier ≡ true) × (is_tunnel b.carrier ≡ true)
found_tunnels a b is =
    let front = and_parts (is_tunnel a.carrier && is_tunnel b.carrier && (tunnel_port a.carrier == tunnel_port b.carrier)) (not (tunnel_port a.carrier == 0) || same_link a b) is in
    let more = and_parts (is_tunnel a.carrier && is_tunnel b.carrier) (tunnel_port a.carrier == tunnel_port b.carrier) front.0 in
    and_parts (is_tunnel a.carrier) (is_tunnel b.carrier) more.0

module _ (router : Bool) (a b : Link) where
  goes_on : is_found a b ≡ true → (tunnel router (Some a) b ≡ Stays) ⊎ (tunnel router (Some a) b ≡ Again)
  goes_on found =
      let there : is_tunnel b.carrier ≡ true = (found_tunnels a b found).1 in
      let is : tunnel router (Some a) b ≡ (if is_same_tunnel router a b then Stays else Again) =
      ap₂ (λ (x y : Bool). if not x then Absent else if not y then New else if is_same_tunnel router a b then Stays else Again) there found in
      elim (cases_Bool (is_same_tunnel router a b)) [
        | inl same ↦ inl (is ∙ ap (λ (x : Bool). if x then Stays else Again) same)
        | inr other ↦ inr (is ∙ ap (λ (x : Bool). if x then Stays else Again) other)
      ]

  new_or_none : is_found a b ≡ false → (tunnel router (Some a) b ≡ Absent) ⊎ (tunnel router (Some a) b ≡ New)
  new_or_none lost = elim (cases_Bool (is_tunnel b.carrier)) [
    | inl there ↦
        inr (ap₂ (λ (x y : Bool). if not x then Absent else if not y then New else if is_same_tunnel router a b then Stays else Again) there lost)
    | inr none ↦
        inl (ap (λ (x : Bool). if not x then Absent else if not (is_found a b) then New else if is_same_tunnel router a b then Stays else Again) none)
  ]

neither : (t : Tunnel) → (t ≡ Absent) ⊎ (t ≡ New) → (Some t ≡ Some Stays) ⊎ (Some t ≡ Some Again) → ⊥
neither t (inl x) (inl y) = cc
neither t (inl x) (inr y) = cc
neither t (inr x) (inl y) = cc
neither t (inr x) (inr y) = cc

module _ (old new : List Link) (plan : Planned) (is : IsPlan old new plan) where
  abbrev plan_was : List (Option ℕ)
  plan_was = was old new plan is

  abbrev router : Bool
  router = keeps_router old new

  tunnel_there : (j k : ℕ) (a b : Link) → Continues plan_was j k → slice_get old j ≡ Some a → slice_get new k ≡ Some b
      → tunnel_of plan k ≡ Some (tunnel router (Some a) b)
  tunnel_there j k a b w there here =
      ap (option_map (λ (o : Origin). o.tunnel)) (origin_there old new plan is k b here)
      ∙ ap (λ (o : Option Link). Some (tunnel router o b)) (ap (link_of old) w ∙ there)

  goes_at : (j k : ℕ) (a b : Link) → Continues plan_was j k → slice_get old j ≡ Some a → slice_get new k ≡ Some b → is_found a b ≡ true → GoesOn plan k
  goes_at j k a b w there here found = elim (goes_on router a b found) [
    | inl stays ↦ inl (tunnel_there j k a b w there here ∙ ap Some stays)
    | inr again ↦ inr (tunnel_there j k a b w there here ∙ ap Some again)
  ]

  pub stays_there : (j k : ℕ) (a b : Link) → was_of plan k ≡ Some j → slice_get old j ≡ Some a → slice_get new k ≡ Some b → is_found a b ≡ true → GoesOn plan k
  stays_there j k a b w there here found = goes_at j k a b (sym (was_is old new plan is k) ∙ w) there here found

  fate_ends : (j : ℕ) (a : Link) (f : Fate) → slice_get old j ≡ Some a → slice_get plan.fates j ≡ Some f
      → f.ends_tunnel ≡ ends_tunnel a (link_of new (becomes plan_was j))
  fate_ends j a f there has =
      ap (λ (x : Fate). x.ends_tunnel) (same_Some f (fate old new (cables old new plan is) (becomes plan_was j) j a) (sym has ∙ fate_there old new plan is j a there))

  module _ (j : ℕ) (a : Link) (f : Fate) (there : slice_get old j ≡ Some a) (tunnel_is : is_tunnel a.carrier ≡ true) (has : slice_get plan.fates j ≡ Some f) where
    -- by the link that continues it
    ends_by : (k : ℕ) (b : Link) → becomes plan_was j ≡ Some k → slice_get new k ≡ Some b → f.ends_tunnel ≡ not (is_found a b)
    ends_by k b next here =
        fate_ends j a f there has ∙ ap (λ (o : Option Link). ends_tunnel a o) (ap (link_of new) next ∙ here)
        ∙ ap (λ (x : Bool). x && not (is_found a b)) tunnel_is

    ends_alone : becomes plan_was j ≡ None → f.ends_tunnel ≡ true
    ends_alone none = fate_ends j a f there has ∙ ap (λ (o : Option Link). ends_tunnel a o) (ap (link_of new) none) ∙ tunnel_is

    on_at : f.ends_tunnel ≡ false → (k : ℕ) × (was_of plan k ≡ Some j) × GoesOn plan k
    on_at goes = elim (cases_becomes plan_was j) [
      | inl none ↦ absurd (false≢true (sym goes ∙ ends_alone none))
      | inr some ↦
          let k = some.0 in
          let w = becomes_continues plan_was j k some.1 in
          let next = new_there old new plan is j k w in
          let found = not-false (is_found a next.0) (sym (ends_by k next.0 some.1 next.1) ∙ goes) in
          (k, was_is old new plan is k ∙ w, goes_at j k a next.0 w there next.1 found)
    ]

    from_on : (k : ℕ) → was_of plan k ≡ Some j → GoesOn plan k → f.ends_tunnel ≡ false
    from_on k is_so goes =
        let w = sym (was_is old new plan is k) ∙ is_so in
        let next = new_there old new plan is j k w in
        elim (cases_Bool (is_found a next.0)) [
          | inl found ↦ ends_by k next.0 (becomes_at old new plan is j k w) next.1 ∙ not_from_true (is_found a next.0) found
          | inr lost ↦
              let at = tunnel_there j k a next.0 w there next.1 in
              absurd (neither (tunnel router (Some a) next.0) (new_or_none router a next.0 lost) (elim goes [
                | inl stays ↦ inl (sym at ∙ stays)
                | inr again ↦ inr (sym at ∙ again)
              ]))
        ]

    pub ends_or_goes : (f.ends_tunnel ≡ false → (k : ℕ) × (was_of plan k ≡ Some j) × GoesOn plan k)
        × (((k : ℕ) × (was_of plan k ≡ Some j) × GoesOn plan k) → f.ends_tunnel ≡ false)
    ends_or_goes = (λ goes. on_at goes, λ on. from_on on.0 on.1 on.2)
