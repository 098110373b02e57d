-- Where all tables are right and real, and more ports are up in the end: each router has the route of its least way in the end, or, by a neighbour from
-- which such a way comes, one of their two ports isn't up yet, or the neighbour isn't right for now.
use Rattle.std.proofs.Common.{◌≡◌, refl, sym, ap, ◌∙◌, subst, ◌⊎◌, ℕ, ◌+◌, ◌*◌, ◌<◌, ◌≤◌, ◌==◌, true, false, List, length, Option, Some, option_map, inl, inr, arith, is_eq, true≢false}
use Rattle.std.proofs.lemmas.Bool.{cases_Bool}
use Rattle.ipx_table.specs.Alive.{lifetime}
use Rattle.ipx_table.specs.declared.held.Held.{Held}
use Rattle.ipx_router.specs.Facts.{route_facts, routes_held, offers}
use Rattle.ipx_router.specs.History.{History}
use Rattle.ipx_router.specs.Port.{is_up}
use Rattle.ipx_router.specs.Routes.{network_order}
use Rattle.ipx_router.specs.declared.route_offer.RouteOffer.{RouteOffer}
use Rattle.ipx_internet.specs.Internet.{Place, ports_of}
use Rattle.ipx_internet.specs.Queue.{history_of}
use Rattle.ipx_internet.proofs.lists.EachElement.{all_then}
use Rattle.ipx_laws.specs.Gone.{most_ticks_gone}
use Rattle.ipx_laws.specs.Least.{Way, is_on, is_up_on, least_route, way_of}
use Rattle.ipx_laws.specs.Real.{IsReal}
use Rattle.ipx_laws.specs.Tables.{AreReal, AreRight}
use Rattle.ipx_laws.specs.Ups.{ups}
use Rattle.ipx_laws.proofs.gains.MoreUpIsNoWorse.{own_too, no_worse}
use Rattle.ipx_laws.proofs.gains.RealWhileGaining.{RealAt, real_more, real_held}
use Rattle.ipx_laws.proofs.gains.RightWhenQuiet.{HasRight, GoodNow}
use Rattle.ipx_laws.proofs.tables.Given.{Given, FineOf}
use Rattle.ipx_laws.proofs.tables.GoodRoutesStay.{right_where_least}
use Rattle.ipx_laws.proofs.tables.LastWords.{WantsOf, Sources, known_by, good_or_not}
use Rattle.ipx_laws.proofs.tables.LeastRouteSurvives.{RoutesAged, known_is}
use Rattle.ipx_laws.proofs.tables.LeastWays.{NoWorse, IsNeighbour, both_no_worse, ups_within, within, on_or_off, OnOrOff, own, own_there, is_there, same_some, few, enough, none_better}
use Rattle.ipx_laws.proofs.tables.NoRouteIsBetter.{a_source}
use Rattle.ipx_laws.proofs.tables.RightWithinAMinute.{find_same, tied}
use Rattle.ipx_laws.proofs.tables.SaysWhatItKnows.{wants, found_so}

-- a record of that way, where its offer is found
held_with : (v : Way) (o : Option (Held RouteOffer)) → option_map way_of (option_map (λ h. h.offer) o) ≡ Some v → (h : Held RouteOffer) × (o ≡ Some h) × (way_of h.offer ≡ v)
held_with v o e = grind arith

module _ (given : Given) (histories : List History)
    (more_up : (router j : ℕ) → is_up (ups given.net histories router) j ≡ true → is_up (given.up router) j ≡ true)
    (real : AreReal given.net given.most_routes histories (ups given.net histories)) (right : AreRight given.net given.most_routes histories (ups given.net histories)) where
  open given use {net, laws, is, cheap, up, in_ports, most_routes, most_services, network, suffice}

  abbrev Wanting : ℕ → Type 0
  Wanting = WantsOf given

  abbrev at_first : ℕ → Option Way
  at_first router = within net (ups net histories) (ups_within net histories) network 15 router

  abbrev known : (x : ℕ) → Wanting x → Option (Held RouteOffer)
  known x w = known_by given x w (route_facts (ports_of net x) (history_of histories x))

  -- what a router holds is of its least way at first
  least_off : (x : ℕ) → is_on (ports_of net x) network ≡ false → least_route net (ups net histories) x network ≡ at_first x
  least_off x off = rw off refl

  held_first : (x : ℕ) (w : Wanting x) → option_map way_of (option_map (λ h. h.offer) (known x w)) ≡ at_first x
  held_first x w =
      let routes = offers (routes_held (ports_of net x) most_routes (history_of histories x)) in
      ap (option_map way_of) (sym (found_so given x w (history_of histories x)))
      ∙ ap (option_map way_of) (sym (find_same (λ r. r.network.0 == network.0) (λ o. is_eq (network_order o.network network)) (λ r. tied r.network.0 network.0) routes))
      ∙ right x network (is_there net up in_ports network 15 x w.v w.least) ∙ least_off x w.off

  -- where that is the least way in the end, too, it is right
  right_held : (x : ℕ) (w : Wanting x) → at_first x ≡ Some w.v → HasRight given histories x w
  right_held x w e =
      let (h, some, way) = held_with w.v (known x w) (held_first x w ∙ e) in
      let found = known_is given x w.v w.off w.least w.wanted most_ticks_gone (omega arith)
      (route_facts (ports_of net x) (history_of histories x)) all_fine h some in
      let (from, is_right) = right_where_least given x w.v w.off w.least h.offer found.0 found.1 (sym way) in
      (h, from, some, is_right)
    where
      all_real : RealAt net laws is most_routes most_services up x (route_facts (ports_of net x) (history_of histories x))
      all_real =
          real_held net laws is most_routes most_services up x (history_of histories x)
          (all_then (IsReal net (ups net histories) x) (IsReal net up x) (λ r here. real_more net (ups net histories) up more_up here)
          (offers (routes_held (ports_of net x) most_routes (history_of histories x))) (real x (is_there net up in_ports network 15 x w.v w.least)))

      all_fine : RoutesAged given x w.v w.off w.least w.wanted most_ticks_gone (route_facts (ports_of net x) (history_of histories x))
      all_fine =
          all_then (λ h. IsReal net up x h.offer ⊎ (most_ticks_gone ≤ 0 + (0 + lifetime) * h.offer.hops + h.age))
          (λ h. FineOf given x h.offer ⊎ (most_ticks_gone ≤ 0 + (0 + lifetime) * h.offer.hops + h.age))
          (λ h either. elim either [ inl is_real ↦ inl (λ unlisted. is_real) | inr old ↦ inr old ]) _ all_real

  -- a neighbour that is right for now had its way at first
  neighbour_had : (y : ℕ) (way : Way) → within net up in_ports network 15 y ≡ Some way
      → GoodNow given histories y → at_first y ≡ Some way
  neighbour_had y way e good = by (on_or_off net up in_ports network y)
    where
      there : y < length net
      there = is_there net up in_ports network 15 y way e

      by : OnOrOff net up in_ports network y → at_first y ≡ Some way
      by (inl on) =
          let ports = ports_of net y in
          let (u, some) = own_there ports (ups net histories y) network (good.1 on) in
          let first = own net (ups net histories) (ups_within net histories) network 15 y there on ∙ some in
          let last = own net up in_ports network 15 y there on in
          first ∙ sym (own_too net is (ups net histories) up (ups_within net histories) in_ports more_up network y u some) ∙ sym last ∙ e
      by (inr off) =
          let second = wants given y way off e in
          let (h, some, same) = good.0 second in
          let v = same_some net up in_ports network (within net up in_ports network 15 y) second.v way second.least e in
          sym (held_first y second) ∙ ap (λ (o : Option (Held RouteOffer)). option_map way_of (option_map (λ h. h.offer) o)) some ∙ ap Some (same ∙ v)

  -- so a router whose neighbour is right for now, and whose ports are up, had it too
  router_had : (x : ℕ) (w : Wanting x) (port : ℕ) (f : Place) → (source : Sources given x w.v port f)
      → is_up (ups net histories x) port ≡ true → is_up (ups net histories f.router) f.port ≡ true
      → GoodNow given histories f.router → at_first x ≡ Some w.v
  router_had x w port f source here there good =
      let hops = ap (λ (y : Way). y.hops) source.by in
      let bound = few net up in_ports network 15 x w.v w.least in
      let first = neighbour_had f.router source.way source.there good in
      let deeper = enough net (ups net histories) (ups_within net histories) network 14 f.router source.way first (omega (arith, hops, bound)) in
      let neighbour : IsNeighbour net (ups net histories) (ups_within net histories) x port f = record {
        other = source.neighbour.other;
        place = source.neighbour.place;
        here = source.neighbour.here;
        network = source.neighbour.network;
        on_here = here;
        on_there = there;
      } in
      let (v, is_v, least) = none_better net (ups net histories) (ups_within net histories) network 14 x port f source.way neighbour w.off deeper in
      let (u, is_u, less) = no_worse net is (ups net histories) up (ups_within net histories) in_ports more_up network x v is_v in
      let same = same_some net up in_ports network (within net up in_ports network 15 x) u w.v is_u w.least in
      is_v ∙ ap Some (both_no_worse v w.v (subst (λ (y : Way). NoWorse v y) (sym source.by) least) (subst (λ (y : Way). NoWorse y v) same less))

  -- ---- why a router isn't right yet, by a neighbour

  abbrev pub NotYet : ℕ → ℕ → Place → Type 0
  NotYet x port f =
      (is_up (ups net histories x) port ≡ false) ⊎ ((is_up (ups net histories f.router) f.port ≡ false)
      ⊎ (GoodNow given histories f.router → ⊥))

  good_now : (y : ℕ) → GoodNow given histories y
      ⊎ (GoodNow given histories y → ⊥)
  good_now y = elim (good_or_not given y (route_facts (ports_of net y) (history_of histories y))) [
    | inr bad ↦ inr (λ good. bad good.0)
    | inl good ↦ elim (cases_Bool (is_up_on (ports_of net y) (ups net histories y) network)) [
      | inl there ↦ inl (good, λ on. there)
      | inr none ↦ elim (cases_Bool (is_on (ports_of net y) network)) [
        | inl on ↦ inr (λ both. absurd (true≢false (sym (both.1 on) ∙ none)))
        | inr off ↦ inl (good, λ on. absurd (true≢false (sym on ∙ off)))
      ]
    ]
  ]

  pub turning : (x : ℕ) (w : Wanting x) → HasRight given histories x w
      ⊎ ((port : ℕ) × (f : Place) × Sources given x w.v port f × NotYet x port f)
  turning x w =
      let (port, f, source) = a_source net is cheap up in_ports network suffice x w.v w.off w.least in
      elim (cases_Bool (is_up (ups net histories x) port)) [
        | inr down ↦ inr (port, f, source, inl down)
        | inl here ↦ elim (cases_Bool (is_up (ups net histories f.router) f.port)) [
          | inr down ↦ inr (port, f, source, inr (inl down))
          | inl there ↦ elim (good_now f.router) [
            | inr bad ↦ inr (port, f, source, inr (inr bad))
            | inl good ↦ inl (right_held x w (router_had x w port f source here there good))
          ]
        ]
      ]
