-- A router that is right knows what it has to say of the network; and one that turns right has news of it for each neighbour.
use Rattle.std.proofs.Common.{◌≡◌, refl, sym, ap, ◌∙◌, subst, ℕ, ◌≤◌, false, List, map, find, Option, None, Some, option_map, inl, inr, is_eq}
use Rattle.std.specs.List.{AllByRecursion}
use Rattle.std.proofs.lemmas.Bool.{both_ways}
use Rattle.ipx_table.specs.declared.held.Held.{Held}
use Rattle.ipx_wire.specs.declared.network.Network.{Network}
use Rattle.ipx_router.specs.Facts.{route_facts, routes_held, offers}
use Rattle.ipx_router.specs.History.{History}
use Rattle.ipx_router.specs.News.{news}
use Rattle.ipx_router.specs.Routes.{route_reading, network_order}
use Rattle.ipx_router.specs.declared.route_offer.RouteOffer.{RouteOffer}
use Rattle.ipx_router.proofs.bounds.PacketsOfEachEvent.{network_total}
use Rattle.ipx_internet.specs.Internet.{Place, ports_of}
use Rattle.ipx_internet.proofs.lists.EachElement.{all_then}
use Rattle.ipx_internet.proofs.lists.FoundInAList.{nothing, it_is}
use Rattle.ipx_laws.specs.Gone.{most_ticks_gone}
use Rattle.ipx_laws.specs.Least.{Way, is_on, way_of}
use Rattle.ipx_laws.proofs.lists.SomeElement.{AnyIs}
use Rattle.ipx_laws.proofs.records.RecordsGrowOld.{at_last}
use Rattle.ipx_laws.proofs.tables.ChangeIsSaid.{change_said}
use Rattle.ipx_laws.proofs.tables.Given.{Given, FineOf, real_one}
use Rattle.ipx_laws.proofs.tables.GoodRoutesStay.{right_where_least}
use Rattle.ipx_laws.proofs.tables.LastWords.{WantsOf, Sources, known_by, GoodBy}
use Rattle.ipx_laws.proofs.tables.LeastRouteSurvives.{known_is}
use Rattle.ipx_laws.proofs.tables.LeastWays.{within, on_or_off, OnOrOff, same_some}
use Rattle.ipx_laws.proofs.tables.NoRouteIsBetter.{there_where_up}
use Rattle.ipx_laws.proofs.tables.RoomForEachNetwork.{real_wanted}
use Rattle.ipx_laws.proofs.tables.SaysWhatItKnows.{wants, RightFor, found_so, found_there, Knows, AllKnow, knows_on, knows_off, learned_elsewhere}
use Rattle.ipx_laws.proofs.ticks.RealOrSoonEnded.{Endures}

module _ (given : Given) where
  open given use {net, is, cheap, up, in_ports, most_routes, foreign, network}

  module _ (begun router had : ℕ) (history : History) (enough : most_ticks_gone ≤ had) (endures : Endures 0 0 net up foreign most_routes router had history) where
    abbrev routes : List RouteOffer
    routes = offers (routes_held (ports_of net router) most_routes history)

    -- a route to the network is one to a network that it isn't on
    pub all_off : AllByRecursion (λ r. r.network ≡ network → is_on (ports_of net router) network ≡ false) routes
    all_off =
        all_then (FineOf given router) (λ r. r.network ≡ network → is_on (ports_of net router) network ≡ false)
        (λ r fine named. subst (λ (n : Network). is_on (ports_of net router) n ≡ false) named
        (real_wanted net up (there_where_up net is cheap up in_ports network) (real_one given router r fine named))) routes
        (at_last route_reading network_order network_total most_routes (map (λ p. p.route_share) (ports_of net router)) (λ r. r.hops) (λ r. refl) 0 0
        (FineOf given router) had (route_facts (ports_of net router) history) enough endures.routes)

    module _ (good : GoodBy given router (route_facts (ports_of net router) history)) where
      -- the route that it holds, and from where
      pub good_right : (w : WantsOf given router)
          → (h : Held RouteOffer) × (from : Place)
          × (known_by given router w (route_facts (ports_of net router) history) ≡ Some h)
          × RightFor given router w from h.offer
      good_right w =
          let (h, some, way) = good w in
          let known = known_is given router w.v w.off w.least w.wanted had enough
          (route_facts (ports_of net router) history) endures.routes h some in
          let (from, right) = right_where_least given router w.v w.off w.least h.offer known.0 known.1 (sym way) in
          (h, from, some, right)

      pub knows : AllKnow given begun router routes
      knows u is_u near = by (on_or_off net up in_ports network router)
        where
          by : OnOrOff net up in_ports network router → Knows given begun router u routes
          by (inl on) = knows_on given begun router u routes on all_off
          by (inr off) =
              let w = wants given router u off is_u in
              let same = same_some net up in_ports network (within net up in_ports network 15 router) w.v u w.least is_u in
              let (h, some, way) = good w in
              let known = known_is given router w.v w.off w.least w.wanted had enough
              (route_facts (ports_of net router) history) endures.routes h some in
              subst (λ (x : Way). Knows given begun router x routes) same
              (knows_off given begun router w history h some known.1 way)

  -- a router that turns right says so to a neighbour whose way leads by it
  module _ (begun had : ℕ) (past now : History) (enough : most_ticks_gone ≤ had) (x port : ℕ) (w : WantsOf given x)
      (f : Place) (source : Sources given x w.v port f) (endures : Endures 0 0 net up foreign most_routes f.router had now)
      (good : GoodBy given f.router (route_facts (ports_of net f.router) now))
      (bad : GoodBy given f.router (route_facts (ports_of net f.router) past) → ⊥) where
    abbrev before : List RouteOffer
    before = offers (routes_held (ports_of net f.router) most_routes past)

    abbrev after : List RouteOffer
    after = offers (routes_held (ports_of net f.router) most_routes now)

    pub turn_is_news : AnyIs (λ e. e.network ≡ network) (news (ports_of net f.router) before after f.port)
    turn_is_news = by (on_or_off net up in_ports network f.router)
      where
        other : (second : WantsOf given f.router) (v : Way) → v ≡ second.v → (s : RouteOffer)
            → find (λ o. is_eq (network_order o.network network)) before ≡ Some s → way_of s ≡ v → ⊥
        other second v is_v s e same =
            held (known_by given f.router second (route_facts (ports_of net f.router) past)) refl
            (sym (found_so given f.router second past) ∙ e)
          where
            held : (o : Option (Held RouteOffer))
                → known_by given f.router second (route_facts (ports_of net f.router) past) ≡ o
                → option_map (λ y. y.offer) (known_by given f.router second
                (route_facts (ports_of net f.router) past)) ≡ Some s → ⊥
            held None none is = nothing (sym (ap (option_map (λ y. y.offer)) none) ∙ is)
            held (Some g) some is =
                let is_s : Some g.offer ≡ Some s = sym (ap (option_map (λ y. y.offer)) some) ∙ is in
                let way : way_of g.offer ≡ v = it_is (λ (r : RouteOffer). way_of r ≡ v → way_of g.offer ≡ v) s g.offer is_s (λ here. here) same in
                bad (λ third. (
                  g,
                  some,
                  way ∙ is_v
                      ∙ same_some net up in_ports network (within net up in_ports network 15 f.router) second.v third.v second.least third.least,
                ))

        by : OnOrOff net up in_ports network f.router → AnyIs (λ e. e.network ≡ network) (news (ports_of net f.router) before after f.port)
        by (inl on) = absurd (bad (λ second. absurd (both_ways (is_on (ports_of net f.router) network) second.off on)))
        by (inr off) =
            let second = wants given f.router source.way off source.there in
            let (h, from, some, right) = good_right begun f.router had now enough endures good second in
            let (g, is_g, way) = good second in
            let way_h : way_of h.offer ≡ second.v =
            it_is (λ (y : Held RouteOffer). way_of y.offer ≡ second.v) h g (sym is_g ∙ some) way in
            let named = ap (λ (r : RouteOffer). r.network) right.same in
            change_said (ports_of net f.router) network f.port before after h.offer
            (found_there given f.router second now h some named way_h)
            (learned_elsewhere given begun x w port f source second h.offer from right)
            (λ s e same. other second (way_of h.offer) way_h s e same)
