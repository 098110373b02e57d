-- What a table keeps of the network after the entries of one packet: an instance of what any table keeps of the best offers of a key.
use Rattle.std.proofs.Common.{◌≡◌, ◌≢◌, refl, sym, ap, ◌∙◌, subst, ℕ, ◌<◌, ◌≤◌, true, false, List, [], ◌∷◌, ◌++◌, Option, Some, inl, inr, is_eq, arith}
use Rattle.std.specs.List.{AllByRecursion}
use Rattle.std.proofs.lemmas.Bool.{cases_Bool, leb-false, both_ways}
use Rattle.ipx_table.specs.Facts.{Fact, Offered}
use Rattle.ipx_table.specs.declared.held.Held.{Held}
use Rattle.ipx_table.proofs.Living.{kept}
use Rattle.ipx_table.proofs.Standing.{rules_total}
use Rattle.ipx_wire.specs.Crossed.{is_among}
use Rattle.ipx_wire.specs.declared.network.Network.{Network}
use Rattle.ipx_wire.specs.declared.rip.RipEntry.{RipEntry}
use Rattle.ipx_router.specs.Facts.{route_offer, routes_offered}
use Rattle.ipx_router.specs.Numbers.{unreachable}
use Rattle.ipx_router.specs.Port.{Port, takes_no_route}
use Rattle.ipx_router.specs.Routes.{route_rules, route_reading, network_order}
use Rattle.ipx_router.specs.declared.route_offer.RouteOffer.{RouteOffer}
use Rattle.ipx_router.proofs.bounds.PacketsOfEachEvent.{network_total}
use Rattle.ipx_internet.specs.Internet.{Place, ports_of, port_of}
use Rattle.ipx_internet.proofs.lists.EachElement.{all_of}
use Rattle.ipx_internet.proofs.records.KeptOrOffered.{OffersOf}
use Rattle.ipx_laws.specs.Gone.{most_ticks_gone}
use Rattle.ipx_laws.specs.Least.{Way, is_on}
use Rattle.ipx_laws.specs.Real.{IsReal}
use Rattle.ipx_laws.proofs.lists.SomeElement.{AnyIs, found_with}
use Rattle.ipx_laws.proofs.packets.RoutesOrSilence.{IsTo, offers_then}
use Rattle.ipx_laws.proofs.records.BestIsKept.{AreBest, HasPlace, State, Comes, records as records_of, known as known_of, offers_keep, offers_come, offers_any}
use Rattle.ipx_laws.proofs.records.RecordsGrowOld.{Aged, fine_at_last, after_offers}
use Rattle.ipx_laws.proofs.tables.Given.{Given, FineOf, real_one}
use Rattle.ipx_laws.proofs.tables.GoodRoutesStay.{Right, right_offer, shares, one, best, steady, place}
use Rattle.ipx_laws.proofs.tables.LeastWays.{IsNeighbour, within}
use Rattle.ipx_laws.proofs.tables.NoRouteIsBetter.{Source}

module _ (given : Given) (router : ℕ) (v : Way) (off : is_on (ports_of given.net router) given.network ≡ false)
    (least : within given.net given.up given.in_ports given.network 15 router ≡ Some v)
    (wanted : takes_no_route (ports_of given.net router) given.network ≡ false) where
  open given use {net, is, cheap, up, in_ports, most_routes, foreign, network, unlisted}

  abbrev ports : List Port
  ports = ports_of net router

  abbrev ss : List ℕ
  ss = shares given router v off least

  abbrev to_it : (k : Network) → is_eq (network_order k network) ≡ true → k ≡ network
  to_it k e = one given router v off least k e

  abbrev RealOf : RouteOffer → Type 0
  RealOf = FineOf given router

  abbrev RightOf : Place → RouteOffer → Type 0
  RightOf = Right given router v off least

  abbrev pub records : List (Fact RouteOffer) → List (Held RouteOffer)
  records = records_of route_reading network_order network_total most_routes ss network to_it RealOf RightOf

  -- the record of the network
  abbrev pub known : List (Fact RouteOffer) → Option (Held RouteOffer)
  known = known_of route_reading network_order network_total most_routes ss network to_it RealOf RightOf

  abbrev pub RoutesAged : ℕ → List (Fact RouteOffer) → Type 0
  RoutesAged had facts = Aged route_reading network_order network_total most_routes ss (λ r. r.hops) (λ r. refl) 0 0 RealOf had facts

  abbrev pub StateOf : (Place → ℕ → Type 0) → (Place → ℕ → Type 0) → Type 0 → (RouteOffer → Type 0) → Option (Held RouteOffer) → Type 0
  StateOf = State route_reading network_order network_total most_routes ss network to_it RealOf RightOf

  -- after so many ticks each route is of a real way, if hosts may not tell of its network
  all_real : (had : ℕ) → most_ticks_gone ≤ had → (facts : List (Fact RouteOffer)) → RoutesAged had facts → AllByRecursion (λ h. RealOf h.offer) (records facts)
  all_real = fine_at_last route_reading network_order network_total most_routes ss (λ r. r.hops) (λ r. refl) 0 0 RealOf

  pub known_is : (had : ℕ) → most_ticks_gone ≤ had → (facts : List (Fact RouteOffer)) → RoutesAged had facts → (h : Held RouteOffer) → known facts ≡ Some h
      → IsReal net up router h.offer × (h.offer.network ≡ network)
  known_is had long facts aged h e =
      let found = found_with (λ h. RealOf h.offer) (λ h. is_eq (network_order h.offer.network network)) (records facts) h (all_real had long facts aged) e in
      let named = to_it h.offer.network found.1 in
      (real_one given router h.offer found.0 named, named)

  -- ---- what comes

  module _ (had : ℕ) (long : most_ticks_gone ≤ had) where
    abbrev pub Such : List (Fact RouteOffer) → Type 0
    Such = RoutesAged had

    abbrev pub Fit : RouteOffer → Type 0
    Fit o = o.hops < unreachable → RealOf o

    abbrev pub Best : AreBest route_reading network_order network_total most_routes ss network to_it RealOf RightOf
    Best = best given router v off least

    pub real_known : (facts : List (Fact RouteOffer)) → Such facts → (h : Held RouteOffer) → known facts ≡ Some h → RealOf h.offer
    real_known facts aged h some unnamed = (known_is had long facts aged h some).0

    pub goes_on : (facts : List (Fact RouteOffer)) (o : RouteOffer) → Such facts → Fit o → Such (facts ++ Offered o ∷ [])
    goes_on facts o aged fit =
        after_offers route_reading network_order network_total most_routes ss (λ r. r.hops) (λ r. refl) 0 0 RealOf had (Offered o ∷ []) facts ((λ near. inl (fit near)), tt) aged

    module _ (Fresh : Place → ℕ → Type 0) (now : (f : Place) → Fresh f 0) (Same : RouteOffer → Type 0) where
      abbrev pub Fits : RouteOffer → Type 0
      Fits = Comes route_reading network_order network_total most_routes ss network to_it RealOf RightOf Fresh now Same Best Such Fit real_known goes_on

      pub fits_keep : (Late : Place → ℕ → Type 0) (Later : Type 0) (new facts : List (Fact RouteOffer)) → AllByRecursion (OffersOf Fits) new
          → StateOf Fresh Late Later Same (known facts) → StateOf Fresh Late Later Same (known (facts ++ new))
      fits_keep Late Later new facts all =
          offers_keep route_reading network_order network_total most_routes ss network to_it RealOf RightOf Fresh now Same Best Such Fit real_known goes_on
          Late Later new facts all

      -- routes to other networks leave it as it is
      foreign_fits : (o : RouteOffer) → IsTo foreign o → Fits o
      foreign_fits o among = (
        λ near unnamed. absurd (both_ways (is_among o.network foreign) unnamed among),
        λ named. absurd (both_ways (is_among o.network foreign) (ap (λ n. is_among n foreign) named ∙ unlisted) among),
      )

      pub foreign_keep : (Late : Place → ℕ → Type 0) (Later : Type 0) (new facts : List (Fact RouteOffer)) → AllByRecursion (OffersOf (IsTo foreign)) new
          → StateOf Fresh Late Later Same (known facts) → StateOf Fresh Late Later Same (known (facts ++ new))
      foreign_keep Late Later new facts all = fits_keep Late Later new facts (offers_then (IsTo foreign) Fits foreign_fits new all)

  module _ (had : ℕ) (long : most_ticks_gone ≤ had) (j : ℕ) (from : Place) (neighbour : IsNeighbour net up in_ports router j from) where
    abbrev offer_of : RipEntry → RouteOffer
    offer_of e = route_offer j (port_of net from).node e

    abbrev offered : List RipEntry → List (Fact RouteOffer)
    offered es = routes_offered ports j (port_of net from).node es

    -- an entry for the network is as it should be, where the neighbour is one from which the least way comes; and what is offered is real
    pub record EntryIs (e : RipEntry) : Type 0 where
      pub right : e.network ≡ network → Source net is cheap up in_ports network router v j from
          → offer_of e ≡ right_offer given router v off least j from
      pub real : takes_no_route ports e.network ≡ false → e.hops < unreachable → RealOf (offer_of e)

    -- such offers are all of them
    all_offered : (Is : RipEntry → Type 0) (Such : RouteOffer → Type 0) → ((e : RipEntry) → takes_no_route ports e.network ≡ false → Is e → Such (offer_of e))
        → (es : List RipEntry) → AllByRecursion Is es → AllByRecursion (OffersOf Such) (offered es)
    all_offered Is Such step [] all = tt
    all_offered Is Such step (e ∷ es) all = grind (arith, all_offered Is Such step es all.1)

    module _ (Fresh : Place → ℕ → Type 0) (now : (f : Place) → Fresh f 0) (Same : RouteOffer → Type 0) where
      -- whatever they say
      pub entries_any : (Late : Place → ℕ → Type 0) (Later : Type 0) → Later → (es : List RipEntry) (facts : List (Fact RouteOffer))
          → StateOf Fresh Late Later Same (known facts) → StateOf Fresh Late Later Same (known (facts ++ offered es))
      entries_any Late Later later es facts =
          offers_any route_reading network_order network_total most_routes ss network to_it RealOf RightOf Fresh now Same Late Later later (offered es) facts
          (all_offered (λ e. Unit {0}) (λ o. Unit {0}) (λ e taken any. tt) es (all_of (λ e. Unit {0}) (λ e. tt) es))

      abbrev Fit_in : RouteOffer → Type 0
      Fit_in = Fits had long Fresh now Same

      all_fit : (es : List RipEntry) → AllByRecursion EntryIs es → AllByRecursion (OffersOf Fit_in) (offered es)
      all_fit = all_offered EntryIs Fit_in (λ e taken is_e. (
        is_e.real taken,
        λ named.
            steady given router v off least from (offer_of e) neighbour refl
            (λ near. is_e.real taken (leb-false unreachable e.hops near)) (is_e.right named),
      ))

      -- several entries
      pub entries_keep : (Late : Place → ℕ → Type 0) (Later : Type 0) (es : List RipEntry) (facts : List (Fact RouteOffer)) → AllByRecursion EntryIs es
          → StateOf Fresh Late Later Same (known facts) → StateOf Fresh Late Later Same (known (facts ++ offered es))
      entries_keep Late Later es facts all = fits_keep had long Fresh now Same Late Later (offered es) facts (all_fit es all)

      -- where one of them is of the network, and the neighbour such a one
      pub entries_come : (Late : Place → ℕ → Type 0) (Later : Type 0) → (Later → (r : RouteOffer) → Same r) → Source net is cheap up in_ports network router v j from
          → (es : List RipEntry) (facts : List (Fact RouteOffer)) → AllByRecursion EntryIs es → AnyIs (λ e. e.network ≡ network) es → RoutesAged had facts
          → StateOf Fresh Late Later Same (known facts) → StateOf Fresh (λ f age. Late f age × (f ≢ from)) ⊥ Same (known (facts ++ offered es))
      entries_come Late Later free source es facts all any =
          offers_come route_reading network_order network_total most_routes ss network to_it RealOf RightOf Fresh now Same
          (Best had long) (Such had long) (Fit had long) (real_known had long) (goes_on had long) has_place from Late Later free (offered es) facts (all_fit es all) (among es all any)
        where
          has_place : (facts : List (Fact RouteOffer)) (f : Place) (o : RouteOffer) → Such had long facts → RightOf f o → RealOf o
              → HasPlace route_reading network_order network_total most_routes ss network to_it RealOf RightOf (records facts) o
          has_place facts f o aged =
              place given router v off least (records facts)
              (kept (route_rules ports most_routes) (rules_total route_reading network_order network_total most_routes ss) facts).distinct
              (all_real had long facts aged) f o

          among : (es : List RipEntry) → AllByRecursion EntryIs es → AnyIs (λ e. e.network ≡ network) es → AnyIs (OffersOf (RightOf from)) (offered es)
          among [] all any = absurd any
          among (e ∷ es) all (inl named) =
              let taken : takes_no_route ports e.network ≡ false = subst (λ (n : Network). takes_no_route ports n ≡ false) (sym named) wanted in
              rw taken (inl (record { source = source; same = all.0.right named source }))
          among (e ∷ es) all (inr behind) = elim (cases_Bool (takes_no_route ports e.network)) [
            | inl none ↦ rw none (among es all.1 behind)
            | inr taken ↦ rw taken (inr (among es all.1 behind))
          ]
