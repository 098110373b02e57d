-- What a table has for a network once every route is of a real way, and once all are right: the route of the least way, for good.
use Rattle.std.proofs.Common.{◌≡◌, refl, sym, ap, ◌∙◌, subst, ◌⊎◌, ℕ, suc, ◌+◌, ◌<◌, ◌≤◌, true, false, List, [], ◌∷◌, ◌++◌, length, find, Option, None, Some, option_map, inl, inr, arith, is_eq, rules}
use Rattle.std.specs.List.{AllByRecursion}
use Rattle.std.proofs.lemmas.Bool.{cases_Bool, both_ways}
use Rattle.std.proofs.lemmas.Nat.{mod_below}
use Rattle.ipx_wire.specs.declared.network.Network.{Network}
use Rattle.ipx_router.specs.Numbers.{period}
use Rattle.ipx_router.specs.Facts.{routes_held, offers}
use Rattle.ipx_router.specs.History.{History, seconds_run}
use Rattle.ipx_router.specs.Outgoing.{route_to}
use Rattle.ipx_router.specs.Routes.{network_order}
use Rattle.ipx_router.specs.declared.route_offer.RouteOffer.{RouteOffer}
use Rattle.ipx_router.proofs.bounds.PacketsOfEachEvent.{network_total}
use Rattle.ipx_internet.specs.Internet.{Internet, Place, ports_of, port_of}
use Rattle.ipx_internet.specs.Queue.{history_of}
use Rattle.ipx_internet.specs.Run.{Step, Run, run_of}
use Rattle.ipx_internet.specs.Ticks.{ticked}
use Rattle.ipx_internet.proofs.lists.EachElement.{all_then}
use Rattle.ipx_internet.proofs.lists.FoundInAList.{nothing}
use Rattle.ipx_internet.proofs.places.OneReceiverOfANode.{same_number}
use Rattle.ipx_laws.specs.Gone.{most_ticks_gone}
use Rattle.ipx_laws.specs.Least.{Way, is_on, least_route, way_of, ticks_right, most_ticks_right}
use Rattle.ipx_laws.specs.Meanwhile.{EachTick}
use Rattle.ipx_laws.specs.Real.{IsReal}
use Rattle.ipx_laws.proofs.records.RecordsGrowOld.{at_last}
use Rattle.ipx_laws.proofs.tables.Given.{Given, FineOf, real_one}
use Rattle.ipx_laws.proofs.tables.GoodRoutesStay.{right_way, right_node}
use Rattle.ipx_laws.proofs.tables.LeastWays.{within, on_or_off, OnOrOff, came, same_some}
use Rattle.ipx_laws.proofs.tables.NoRouteIsBetter.{there_where_up, real_way, none_beats}
use Rattle.ipx_laws.proofs.tables.RightWithinAMinute.{find_none, route_of, AtRest, good_then, tick_rests, route_stays, ticks_rest_right}
use Rattle.ipx_laws.proofs.tables.RoomForEachNetwork.{real_wanted, same_where_equal}
use Rattle.ipx_laws.proofs.tables.SaysWhatItKnows.{Wants, wants, SourceOf, found_there}
use Rattle.ipx_laws.proofs.ticks.RealOrSoonEnded.{Endures}
use Rattle.ipx_laws.proofs.ticks.TickAfterTick.{CalmTicks}

-- they are at least those after which every route is of a real way, and no more than stated
pub some_ticks : (o : Option Way) (ticks : ℕ) → ticks_right o ≤ ticks → most_ticks_gone ≤ ticks
some_ticks o ticks sure = grind arith

pub soon_enough : (o : Option Way) → ticks_right o ≤ most_ticks_right
soon_enough o = grind arith

-- for a way of a hop or more they are all
pub all_ticks : (way : Way) (ticks : ℕ) → ticks_right (Some way) ≤ ticks → 1 ≤ way.hops → most_ticks_right ≤ ticks
all_ticks way ticks sure some = grind arith

module _ (given : Given) where
  open given use {net, is, cheap, up, in_ports, most_routes, most_services, foreign, network}

  abbrev Rest : ℕ → Run → Type 0
  Rest = AtRest given

  abbrev RouteOf : Run → ℕ → Option RouteOffer
  RouteOf = route_of given

  a_hop : (router : ℕ) (v : Way) → is_on (ports_of net router) network ≡ false → within net up in_ports network 15 router ≡ Some v → 1 ≤ v.hops
  a_hop router v off e =
      let c = came net up in_ports network 14 router v off e in
      let h = ap (λ (y : Way). y.hops) c.by in
      omega (arith, h)

  -- ---- what a router never holds, when it had so many seconds

  module _ (router had : ℕ) (long : most_ticks_gone ≤ had) (history : History) (endures : Endures 0 0 net up foreign most_routes router had history) where
    abbrev routes : List RouteOffer
    routes = offers (routes_held (ports_of net router) most_routes history)

    abbrev found : Option RouteOffer
    found = find (λ o. is_eq (network_order o.network network)) routes

    all_fine : AllByRecursion (FineOf given router) routes
    all_fine = search (rules, at_last, network_total)

    none_of : ((r : RouteOffer) → IsReal net up router r → r.network ≡ network → ⊥) → found ≡ None
    none_of never =
        find_none (λ o. is_eq (network_order o.network network)) routes
        (all_then (FineOf given router) (λ r. is_eq (network_order r.network network) ≡ false) (λ r fine. by r fine (cases_Bool (is_eq
        (network_order r.network network)))) routes all_fine)
      where
        by : (r : RouteOffer) → FineOf given router r → (is_eq (network_order r.network network) ≡ true) ⊎ (is_eq (network_order r.network network) ≡ false)
            → is_eq (network_order r.network network) ≡ false
        by r fine (inl e) =
            let named = same_number r.network network (same_where_equal r.network.0 network.0 e) in
            absurd (never r (real_one given router r fine named) named)
        by r fine (inr e) = e

    pub none_on : is_on (ports_of net router) network ≡ true → found ≡ None
    none_on on =
        none_of (λ r real named. both_ways (is_on (ports_of net router) network)
        (subst (λ (n : Network). is_on (ports_of net router) n ≡ false) named (real_wanted net up (there_where_up net is cheap up in_ports network) real)) on)

    pub none_without : within net up in_ports network 15 router ≡ None → found ≡ None
    none_without none =
        none_of (λ r real named.
        let (v, is_v, less) = none_beats net is cheap up in_ports network router r (real_way net is cheap up in_ports network real named) in
        nothing (sym none ∙ is_v))

  -- ---- what a router holds then

  module _ (ticks : ℕ) (run : Run) (rest : Rest ticks run) (long : most_ticks_gone ≤ ticks) (router : ℕ) (inside : router < length net) where
    abbrev history : History
    history = history_of run.histories router

    abbrev endured : Endures 0 0 net up foreign most_routes router ticks history
    endured = rest.rests.routers router inside

    -- the route of the least way, and the neighbour that it came from
    pub record HasRoute (v : Way) : Type 0 where
      pub route : RouteOffer
      pub held : RouteOf run router ≡ Some route
      pub way : way_of route ≡ v
      pub from : Place
      pub source : SourceOf given router v route.port from
      pub node : route.node ≡ (port_of net from).node

    pub route_is : (v : Way) → is_on (ports_of net router) network ≡ false → within net up in_ports network 15 router ≡ Some v → most_ticks_right ≤ ticks → HasRoute v
    route_is v off is_v sure =
        let w = wants given router v off is_v in
        let same = same_some net up in_ports network (within net up in_ports network 15 router) w.v v w.least is_v in
        elim (rest.holds router w) [
          | inl held ↦
              let (h, f, some, right) = held in
              let way = right_way given router w.v w.off w.least f h.offer right in
              record {
                route = h.offer;
                held =
                    found_there given
                    router w history h some (ap (λ (r : RouteOffer). r.network) right.same) way;
                way = way ∙ same;
                from = f;
                source =
                    subst (λ (y : Way). SourceOf given
                    router y h.offer.port f) same right.source;
                node = right_node given router w.v w.off w.least f h.offer right;
              }
          | inr (port, f, source, inl early) ↦
              let clock = mod_below (seconds_run (history_of run.histories f.router)) period (omega arith) in
              absurd (omega (arith, early, clock, sure))
          | inr (port, f, source, inr bad) ↦
              absurd (bad (good_then given ticks run rest sure f.router))
        ]

    -- by its number
    pub by_number : route_to (offers (routes_held (ports_of net router) most_routes history)) network.0 ≡ RouteOf run router
    by_number = grind arith

    pub table_is : ticks_right (least_route net up router network) ≤ ticks
        → option_map way_of (route_to (offers (routes_held (ports_of net router) most_routes history)) network.0) ≡ least_route net up router network
    table_is sure = ap (option_map way_of) by_number ∙ by (on_or_off net up in_ports network router) (within net up in_ports network 15 router) refl
      where
        by : OnOrOff net up in_ports network router → (o : Option Way) → within net up in_ports network 15 router ≡ o → option_map way_of
            (RouteOf run router) ≡ least_route net up router network
        by (inl on) o e = ap (option_map way_of) (none_on router ticks long history endured on) ∙ rw on refl
        by (inr off) None e = ap (option_map way_of) (none_without router ticks long history endured e) ∙ rw off (sym e)
        by (inr off) (Some v) e =
            let should : least_route net up router network ≡ Some v = rw off e in
            let enough = all_ticks v ticks (subst (λ (o : Option Way). ticks_right o ≤ ticks) should sure) (a_hop router v off e) in
            let has = route_is v off e enough in
            ap (option_map way_of) has.held ∙ ap Some has.way ∙ rw off (sym e)

  -- ---- it stays

  stays_by : (ticks : ℕ) (run : Run) (further : List (List Step)) → Rest ticks run → CalmTicks net most_routes most_services foreign run further
      → (router : ℕ) (w : Wants given router) → most_ticks_right ≤ ticks
      → RouteOf (ticked net most_routes most_services run further) router ≡ RouteOf run router
  stays_by ticks run [] rest are router w sure = refl
  stays_by ticks run (steps ∷ further) rest are router w sure =
      let next = run_of net most_routes most_services run steps in
      let long : most_ticks_gone ≤ ticks = omega (arith, sure) in
      stays_by (suc ticks) next further (tick_rests given ticks long run steps rest are.0) are.1 router w
      (omega (arith, sure))
      ∙ route_stays given ticks long run steps rest are.0 router w sure

  pub stays : (ticks : ℕ) (run : Run) (further : List (List Step)) → Rest ticks run → CalmTicks net most_routes most_services foreign run further
      → (router : ℕ) → router < length net → ticks_right (least_route net up router network) ≤ ticks
      → route_to (offers (routes_held (ports_of net router) most_routes (history_of (ticked net most_routes most_services run further).histories router))) network.0
      ≡ route_to (offers (routes_held (ports_of net router) most_routes (history_of run.histories router))) network.0
  stays ticks run further rest are router inside sure =
      let long = some_ticks (least_route net up router network) ticks sure in
      let later = ticks_rest_right given ticks long run further rest are in
      let longer : most_ticks_gone ≤ length further + ticks = omega (arith, long) in
      by_number (length further + ticks) (ticked net most_routes most_services run further) later longer router inside
      ∙ by later longer long (on_or_off net up in_ports network router) (within net up in_ports network 15 router) refl
      ∙ sym (by_number ticks run rest long router inside)
    where
      by : Rest (length further + ticks) (ticked net most_routes most_services run further) → most_ticks_gone ≤ length further + ticks → most_ticks_gone ≤ ticks
          → OnOrOff net up in_ports network router → (o : Option Way) → within net up in_ports network 15 router ≡ o
          → RouteOf (ticked net most_routes most_services run further) router ≡ RouteOf run router
      by later longer long (inl on) o e =
          none_on router (length further + ticks) longer (history_of (ticked net most_routes most_services run further).histories router) (later.rests.routers router inside) on
          ∙ sym (none_on router ticks long (history_of run.histories router) (rest.rests.routers router inside) on)
      by later longer long (inr off) None e =
          none_without router (length further + ticks) longer (history_of (ticked net most_routes most_services run further).histories router) (later.rests.routers router inside) e
          ∙ sym (none_without router ticks long (history_of run.histories router) (rest.rests.routers router inside) e)
      by later longer long (inr off) (Some v) e =
          let should : least_route net up router network ≡ Some v = rw off e in
          let w = wants given router v off e in
          stays_by ticks run further rest are router w (all_ticks v ticks (subst (λ (o : Option Way). ticks_right o ≤ ticks) should sure) (a_hop router v off e))

-- ---- ticks in two parts

module _ (net : Internet) (most_routes most_services : ℕ) where
  pub parts_of : (Is : Run → List Step → Type 0) (run : Run) (ticks further : List (List Step)) → EachTick net most_routes most_services Is run (ticks ++ further)
      → EachTick net most_routes most_services Is run ticks
      × EachTick net most_routes most_services Is (ticked net most_routes most_services run ticks) further
  parts_of Is run [] further are = (tt, are)
  parts_of Is run (steps ∷ ticks) further are = grind (arith, parts_of Is (run_of net most_routes most_services run steps) ticks further are.1)

  pub ticked_on : (run : Run) (ticks further : List (List Step)) → ticked net most_routes most_services run (ticks ++ further)
      ≡ ticked net most_routes most_services (ticked net most_routes most_services run ticks) further
  ticked_on run [] further = refl
  ticked_on run (steps ∷ ticks) further = ticked_on (run_of net most_routes most_services run steps) ticks further
