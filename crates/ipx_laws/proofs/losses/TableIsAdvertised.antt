-- Where tables are right and every route is of a real way, each route is what a neighbour advertises.
use Rattle.std.proofs.Common.{◌≡◌, ◌≢◌, refl, sym, ap, ◌∙◌, subst, ◌⊎◌, ℕ, ◌+◌, ◌<◌, true, false, List, [], length, Option, None, Some, option_map, inl, inr, arith, is_eq}
use Rattle.std.specs.List.{AllByRecursion}
use Rattle.std.proofs.lemmas.Bool.{both_ways}
use Rattle.ipx_wire.specs.declared.network.Network.{Network}
use Rattle.ipx_router.specs.Facts.{route_offer, routes_held}
use Rattle.ipx_router.specs.History.{History}
use Rattle.ipx_router.specs.Port.{Port, port_at, takes_no_route}
use Rattle.ipx_router.specs.Routes.{network_order}
use Rattle.ipx_router.specs.Told.{told_at, direct_entry, entry_of}
use Rattle.ipx_router.specs.declared.route_offer.RouteOffer.{RouteOffer}
use Rattle.ipx_router.proofs.port_values.PortOfEachNumber.{ports_up-within}
use Rattle.ipx_internet.specs.Internet.{Internet, Place, IsInternet, ports_of, port_of, network_of}
use Rattle.ipx_internet.specs.Queue.{history_of}
use Rattle.ipx_internet.specs.Run.{AreHistories}
use Rattle.ipx_internet.proofs.lists.FoundInAList.{nothing, it_is}
use Rattle.ipx_internet.proofs.packets.SentOnOrReply.{Layouts}
use Rattle.ipx_internet.proofs.places.OneReceiverOfANode.{same_number}
use Rattle.ipx_internet.proofs.trees.RunIsALog.{router_there}
use Rattle.ipx_laws.specs.Least.{Way, is_on, least_route, way_of, AreCheap, FifteenSuffice}
use Rattle.ipx_laws.specs.Real.{IsReal, next, farther}
use Rattle.ipx_laws.specs.Tables.{routes_of, AreReal, AreRight}
use Rattle.ipx_laws.specs.Ups.{ups}
use Rattle.ipx_laws.proofs.lists.SomeElement.{found_with}
use Rattle.ipx_laws.proofs.losses.EachLossIsSaid.{Direct, Learned}
use Rattle.ipx_laws.proofs.losses.LossesGoOn.{Losing, Stem}
use Rattle.ipx_laws.proofs.losses.TablesShrink.{route_at, route_to_is}
use Rattle.ipx_laws.proofs.tables.GoodRoutesStay.{same_offer}
use Rattle.ipx_laws.proofs.tables.LeastWays.{within, OnOrOff, on_or_off, own, own_is, is_there, few, port_on}
use Rattle.ipx_laws.proofs.tables.NoRouteIsBetter.{Source, RealWay, real_way, came_from, elsewhere, most, told_ticks}
use Rattle.ipx_laws.proofs.tables.RoomForEachNetwork.{same_where_equal}

-- a router takes routes to the network of a route of a real way
wanted_of : (net : Internet) (up : ℕ → List ℕ) {router : ℕ} {r : RouteOffer} → IsReal net up router r → takes_no_route (ports_of net router) r.network ≡ false
wanted_of net up (next from beside on apart taken) = taken.wanted
wanted_of net up (farther from s apart taken near real) = taken.wanted

module _ (net : Internet) (laws : Layouts) (is : IsInternet net) (cheap : AreCheap net)
    (most_routes most_services : ℕ) (last histories : List History) (are : AreHistories net histories)
    (suffice : (network : Network) → FifteenSuffice net (ups net histories) network)
    (all_real : AreReal net most_routes histories (ups net histories)) (right : AreRight net most_routes histories (ups net histories)) where
  abbrev up : ℕ → List ℕ
  up = ups net histories

  in_ports : (router : ℕ) → AllByRecursion (λ j. j < length (ports_of net router)) (up router)
  in_ports router = ports_up-within (ports_of net router) (history_of histories router)

  abbrev at : ℕ → Network → Option RouteOffer
  at router network = route_at network (routes_of net most_routes histories router)

  -- a route that is held is of a real way, and to that network
  held_is : (router : ℕ) → router < length net → (network : Network) (r : RouteOffer) → at router network ≡ Some r
      → IsReal net up router r × (r.network ≡ network)
  held_is router inside network r held =
      let found = found_with (IsReal net up router) (λ x. is_eq (network_order x.network network)) (routes_of net most_routes histories router) r
      (all_real router inside) held in
      (found.0, same_number r.network network (same_where_equal r.network.0 network.0 found.1))

  -- what is right of the network
  right_at : (router : ℕ) → router < length net → (network : Network) → is_on (ports_of net router) network ≡ false
      → option_map way_of (at router network) ≡ within net up in_ports network 15 router
  right_at router inside network off =
      let least : least_route net up router network ≡ within net up in_ports network 15 router = rw off refl in
      ap (option_map way_of) (sym (route_to_is network (routes_held (ports_of net router) most_routes (history_of histories router))))
      ∙ right router network inside ∙ least

  module _ (router : ℕ) (inside : router < length net) (r : RouteOffer) (held : at router r.network ≡ Some r) where
    abbrev network : Network
    network = r.network

    real : IsReal net up router r
    real = (held_is router inside network r held).0

    way : RealWay net is cheap up in_ports network router r
    way = real_way net is cheap up in_ports network real refl

    least_is : within net up in_ports network 15 router ≡ Some (way_of r)
    least_is = sym (right_at router inside network way.off) ∙ ap (option_map way_of) held

    source : Source net is cheap up in_ports network router (way_of r) r.port way.from
    source = came_from net is cheap up in_ports network (suffice network) router r (way_of r) way least_is refl

    abbrev from : Place
    from = way.from

    abbrev ports : List Port
    ports = ports_of net from.router

    there : from.router < length net
    there = router_there net from.router from.port source.neighbour.place

    hops : r.hops ≡ source.way.hops + 1
    hops = ap (λ (w : Way). w.hops) source.by

    ticks : r.ticks ≡ source.way.ticks + (port_of net from).cost
    ticks = ap (λ (w : Way). w.ticks) source.by

    few_ticks : source.way.ticks + (port_of net from).cost < 65535
    few_ticks =
        let t = ticks in
        let real_ticks = ap (λ (w : Way). w.ticks) way.by in
        let few_hops = way.few_hops in
        let some = way.few_ticks in
        let cost = most net is cheap up in_ports network from source.neighbour.place in
        omega (arith, t, real_ticks, few_hops, some, cost)

    -- the neighbour's network between isn't the one
    not_between : (j : ℕ) → (port_at ports j).network ≡ network → j ≢ from.port
    not_between j named same =
        let here : network_of net (record { router = router; port = r.port }) ≡ network =
        source.neighbour.network ∙ ap (λ k. (port_at ports k).network) (sym same) ∙ named in
        both_ways (is_on (ports_of net router) network) way.off (port_on (ports_of net router) network r.port source.neighbour.here here)

    by_own_port : is_on ports network ≡ true → Direct ports most_routes (history_of histories from.router) from.port r
    by_own_port on =
        let listed = is_there net up in_ports network 15 from.router source.way source.there in
        let (j, on_j, named, is_way) =
        own_is ports (up from.router) network source.way (sym (own net up in_ports network 15 from.router listed on) ∙ source.there) in
        let no_hops = ap (λ (w : Way). w.hops) is_way in
        let cost = ap (λ (w : Way). w.ticks) is_way in
        let h = hops in
        let t = ticks in
        let f = few_ticks in
        let told = told_ticks (port_of net from).cost (direct_entry ports j) (omega (arith, cost, f)) in
        record {
          beside = j;
          up = on_j;
          apart = not_between j named;
          offer =
              same_offer r (route_offer r.port (port_of net from).node (told_at (port_of net from).cost (direct_entry ports j))) (sym named)
              (omega (arith, h, no_hops)) (omega (arith, t, cost, told)) refl way.node;
        }

    by_route : (s : RouteOffer) → at from.router network ≡ Some s → way_of s ≡ source.way → Learned ports most_routes (history_of histories from.router) from.port r
    by_route s s_held is_way =
        let is_s = held_is from.router there network s s_held in
        let s_way = real_way net is cheap up in_ports network is_s.0 is_s.1 in
        let s_source = came_from net is cheap up in_ports network (suffice network) from.router s source.way s_way source.there (sym is_way) in
        let most_hops = few net up in_ports network 15 router (way_of r) least_is in
        let s_hops = ap (λ (w : Way). w.hops) is_way in
        let s_ticks = ap (λ (w : Way). w.ticks) is_way in
        let h = hops in
        let t = ticks in
        let f = few_ticks in
        let told = told_ticks (port_of net from).cost (entry_of s) (omega (arith, s_ticks, f)) in
        record {
          route = s;
          held = subst (λ (n : Network). at from.router n ≡ Some s) (sym is_s.1) s_held;
          apart = elsewhere net is cheap up in_ports network router (way_of r) r.port from s.port s_way.from way.off least_is source s_source;
          near = omega (arith, most_hops);
          offer =
              same_offer r (route_offer r.port (port_of net from).node (told_at (port_of net from).cost (entry_of s))) (sym is_s.1)
              (omega (arith, h, s_hops)) (omega (arith, t, s_ticks, told)) refl way.node;
        }

    advertised : OnOrOff net up in_ports network from.router
        → Direct ports most_routes (history_of histories from.router) from.port r ⊎ Learned ports most_routes (history_of histories from.router) from.port r
    advertised (inl on) = inl (by_own_port on)
    advertised (inr off) = by (at from.router network) refl
      where
        by : (o : Option RouteOffer) → at from.router network ≡ o
            → Direct ports most_routes (history_of histories from.router) from.port r ⊎ Learned ports most_routes (history_of histories from.router) from.port r
        by None none = nothing (sym (ap (option_map way_of) none) ∙ right_at from.router there network off ∙ source.there)
        by (Some s) some =
            let same : Some (way_of s) ≡ Some source.way =
            sym (ap (option_map way_of) some) ∙ right_at from.router there network off ∙ source.there in
            inr (by_route s some (it_is (λ (w : Way). way_of s ≡ w) source.way (way_of s) same refl))

    stem : Stem net laws is most_routes most_services last (record { histories = histories; queue = [] }) router r
    stem = record {
      from = from;
      other = λ e. source.neighbour.other (sym e);
      place = source.neighbour.place;
      here = source.neighbour.here;
      network = source.neighbour.network;
      node = way.node;
      wanted = wanted_of net up real;
      says = inl (record { on = source.neighbour.on_there; what = advertised (on_or_off net up in_ports network from.router) });
    }

  pub at_first : Losing net laws is most_routes most_services last (record { histories = histories; queue = [] })
  at_first = record { are = are; waiting = tt; stems = stem }
