-- Where every route is real, and each router has the route of its least way or, by a neighbour from which such a way comes, one that isn't right itself,
-- all tables are right.
use Rattle.std.proofs.Common.{◌≡◌, refl, sym, ap, ◌∙◌, subst, ℕ, zero, suc, ◌≤◌, ◌⊎◌, ◌==◌, true, false, List, find, Option, None, Some, option_map, inl, inr, arith, is_eq}
use Rattle.ipx_table.specs.declared.held.Held.{Held}
use Rattle.ipx_router.specs.Facts.{route_facts, routes_held, offers}
use Rattle.ipx_router.specs.History.{History}
use Rattle.ipx_router.specs.Outgoing.{route_to}
use Rattle.ipx_router.specs.Routes.{network_order}
use Rattle.ipx_router.specs.declared.route_offer.RouteOffer.{RouteOffer}
use Rattle.ipx_internet.specs.Internet.{Place, ports_of}
use Rattle.ipx_internet.specs.Queue.{history_of}
use Rattle.ipx_laws.specs.Gone.{most_ticks_gone}
use Rattle.ipx_laws.specs.Least.{Way, is_on, is_up_on, least_route, way_of}
use Rattle.ipx_laws.specs.Ups.{ups}
use Rattle.ipx_laws.proofs.tables.Given.{Given}
use Rattle.ipx_laws.proofs.tables.GoodRoutesStay.{right_way}
use Rattle.ipx_laws.proofs.tables.LastWords.{WantsOf, Sources, known_by, IsGood}
use Rattle.ipx_laws.proofs.tables.LeastWays.{within, on_or_off, OnOrOff, came, same_some, is_there, own, own_is, port_up}
use Rattle.ipx_laws.proofs.tables.RightWithinAMinute.{find_same, tied}
use Rattle.ipx_laws.proofs.tables.SaysWhatItKnows.{RightFor, wants, found_there}
use Rattle.ipx_laws.proofs.tables.TablesAreRight.{none_on, none_without}
use Rattle.ipx_laws.proofs.ticks.RealOrSoonEnded.{Endures}

module _ (given : Given) (histories : List History) where
  open given use {net, up, in_ports, most_routes, foreign, network}

  abbrev Wanting : ℕ → Type 0
  Wanting = WantsOf given

  abbrev known : (x : ℕ) → Wanting x → Option (Held RouteOffer)
  known x w = known_by given x w (route_facts (ports_of net x) (history_of histories x))

  -- a router is right for now: where it should have a route in the end, it has one of the least way, and a port of its own on the network is up
  abbrev pub GoodNow : ℕ → Type 0
  GoodNow x =
      IsGood given histories x
      × (is_on (ports_of net x) network ≡ true → is_up_on (ports_of net x) (ups net histories x) network ≡ true)

  -- it has the route of its least way, from that neighbour
  abbrev pub HasRight : (x : ℕ) → Wanting x → Type 0
  HasRight x w =
      (h : Held RouteOffer) × (f : Place) × (known x w ≡ Some h)
      × RightFor given x w f h.offer

  -- or a neighbour from which its least way comes isn't right
  abbrev pub RightOrNot : Type 0
  RightOrNot =
      (x : ℕ) (w : Wanting x) → HasRight x w
      ⊎ ((port : ℕ) × (f : Place) × Sources given x w.v port f × (GoodNow f.router → ⊥))

  module _ (all : RightOrNot) (same_up : (router : ℕ) → ups net histories router ≡ up router) where
    all_good : (hops x : ℕ) (w : Wanting x) → w.v.hops ≤ hops → HasRight x w
    all_good zero x w few_hops =
        let c = came net up in_ports network 14 x w.v w.off w.least in
        let h = ap (λ (y : Way). y.hops) c.by in
        absurd (omega (arith, h, few_hops))
    all_good (suc hops) x w few_hops = elim (all x w) [
      | inl held ↦ held
      | inr (port, f, source, bad) ↦
          let one_less = ap (λ (y : Way). y.hops) source.by in
          absurd (bad (
            λ second.
                let same = same_some net up in_ports network (within net up in_ports network 15 f.router) second.v source.way second.least source.there in
                let equal = ap (λ (y : Way). y.hops) same in
                good_of f.router second (all_good hops f.router second (omega (arith, equal, one_less, few_hops))),
            λ on. own_up f.router source.way on source.there,
          ))
    ]
      where
        own_up : (y : ℕ) (way : Way) → is_on (ports_of net y) network ≡ true → within net up in_ports network 15 y ≡ Some way
            → is_up_on (ports_of net y) (ups net histories y) network ≡ true
        own_up y way on e =
            let ports = ports_of net y in
            let there = is_there net up in_ports network 15 y way e in
            let (j, on_j, same, cost) = own_is ports (up y) network way (sym (own net up in_ports network 15 y there on) ∙ e) in
            subst (λ (us : List ℕ). is_up_on ports us network ≡ true) (sym (same_up y)) (port_up ports (up y) network j on_j same)

        good_of : (y : ℕ) (second : Wanting y) → HasRight y second → (h : Held RouteOffer) × (known y second ≡ Some h) × (way_of h.offer ≡ second.v)
        good_of y second (h, f, some, right) = (
          h,
          some,
          right_way given y second.v second.off second.least f h.offer right,
        )

    -- ---- so the table is right

    module _ (router : ℕ) (endures : Endures 0 0 net up foreign most_routes router most_ticks_gone (history_of histories router)) where
      abbrev routes : List RouteOffer
      routes = offers (routes_held (ports_of net router) most_routes (history_of histories router))

      abbrev found : Option RouteOffer
      found = find (λ o. is_eq (network_order o.network network)) routes

      by_number : route_to routes network.0 ≡ found
      by_number = find_same (λ r. r.network.0 == network.0) (λ o. is_eq (network_order o.network network)) (λ r. tied r.network.0 network.0) routes

      has_way : (v : Way) → is_on (ports_of net router) network ≡ false → within net up in_ports network 15 router ≡ Some v → option_map way_of found ≡ Some v
      has_way v off is_v =
          let w = wants given router v off is_v in
          let (h, f, some, right) = all_good w.v.hops router w (omega arith) in
          let way = right_way given router w.v w.off w.least f h.offer right in
          let same = same_some net up in_ports network (within net up in_ports network 15 router) w.v v w.least is_v in
          ap (option_map way_of)
          (found_there given router w (history_of histories router) h some
          (ap (λ (r : RouteOffer). r.network) right.same) way)
          ∙ ap Some (way ∙ same)

      pub table_right : option_map way_of (route_to routes network.0) ≡ least_route net up router network
      table_right = ap (option_map way_of) by_number ∙ by (on_or_off net up in_ports network router) (within net up in_ports network 15 router) refl
        where
          by : OnOrOff net up in_ports network router → (o : Option Way) → within net up in_ports network 15 router ≡ o
              → option_map way_of found ≡ least_route net up router network
          by (inl on) o e =
              ap (option_map way_of) (none_on given router most_ticks_gone (omega arith)
              (history_of histories router) endures on) ∙ rw on refl
          by (inr off) None e =
              ap (option_map way_of) (none_without given router most_ticks_gone
              (omega arith) (history_of histories router) endures e) ∙ rw off (sym e)
          by (inr off) (Some v) e = has_way v off e ∙ rw off (sym e)
