-- Routers that have the routes of their least ways, where these have fewer hops than stated: what they advertise over wires is those ways, gone on.
use Rattle.std.proofs.Common.{◌≡◌, refl, sym, ap, subst, ◌⊎◌, ℕ, ◌+◌, ◌*◌, ◌<◌, ◌≤◌, ◌==◌, true, false, List, [], ◌∷◌, map, Some, inl, inr, arith}
use Rattle.std.specs.List.{AllByRecursion}
use Rattle.std.proofs.lemmas.Bool.{eq-eqb}
use Rattle.ipx_table.specs.Alive.{lifetime}
use Rattle.ipx_table.specs.declared.held.Held.{Held}
use Rattle.ipx_wire.specs.Crossed.{is_among}
use Rattle.ipx_wire.specs.declared.network.Network.{Network}
use Rattle.ipx_wire.specs.declared.rip.RipEntry.{RipEntry}
use Rattle.ipx_router.specs.Facts.{route_facts, routes_held, offers}
use Rattle.ipx_router.specs.History.{History, ports_up}
use Rattle.ipx_router.specs.News.{news}
use Rattle.ipx_router.specs.Routes.{route_reading, network_order}
use Rattle.ipx_router.specs.Told.{told}
use Rattle.ipx_router.specs.declared.route_offer.RouteOffer.{RouteOffer}
use Rattle.ipx_router.proofs.bounds.PacketsOfEachEvent.{network_total}
use Rattle.ipx_internet.specs.Internet.{Place, ports_of}
use Rattle.ipx_internet.proofs.lists.EachElement.{all_then}
use Rattle.ipx_laws.specs.Gone.{most_ticks_gone}
use Rattle.ipx_laws.specs.Least.{Way, is_on}
use Rattle.ipx_laws.specs.Outsiders.{IsTrueOf, IsTrueAndLeast}
use Rattle.ipx_laws.specs.Wires.{most_beats_gone}
use Rattle.ipx_laws.proofs.lists.SomeElement.{AnyIs, any-map, passes_any}
use Rattle.ipx_laws.proofs.records.RecordsGrowOld.{fine_at_last, at_last}
use Rattle.ipx_laws.proofs.tables.Given.{Given, FineOf, real_one}
use Rattle.ipx_laws.proofs.tables.GoodRoutesStay.{right_way}
use Rattle.ipx_laws.proofs.tables.LeastWays.{within, on_or_off, OnOrOff, came, same_some}
use Rattle.ipx_laws.proofs.tables.NoRouteIsBetter.{there_where_up}
use Rattle.ipx_laws.proofs.tables.RoomForEachNetwork.{real_wanted}
use Rattle.ipx_laws.proofs.tables.SaysItsLeastWay.{IsWord}
use Rattle.ipx_laws.proofs.tables.SaysWhatItKnows.{Wants, wants, known_of, RightFor, SourceOf, Knows, AllReal, words_told, words_news, knows_on, knows_off, told_own, told_learned}
use Rattle.ipx_laws.proofs.ticks.RealOrSoonEnded.{Endures}
use Rattle.ipx_laws.proofs.wires.SpokenOnWires.{Extras}

-- what is so of each if something is, is so if that is
pub all_if : {X : Type 0} (A : Type 0) (P : X → Type 0) (xs : List X) → (A → AllByRecursion P xs) → AllByRecursion (λ x. A → P x) xs
all_if A P [] all = tt
all_if A P (x ∷ xs) all = ((λ a. (all a).0), all_if A P xs (λ a. (all a).1))

-- what outsiders say: what is true, and of the network their least way
abbrev pub StrangeOf : Given → Place → RipEntry → Type 0
StrangeOf given = IsTrueAndLeast given.net given.up given.network

pub truth_of : (given : Given) (from : Place) (e : RipEntry) → StrangeOf given from e → IsTrueOf given.net given.up from e
truth_of given from e says = says.0

module _ (delay slack : ℕ) (given : Given) where
  open given use {net, laws, is, cheap, up, in_ports, most_routes, most_services, foreign, network}

  abbrev pub Lasting : ℕ → ℕ → History → Type 0
  Lasting router had history = Endures delay slack net up foreign most_routes router had history

  abbrev pub routes_in : ℕ → History → List RouteOffer
  routes_in router history = offers (routes_held (ports_of net router) most_routes history)

  -- ---- once all routes are of real ways

  module _ (router had : ℕ) (long : slack + most_beats_gone delay ≤ had) (history : History) (lasts : Lasting router had history) where
    -- they are so as after ticks
    pub as_in_ticks : Endures 0 0 net up foreign most_routes router most_ticks_gone history
    as_in_ticks = record {
      routes =
          all_then (λ h. FineOf given router h.offer)
          (λ h. FineOf given router h.offer ⊎ (most_ticks_gone ≤ 0 + (0 + lifetime) * h.offer.hops + h.age)) (λ h fine. inl fine) _
          (fine_at_last route_reading network_order network_total most_routes (map (λ p. p.route_share) (ports_of net router)) (λ r. r.hops) (λ r. refl) delay slack
          (FineOf given router) had long (route_facts (ports_of net router) history) lasts.routes);
      ups = lasts.ups;
    }

    all_fine : AllByRecursion (FineOf given router) (routes_in router history)
    all_fine =
        at_last route_reading network_order network_total most_routes (map (λ p. p.route_share) (ports_of net router)) (λ r. r.hops) (λ r. refl) delay slack
        (FineOf given router) had (route_facts (ports_of net router) history) long lasts.routes

    -- a router that holds a route to the network isn't on it
    pub all_off : AllReal given 0 router (routes_in router history)
    all_off =
        all_then (FineOf given router) (λ r. r.network ≡ network → is_on (ports_of net router) network ≡ false)
        (λ r fine named. subst (λ (n : Network). is_on (ports_of net router) n ≡ false) named
        (real_wanted net up (there_where_up net is cheap up in_ports network) (real_one given router r fine named)))
        (routes_in router history) all_fine

  -- ---- the route of the least way

  -- it is in the router's table
  abbrev pub HasIt : (router : ℕ) → Wants given router → History → Type 0
  HasIt router w history =
      (h : Held RouteOffer) × (f : Place) × (known_of given router w (route_facts (ports_of net router) history) ≡ Some h) × RightFor given router w f h.offer

  pub a_hop : (router : ℕ) (w : Wants given router) → 1 ≤ w.v.hops
  a_hop router w =
      let c = came net up in_ports network 14 router w.v w.off w.least in
      let h = ap (λ (y : Way). y.hops) c.by in
      omega (arith, h)

  module _ (hops : ℕ) (few : hops ≤ 15) where
    -- so it is, if it has fewer hops; and the ports that are up are as stated
    pub record Fit (router : ℕ) (history : History) : Type 0 where
      pub ups : ports_up (ports_of net router) history ≡ up router
      pub has : (w : Wants given router) → w.v.hops < hops → HasIt router w history

    -- what a port says is that way, gone on
    abbrev pub Word : Place → RipEntry → Type 0
    Word from e =
        (u : Way) → within net up in_ports network 15 from.router ≡ Some u → u.hops < hops → IsWord (ports_of net from.router) network u from.port e

    all_words : (from : Place) (entries : List RipEntry)
        → ((u : Way) → within net up in_ports network 15 from.router ≡ Some u → u.hops < hops
        → AllByRecursion (IsWord (ports_of net from.router) network u from.port) entries) → AllByRecursion (Word from) entries
    all_words from [] all = tt
    all_words from (e ∷ entries) all = ((λ u is_u less. (all u is_u less).0), all_words from entries (λ u is_u less. (all u is_u less).1))

    -- ---- what it says, from a beat on

    module _ (start : ℕ) (long : slack + most_beats_gone delay ≤ start) where
      abbrev pub Extra : ℕ → Place → RipEntry → Type 0
      Extra sent from e = start ≤ sent → Word from e

      knows : (router had : ℕ) (history : History) → start ≤ had → Lasting router had history → Fit router history → (u : Way)
          → within net up in_ports network 15 router ≡ Some u → u.hops < hops → Knows given 0 router u (routes_in router history)
      knows router had history enough lasts fit u is_u less = elim (on_or_off net up in_ports network router) [
        | inl on ↦ knows_on given 0 router u (routes_in router history) on (all_off router had (omega (arith, enough, long)) history lasts)
        | inr off ↦
            let w = wants given router u off is_u in
            let same = same_some net up in_ports network (within net up in_ports network 15 router) w.v u w.least is_u in
            let (h, f, some, right) = fit.has w (subst (λ (v : Way). v.hops < hops) (sym same) less) in
            subst (λ (v : Way). Knows given 0 router v (routes_in router history)) same
            (knows_off given 0 router w history h some (ap (λ (r : RouteOffer). r.network) right.same) (right_way given router w.v w.off w.least f h.offer right))
      ]

      pub extras : (ours : ℕ) → Extras delay slack net laws is most_routes most_services up foreign ours (StrangeOf given) (truth_of given) Fit Extra
      extras ours = record {
        advertised = λ beats had router history enough lasts fit j.
            all_if (start ≤ beats) (Word (record { router = router; port = j })) (told (ports_of net router) (up router) (routes_in router history) j)
            (λ late. all_words (record { router = router; port = j }) (told (ports_of net router) (up router) (routes_in router history) j)
            (λ u is_u less. words_told given 0 router u is_u (omega (arith, less, few)) (routes_in router history)
            (knows router had history (omega (arith, late, enough)) lasts fit u is_u less) j));
        changed = λ beats had later router old new enough enough_then lasts then_lasts fit fit_then j.
            all_if (start ≤ beats) (Word (record { router = router; port = j })) (news (ports_of net router) (routes_in router old) (routes_in router new) j)
            (λ late. all_words (record { router = router; port = j }) (news (ports_of net router) (routes_in router old) (routes_in router new) j)
            (λ u is_u less. words_news given 0 router u is_u (omega (arith, less, few)) (routes_in router old) (routes_in router new)
            (knows router later new (omega (arith, late, enough_then)) then_lasts fit_then u is_u less)
            (all_off router had (omega (arith, late, enough, long)) old lasts) j));
      }

    -- ---- a neighbour advertises the network

    -- a router by which another one's least way leads
    pub advertises : (router port : ℕ) (w : Wants given router) (from : Place) (source : SourceOf given router w.v port from) → w.v.hops ≡ hops
        → (history : History) → Fit from.router history
        → is_among network (map (λ e. e.network) (told (ports_of net from.router) (ports_up (ports_of net from.router) history) (routes_in from.router history) from.port)) ≡ true
    advertises router port w from source exact history fit =
        subst (λ (us : List ℕ). is_among network (map (λ e. e.network) (told (ports_of net from.router) us (routes_in from.router history) from.port)) ≡ true) (sym fit.ups)
        (passes_any (λ (n : Network). n.0 == network.0) (map (λ e. e.network) said)
        (any-map (λ e. e.network ≡ network) (λ (n : Network). (n.0 == network.0) ≡ true) (λ (e : RipEntry). e.network)
        (λ e named. eq-eqb e.network.0 network.0 (ap (λ (n : Network). n.0) named)) said (by (on_or_off net up in_ports network from.router))))
      where
        said : List RipEntry
        said = told (ports_of net from.router) (up from.router) (routes_in from.router history) from.port

        by : OnOrOff net up in_ports network from.router → AnyIs (λ e. e.network ≡ network) said
        by (inl on) = told_own given 0 router w port from source (routes_in from.router history) on
        by (inr off) =
            let second = wants given from.router source.way off source.there in
            let same = same_some net up in_ports network (within net up in_ports network 15 from.router) second.v source.way second.least source.there in
            let equal = ap (λ (y : Way). y.hops) same in
            let one_less = ap (λ (y : Way). y.hops) source.by in
            let (h, f, some, right) = fit.has second (omega (arith, one_less, exact, equal)) in
            told_learned given 0 router w port from source second history h f (omega (arith, one_less, exact, few)) some right
