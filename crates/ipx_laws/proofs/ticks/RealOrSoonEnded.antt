-- What a router has and says while time passes and packets come: routes to networks off a list are of real ways, or so old that they soon end,
-- and what it says of them too. Hosts may tell of routes to the networks of the list.
use Rattle.std.proofs.Common.{◌≡◌, ◌≢◌, refl, sym, ◌∙◌, subst, ◌⊎◌, ℕ, suc, ◌+◌, ◌<◌, ◌≤◌, ◌==◌, true, false, List, [], ◌∷◌, ◌++◌, map, Option, Some, None, Ok, inl, inr, arith, append-nil, rules}
use Rattle.std.specs.List.{AllByRecursion}
use Rattle.std.proofs.lemmas.Bool.{cases_Bool, eqb-false, both_ways}
use Rattle.ipx_table.specs.Facts.{Fact}
use Rattle.ipx_wire.specs.Crossed.{is_among}
use Rattle.ipx_wire.specs.Packet.{Parts, packet_of}
use Rattle.ipx_wire.specs.declared.network.Network.{Network}
use Rattle.ipx_wire.specs.declared.address.Address.{Address}
use Rattle.ipx_wire.specs.declared.node.Node.{Node}
use Rattle.ipx_wire.specs.declared.rip.Operation.{Operation}
use Rattle.ipx_wire.specs.declared.rip.Operation.TheVariants.{Request, Response}
use Rattle.ipx_wire.specs.declared.rip.RipEntry.{RipEntry}
use Rattle.ipx_router.specs.Facts.{route_offer, routes_offered, routes_heard, heard_after, route_facts, route_facts_of, routes_held, offers}
use Rattle.ipx_router.specs.Heard.{Heard, HeardRip, HeardSap, heard_in}
use Rattle.ipx_router.specs.History.{History, Second, Packet, running, ports_up}
use Rattle.ipx_router.specs.News.{news}
use Rattle.ipx_router.specs.Numbers.{unreachable}
use Rattle.ipx_router.specs.Port.{Port, port_at, is_up, takes_no_route}
use Rattle.ipx_router.specs.Routes.{route_reading, network_order}
use Rattle.ipx_router.specs.Told.{told, told_at, direct_entry, entry_of, dead}
use Rattle.ipx_router.specs.declared.route_offer.RouteOffer.{RouteOffer}
use Rattle.ipx_router.proofs.bounds.PacketsOfEachEvent.{network_total}
use Rattle.ipx_router.proofs.lists.EachElement.{all_both}
use Rattle.ipx_router.proofs.histories.OneEventMore.{ports_stay, none_up}
use Rattle.ipx_router.proofs.tables.OffersOfAMessage.{facts_from-more}
use Rattle.ipx_router.proofs.tables.HeldWasOffered.{came_in, heard_up}
use Rattle.ipx_router.proofs.tables.HeldCameByPortsUp.{held_routes_up}
use Rattle.ipx_internet.specs.Internet.{Internet, Place, ports_of, port_of, network_of}
use Rattle.ipx_internet.specs.Queue.{Delivery}
use Rattle.ipx_internet.specs.Rounds.{IsDelivery}
use Rattle.ipx_internet.proofs.lists.EachElement.{all_then}
use Rattle.ipx_internet.proofs.lists.FoundInAList.{it_is}
use Rattle.ipx_internet.proofs.packets.AdvertisedIsHeld.{told_all, news_told}
use Rattle.ipx_internet.proofs.records.KeptOrOffered.{OffersOf}
use Rattle.ipx_laws.specs.Apart.{TellsOnlyOf, IsRealApart}
use Rattle.ipx_laws.specs.Meanwhile.{message_of, TellsNoRoute}
use Rattle.ipx_laws.specs.Real.{next, farther}
use Rattle.ipx_laws.proofs.packets.RoutesOrSilence.{TellsApart, IsOwnPage, IsTo, own_heard, near_in, none_of_foreign, offers_then, foreign_offer}
use Rattle.ipx_laws.proofs.packets.SentOnSaysTheSame.{heard_message}
use Rattle.ipx_laws.proofs.records.RecordsGrowOld.{IsWithin, IsBelow, Aged, IsOldOffer, IsOldHeld, at_first, where_none, after_second, after_offers, old_held}

module _ (net : Internet) (up : ℕ → List ℕ) where
  -- ---- what is said

  -- a port that receives what is sent on a port that is up
  pub record Reaches (from to : Place) : Type 0 where
    pub other : to.router ≢ from.router
    pub network : network_of net to ≡ network_of net from
    pub on : is_up (up from.router) from.port ≡ true

  -- and hears of such an entry: the port is up, and its router takes routes to that network
  pub record Hears (to : Place) (e : RipEntry) : Type 0 where
    pub up_here : is_up (up to.router) to.port ≡ true
    pub wanted : takes_no_route (ports_of net to.router) e.network ≡ false

module _ (net : Internet) (up : ℕ → List ℕ) (foreign : List Network) where
  -- of a real way, if its network isn't on the list
  abbrev pub Fine : ℕ → RouteOffer → Type 0
  Fine = IsRealApart net up foreign

  -- what a port says that reaches another one: a page of such entries, or what tells of no route but to networks of the list
  abbrev pub Comes : (Place → RipEntry → Type 0) → Place → List ℕ → Type 0
  Comes P to bytes = ((from : Place) × Reaches net up from to × IsOwnPage (P from) (port_of net from) bytes) ⊎ TellsApart foreign bytes

module _ (delay slack : ℕ) (net : Internet) (up : ℕ → List ℕ) (foreign : List Network) where
  -- an entry that is sent on a port, when so many ticks have begun: if it is alive, then whoever learns of it has a route of a real
  -- way, if its network isn't on the list, or it was said soon enough
  abbrev pub RouteSaid : ℕ → Place → RipEntry → Type 0
  RouteSaid begun from e =
      e.hops < unreachable
      → ((to : Place) → Reaches net up from to → Hears net up to e → Fine net up foreign to.router (route_offer to.port (port_of net from).node e)) ⊎ IsWithin delay slack e.hops (delay + begun)

  -- what waits for a port
  pub record Arrives (begun : ℕ) (d : Delivery) : Type 0 where
    pub delivery : IsDelivery net d
    pub says : Comes net up foreign (RouteSaid begun) d.to d.bytes

  module _ (most_routes router : ℕ) where
    abbrev pub ports : List Port
    ports = ports_of net router

    abbrev RoutesAged : ℕ → List (Fact RouteOffer) → Type 0
    RoutesAged = Aged route_reading network_order network_total most_routes (map (λ p. p.route_share) ports) (λ r. r.hops) (λ r. refl) delay slack (Fine net up foreign router)

    -- what a router has that had so many seconds
    pub record Endures (had : ℕ) (history : History) : Type 0 where
      pub routes : RoutesAged had (route_facts ports history)
      pub ups : ports_up ports history ≡ up router

    pub at_begin : (history : History) → ports_up ports history ≡ up router → Endures 0 history
    at_begin history same = search (rules, at_first, network_total)

    -- ---- a second

    module _ (had : ℕ) (history : History) (endures : Endures had history) where
      -- nothing is held by a port that isn't up
      no_port : (ups : List ℕ) (port : ℕ) → ups ≡ [] → is_up ups port ≡ true → ⊥
      no_port ups port none on = grind arith

      second_routes : RoutesAged (suc had) (route_facts ports (history ++ Second ∷ []))
      second_routes =
          let facts = route_facts ports history in
          subst (λ (fs : List (Fact RouteOffer)). RoutesAged (suc had) fs) (sym (facts_from-more (route_facts_of ports) [] history Second))
          (elim (cases_Bool (running history)) [
            | inl runs ↦
                rw runs (after_second route_reading network_order network_total most_routes (map (λ p. p.route_share) ports) (λ r. r.hops) (λ r. refl) delay slack
                (Fine net up foreign router) had facts endures.routes)
            | inr stopped ↦
                let none = none_up ports history stopped in
                rw stopped (subst (λ (fs : List (Fact RouteOffer)). RoutesAged (suc had) fs) (sym (append-nil facts))
                (where_none route_reading network_order network_total most_routes (map (λ p. p.route_share) ports) (λ r. r.hops) (λ r. refl) delay slack (Fine net up foreign router)
                (suc had) facts
                (all_then (λ r. is_up (ports_up ports history) r.port ≡ true) (λ r. ⊥) (λ r on. no_port (ports_up ports history) r.port none on)
                (offers (routes_held ports most_routes history)) (held_routes_up ports most_routes history))))
          ])

      pub second_endures : Endures (suc had) (history ++ Second ∷ [])
      second_endures = grind (arith, second_routes, ports_stay)

    -- a router with a port up runs
    pub runs_where : (port had : ℕ) (history : History) → is_up (up router) port ≡ true → Endures had history → running history ≡ true
    runs_where port had history here endures = grind (arith, no_port, none_up)

    -- ---- a packet

    abbrev pub RouteOldBy : ℕ → RouteOffer → Type 0
    RouteOldBy =
        IsOldOffer route_reading network_order network_total most_routes (map (λ p. p.route_share) ports) (λ r. r.hops) (λ r. refl) delay slack (Fine net up foreign router)

    -- if all that is heard of it is fine or old enough
    pub heard_endures : (had number : ℕ) (bytes : List ℕ) (history : History) → Endures had history
        → ((o : Option Heard) → heard_after ports history number bytes ≡ o → AllByRecursion (OffersOf (RouteOldBy had)) (routes_heard ports number o))
        → Endures had (history ++ Packet number bytes ∷ [])
    heard_endures had number bytes history endures old = record {
      routes =
          subst (λ (fs : List (Fact RouteOffer)). RoutesAged had fs) (sym (facts_from-more (route_facts_of ports) [] history (Packet number bytes)))
          (after_offers route_reading network_order network_total most_routes (map (λ p. p.route_share) ports) (λ r. r.hops) (λ r. refl) delay slack
          (Fine net up foreign router) had (routes_heard ports number (heard_after ports history number bytes)) (route_facts ports history)
          (old (heard_after ports history number bytes) refl) endures.routes);
      ups = ports_stay ports history (Packet number bytes) refl refl (λ port. refl) (λ port. refl) ∙ endures.ups;
    }

    -- where any offer is old enough, any packet may come
    pub soon_endures : (had number : ℕ) (bytes : List ℕ) (history : History) → had ≤ slack → Endures had history → Endures had (history ++ Packet number bytes ∷ [])
    soon_endures had number bytes history soon endures = heard_endures had number bytes history endures (λ o e. any o)
      where
        each : (node : Node) (entries : List RipEntry) → AllByRecursion (OffersOf (RouteOldBy had)) (routes_offered ports number node entries)
        each node [] = tt
        each node (e ∷ entries) = elim (cases_Bool (takes_no_route ports e.network)) [
          | inl none ↦ rw none (each node entries)
          | inr taken ↦ rw taken ((λ near. inr (omega (arith, soon))), each node entries)
        ]

        by : (source : Address) (operation : Operation) (entries : List RipEntry)
            → AllByRecursion (OffersOf (RouteOldBy had)) (elim operation [ Response ↦ routes_offered ports number source.node entries | Request ↦ [] ])
        by source Response entries = each source.node entries
        by source Request entries = tt

        any : (o : Option Heard) → AllByRecursion (OffersOf (RouteOldBy had)) (routes_heard ports number o)
        any None = tt
        any (Some (HeardSap source sap)) = tt
        any (Some (HeardRip source rip)) = by source rip.operation rip.entries

    module _ (had begun : ℕ) (number : ℕ) (bytes : List ℕ) (late : had ≤ delay + begun) (says : Comes net up foreign (RouteSaid begun) (record { router = router; port = number }) bytes) where
      abbrev RouteOld : RouteOffer → Type 0
      RouteOld = RouteOldBy had

      routes_old : (from : Place) → Reaches net up from (record { router = router; port = number }) → is_up (up router) number ≡ true → (entries : List RipEntry)
          → AllByRecursion (RouteSaid begun from) entries → AllByRecursion (OffersOf RouteOld) (routes_offered ports number (port_of net from).node entries)
      routes_old from reaches on [] all = tt
      routes_old from reaches on (e ∷ entries) all = elim (cases_Bool (takes_no_route ports e.network)) [
        | inl none ↦ rw none (routes_old from reaches on entries all.1)
        | inr taken ↦ rw taken ((λ near. one taken (all.0 near)), routes_old from reaches on entries all.1)
      ]
        where
          one : takes_no_route ports e.network ≡ false
              → ((to : Place) → Reaches net up from to → Hears net up to e → Fine net up foreign to.router (route_offer to.port (port_of net from).node e)) ⊎ IsWithin delay slack e.hops (delay + begun)
              → Fine net up foreign router (route_offer number (port_of net from).node e) ⊎ IsWithin delay slack e.hops had
          one wanted (inl real) = inl (real (record { router = router; port = number }) reaches (record { up_here = on; wanted = wanted }))
          one wanted (inr soon) = inr (omega (arith, soon, late))

      abbrev OldHeard : Heard → Type 0
      OldHeard m = AllByRecursion (OffersOf RouteOld) (routes_heard ports number (Some m))

      -- a route to a network of the list is fine
      listed_old : (r : RouteOffer) → IsTo foreign r → RouteOld r
      listed_old r listed near = inl (λ off. absurd (both_ways (is_among r.network foreign) off listed))

      apart_old : (m : Heard) → TellsOnlyOf foreign m → OldHeard m
      apart_old m tells = offers_then (IsTo foreign) RouteOld listed_old (routes_heard ports number (Some m)) (foreign_offer foreign ports number m tells)

      silent_old : (m : Heard) → TellsNoRoute m → OldHeard m
      silent_old m silent = apart_old m (none_of_foreign foreign m silent)

      page_old : is_up (up router) number ≡ true → (p : Parts) (m : Heard) → packet_of bytes ≡ Ok p → heard_in p ≡ Some m → message_of bytes ≡ Some m
          → Comes net up foreign (RouteSaid begun) (record { router = router; port = number }) bytes → OldHeard m
      page_old on p m read e message given = grind (arith, silent_old, apart_old, own_heard, it_is, routes_old)

      module _ (history : History) (endures : Endures had history) where
        abbrev heard_now : Option Heard
        heard_now = heard_after ports history number bytes

        old_heard : (o : Option Heard) → heard_now ≡ o → AllByRecursion (OffersOf RouteOld) (routes_heard ports number o)
        old_heard None e = tt
        old_heard (Some m) e =
            let came = came_in ports (ports_up ports history) number (running history) bytes m e in
            let on = subst (λ (us : List ℕ). is_up us number ≡ true) endures.ups (heard_up ports (ports_up ports history) number (running history) bytes m e) in
            page_old on came.packet m came.read (near_in (port_at ports number) came.packet m came.near) (heard_message ports history number bytes m e) says

        pub packet_endures : Endures had (history ++ Packet number bytes ∷ [])
        packet_endures = heard_endures had number bytes history endures old_heard

    -- ---- what it says

    module _ (had begun : ℕ) (soon : begun ≤ had + 1) (history : History) (endures : Endures had history) where
      abbrev place : ℕ → Place
      place j = record { router = router; port = j }

      abbrev RouteHeld : RouteOffer → Type 0
      RouteHeld r =
          IsOldHeld route_reading network_order network_total most_routes (map (λ p. p.route_share) ports) (λ r. r.hops) (λ r. refl) delay slack (Fine net up foreign router) had r
          × (is_up (up router) r.port ≡ true)

      routes_are : AllByRecursion RouteHeld (offers (routes_held ports most_routes history))
      routes_are =
          let all = offers (routes_held ports most_routes history) in
          all_both
          (IsOldHeld route_reading network_order network_total most_routes (map (λ p. p.route_share) ports) (λ r. r.hops) (λ r. refl) delay slack (Fine net up foreign router) had)
          (λ r. is_up (up router) r.port ≡ true) all
          (old_held route_reading network_order network_total most_routes (map (λ p. p.route_share) ports) (λ r. r.hops) (λ r. refl) delay slack (Fine net up foreign router) had
          (route_facts ports history) endures.routes)
          (subst (λ (us : List ℕ). AllByRecursion (λ r. is_up us r.port ≡ true) all) endures.ups (held_routes_up ports most_routes history))

      -- the network of another port
      beside : (j other : ℕ) → is_up (up router) other ≡ true → (other == j) ≡ false
          → RouteSaid begun (place j) (told_at (port_at ports j).cost (direct_entry ports other))
      beside j other on apart near =
          inl (λ to reaches hears off. next (place j) other on (eqb-false other j apart)
          (record { other = reaches.other; here = hears.up_here; there = reaches.on; network = reaches.network; wanted = hears.wanted; offer = refl }))

      -- a route that was learned elsewhere
      learned_said : (j : ℕ) (r : RouteOffer) → RouteHeld r → (r.port == j) ≡ false → RouteSaid begun (place j) (told_at (port_at ports j).cost (entry_of r))
      learned_said j r held apart near = by held.0.0
        where
          e : RipEntry
          e = told_at (port_at ports j).cost (entry_of r)

          by : Fine net up foreign router r ⊎ IsBelow delay slack (r.hops + 1) had
              → ((to : Place) → Reaches net up (place j) to → Hears net up to e → Fine net up foreign to.router (route_offer to.port (port_of net (place j)).node e)) ⊎ IsWithin delay slack e.hops (delay + begun)
          by (inr old) = inr (omega (arith, old, soon))
          by (inl fine) =
              inl (λ to reaches hears off. farther (place j) r (eqb-false r.port j apart)
              (record { other = reaches.other; here = hears.up_here; there = reaches.on; network = reaches.network; wanted = hears.wanted; offer = refl })
              near (fine off))

      ended_said : (j : ℕ) (e : RipEntry) → RouteSaid begun (place j) (dead e)
      ended_said j e near = absurd (omega (arith, near))

      pub routes_said : (j : ℕ) → AllByRecursion (RouteSaid begun (place j)) (told ports (up router) (offers (routes_held ports most_routes history)) j)
      routes_said j =
          told_all ports (up router) (λ j. RouteSaid begun (place j)) RouteHeld beside learned_said ended_said (offers (routes_held ports most_routes history)) routes_are j

      pub changes_said : (before : List RouteOffer) (j : ℕ) → AllByRecursion (RouteSaid begun (place j)) (news ports before (offers (routes_held ports most_routes history)) j)
      changes_said before j =
          news_told ports (up router) (λ j. RouteSaid begun (place j)) RouteHeld beside learned_said ended_said before (offers (routes_held ports most_routes history))
          routes_are j
