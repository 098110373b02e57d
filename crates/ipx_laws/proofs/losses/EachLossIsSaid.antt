-- What a router loses it says: at a stop, where a port of it goes down, and where it hears of losses. What it advertised is advertised still, or
-- it says that it isn't reached, or the network on which it would say so is lost.
use Rattle.std.proofs.Common.{◌≡◌, ◌≢◌, refl, sym, ap, ◌∙◌, subst, ◌⊎◌, ℕ, ◌+◌, ◌<◌, ◌==◌, ◌&&◌, nat_lt, nat_le, Bool, true, false, not, List, [], ◌∷◌, ◌++◌, if◌then◌else◌, length, map, flat_map, find, Option, None, Some, Ok, Err, IfSome, inl, inr, arith, append-nil, true≢false, is_eq}
use Rattle.std.specs.List.{AllByRecursion}
use Rattle.std.proofs.lemmas.Bool.{cases_Bool, and_from, both_ways, eqb-true, ne_eqb, lt-ltb, le-leb}
use Rattle.ipx_table.specs.Facts.{Fact, PortEnd, End}
use Rattle.ipx_wire.specs.Packet.{packet_of}
use Rattle.ipx_wire.specs.Piece.{IsBytes}
use Rattle.ipx_wire.specs.Rip.{IsEntry, RipParts}
use Rattle.ipx_wire.specs.declared.address.Address.{Address}
use Rattle.ipx_wire.specs.declared.network.Network.{Network}
use Rattle.ipx_wire.specs.declared.rip.Operation.{Operation}
use Rattle.ipx_wire.specs.declared.rip.Operation.TheVariants.{Request, Response}
use Rattle.ipx_wire.specs.declared.rip.RipEntry.{RipEntry}
use Rattle.ipx_wire.specs.declared.sap.Sap.TheVariants.{Query, Response as SapResponse}
use Rattle.ipx_wire.specs.declared.sap_entries.SapEntry.{SapEntry}
use Rattle.ipx_wire.specs.declared.service.Service.{Service}
use Rattle.ipx_router.specs.Facts.{route_offer, route_facts, route_facts_of, routes_heard, heard_after, routes_held, offers}
use Rattle.ipx_router.specs.Heard.{Heard, HeardRip, HeardSap}
use Rattle.ipx_router.specs.History.{Event, History, Stop, Packet, PortDown, IsOnPort, IsOfBytes, running, ports_up}
use Rattle.ipx_router.specs.News.{news, news_services}
use Rattle.ipx_router.specs.Numbers.{unreachable}
use Rattle.ipx_router.specs.Port.{Port, IsPort, port_at, is_up, reply_to}
use Rattle.ipx_router.specs.Relays.{Sent, relayed}
use Rattle.ipx_router.specs.Routes.{network_order}
use Rattle.ipx_router.specs.Sends.{Holding, holding, sends, stop_on, port_down_on, news_on, heard_sends, rip_sends, asked}
use Rattle.ipx_router.specs.Told.{network_before, told, told_services, told_at, direct_entry, entry_of, dead, dead_service, is_route_told, by_network}
use Rattle.ipx_router.specs.declared.route_offer.RouteOffer.{RouteOffer}
use Rattle.ipx_router.specs.declared.why.Why.{Why}
use Rattle.ipx_router.proofs.bytes.FieldsAreBytes.{IsTellable}
use Rattle.ipx_router.proofs.changes.ChangesFitFields.{news_fit, news_services_fit}
use Rattle.ipx_router.proofs.histories.OneEventMore.{none_up, up_stays, ports_stay}
use Rattle.ipx_router.proofs.lists.EachElement.{all_both, all_sorted}
use Rattle.ipx_router.proofs.port_values.PortOfEachNumber.{port-all, ports_up-within, one_up}
use Rattle.ipx_router.proofs.sending.OwnPacketsAreValid.{Writable}
use Rattle.ipx_router.proofs.tables.HeldFitsFields.{held_routes_fit, held_services_fit}
use Rattle.ipx_router.proofs.tables.OffersOfAMessage.{facts_from-more}
use Rattle.ipx_router.proofs.telling.ToldFitsFields.{told_fits, told_services_fit, dead_fits, down_fits, direct_fits}
use Rattle.ipx_router.proofs.verdicts.HeardPassesAllChecks.{heard_passes}
use Rattle.ipx_internet.specs.Internet.{Internet}
use Rattle.ipx_internet.proofs.lists.EachElement.{all_of, all_then, all-append, all-map}
use Rattle.ipx_internet.proofs.lists.FoundInAList.{nothing, it_is}
use Rattle.ipx_internet.proofs.packets.PagesReadAgain.{Tellable}
use Rattle.ipx_internet.proofs.packets.ResponsesAskNothing.{IsAnswering}
use Rattle.ipx_internet.proofs.packets.SentOnOrReply.{Layouts, IsNewsSent, IsReply, IsCast, no_reply, unsaid, answered, broadcast_cast, each_cast}
use Rattle.ipx_internet.proofs.records.HeardChangesItsKeys.{EachHeard, routes_left}
use Rattle.ipx_laws.specs.Gone.{IsGone}
use Rattle.ipx_laws.proofs.lists.SomeElement.{AnyIs, any_then, any-map, any-sorted, number_any}
use Rattle.ipx_laws.proofs.losses.LossIsSaid.{news_dead, loss_said}
use Rattle.ipx_laws.proofs.losses.TablesShrink.{route_at, Shrinks, IsDead, after, port_end_shrinks, end_shrinks}
use Rattle.ipx_laws.proofs.losses.WordsThatWait.{no_way, TellsOf, tells_there}
use Rattle.ipx_laws.proofs.tables.SaysItsLeastWay.{told_route, told_direct}

-- what is found is in the list
find_any : {X : Type 0} (test : X → Bool) (xs : List X) (x : X) → find test xs ≡ Some x → AnyIs (λ y. y ≡ x) xs
find_any test [] x e = nothing e
find_any test (y ∷ ys) x e = elim (cases_Bool (test y)) [
  | inl passes ↦ inl (it_is (λ z. y ≡ z) x y (rw passes at e) refl)
  | inr other ↦ inr (find_any test ys x (rw other at e))
]

abbrev pub AnyService : Service → Type 0
AnyService s = Unit

abbrev pub AnyEntry : SapEntry → Type 0
AnyEntry e = Unit

module _ (ports : List Port) (most_routes : ℕ) where
  abbrev pub routes : History → List RouteOffer
  routes history = offers (routes_held ports most_routes history)

  -- ---- what a router advertises on a port

  -- a neighbour's route is what it takes there of the network of another port that is up
  pub record Direct (history : History) (j : ℕ) (r : RouteOffer) : Type 0 where
    pub beside : ℕ
    pub up : is_up (ports_up ports history) beside ≡ true
    pub apart : beside ≢ j
    pub offer : r ≡ route_offer r.port (port_at ports j).node (told_at (port_at ports j).cost (direct_entry ports beside))

  -- or of a route that is held by another port
  pub record Learned (history : History) (j : ℕ) (r : RouteOffer) : Type 0 where
    pub route : RouteOffer
    pub held : route_at route.network (routes history) ≡ Some route
    pub apart : route.port ≢ j
    pub near : r.hops < unreachable
    pub offer : r ≡ route_offer r.port (port_at ports j).node (told_at (port_at ports j).cost (entry_of route))

  -- the router advertises it, on a port that is up
  pub record Says (history : History) (j : ℕ) (r : RouteOffer) : Type 0 where
    pub on : is_up (ports_up ports history) j ≡ true
    pub what : Direct history j r ⊎ Learned history j r

module _ (net : Internet) (laws : Layouts) (last : List History) (ports : List Port) (are : AllByRecursion IsPort ports) (most_routes most_services : ℕ)
    (history : History) (of_bytes : AllByRecursion IsOfBytes history) where
  abbrev now : Event → History
  now event = history ++ event ∷ []

  abbrev sent : Event → List Sent
  sent event = sends ports most_routes most_services history event

  -- what an event does that is a loss, or tells of one
  pub record IsLosing (event : Event) : Type 0 where
    pub shrinks : Shrinks (routes ports most_routes history) (routes ports most_routes (now event))
    pub dead_news : AllByRecursion (λ s. IsNewsSent IsDead AnyService (port_at ports s.port) s.bytes) (sent event)
    pub said : (j : ℕ) (r : RouteOffer) → Says ports most_routes history j r
        → Says ports most_routes (now event) j r ⊎ (AnyIs (TellsOf ports r.network IsDead j) (sent event) ⊎ IsGone net last (port_at ports j).network)

  abbrev up : List ℕ
  up = ports_up ports history

  abbrev before : Holding
  before = holding ports most_routes most_services history

  abbrev then_holding : Event → Holding
  then_holding event = holding ports most_routes most_services (now event)

  as_held : Shrinks (routes ports most_routes history) (routes ports most_routes history)
  as_held = record { each = λ network. inl refl }

  facts_now : (event : Event) → route_facts ports (now event) ≡ route_facts ports history ++ route_facts_of ports history event
  facts_now event = facts_from-more (route_facts_of ports) [] history event

  runs : (j : ℕ) → is_up up j ≡ true → running history ≡ true
  runs j on = grind (arith, both_ways, none_up)

  port_is : (j : ℕ) → is_up up j ≡ true → IsPort (port_at ports j)
  port_is j on = port-all IsPort ports j are (one_up (λ k. k < length ports) up j (ports_up-within ports history) on)

  news_of : (us : List ℕ) (ss : List Sent) → AllByRecursion (IsCast us (λ j. IsDead) (λ j. AnyService) ports) ss
      → AllByRecursion (λ s. IsNewsSent IsDead AnyService (port_at ports s.port) s.bytes) ss
  news_of us ss casts = all_then (IsCast us (λ j. IsDead) (λ j. AnyService) ports) _ (λ s cast. cast.news) ss casts

  tellable : (services : List Service) → AllByRecursion IsTellable services → AllByRecursion (Tellable AnyService) services
  tellable services all = all_then IsTellable (Tellable AnyService) (λ s is. (is, tt)) services all

  -- ---- a stop

  abbrev gone_entries : ℕ → List RipEntry
  gone_entries j = map dead (told ports before.up before.routes j)

  abbrev gone_services : ℕ → List Service
  gone_services j = map dead_service (told_services before.services j)

  gone_written : (j : ℕ) → AllByRecursion (Writable IsDead) (gone_entries j)
  gone_written j =
      all-map IsEntry (Writable IsDead) dead (λ e is. (dead_fits e is, omega arith)) (told ports before.up before.routes j)
      (told_fits ports are before.up before.routes j (ports_up-within ports history) (held_routes_fit laws.readings ports most_routes history of_bytes))

  gone_tellable : (j : ℕ) → AllByRecursion (Tellable AnyService) (gone_services j)
  gone_tellable j =
      all-map IsTellable (Tellable AnyService) dead_service (λ s is. (down_fits s is, tt)) (told_services before.services j)
      (told_services_fit before.services j (held_services_fit laws.readings ports most_services history of_bytes))

  -- all that is advertised has the network
  told_any : (j : ℕ) (r : RouteOffer) → Says ports most_routes history j r → AnyIs (λ e. e.network ≡ r.network) (told ports before.up before.routes j)
  told_any j r says = by says.what
    where
      by : Direct ports most_routes history j r ⊎ Learned ports most_routes history j r
          → AnyIs (λ e. e.network ≡ r.network) (told ports before.up before.routes j)
      by (inl direct) =
          let named : (port_at ports direct.beside).network ≡ r.network = sym (ap (λ (x : RouteOffer). x.network) direct.offer) in
          let apart : (direct.beside == j) ≡ false = ne_eqb direct.beside j direct.apart in
          told_direct ports r.network no_way before.up before.routes j
          (any_then (λ k. k ≡ direct.beside) (λ k. ((port_at ports k).network ≡ r.network) × (not (k == j) ≡ true))
          (λ k same. (ap (λ i. (port_at ports i).network) same ∙ named, ap (λ i. not (i == j)) same ∙ ap not apart)) before.up
          (number_any direct.beside before.up direct.up))
      by (inr learned) =
          let s = learned.route in
          let named : s.network ≡ r.network = sym (ap (λ (x : RouteOffer). x.network) learned.offer) in
          let hops : r.hops ≡ s.hops + 1 = ap (λ (x : RouteOffer). x.hops) learned.offer in
          let near = learned.near in
          let apart : (s.port == j) ≡ false = ne_eqb s.port j learned.apart in
          let reached : nat_lt s.hops 15 ≡ true = lt-ltb s.hops 15 (omega (arith, hops, near)) in
          let told_here : is_route_told j s ≡ true = rw (apart, reached) refl in
          told_route ports r.network no_way before.up before.routes j
          (any_then (λ x. x ≡ s) (λ x. (x.network ≡ r.network) × (is_route_told j x ≡ true))
          (λ x same. (ap (λ (y : RouteOffer). y.network) same ∙ named, ap (is_route_told j) same ∙ told_here)) before.routes
          (find_any (λ o. is_eq (network_order o.network s.network)) before.routes s learned.held))

  -- what it sends, and what that means for its routes
  abbrev at_stop : Bool → List Sent
  at_stop b = if b then flat_map (stop_on ports before) before.up else []

  abbrev facts_at_stop : Bool → List (Fact RouteOffer)
  facts_at_stop b = route_facts ports history ++ (if b then End ∷ [] else [])

  stop_shrinks : (b : Bool) → Shrinks (routes ports most_routes history) (after ports most_routes (facts_at_stop b))
  stop_shrinks true = end_shrinks ports most_routes (route_facts ports history)
  stop_shrinks false = grind (arith, Shrinks, after, append-nil, as_held)

  stop_news : (b : Bool) → AllByRecursion (λ s. IsNewsSent IsDead AnyService (port_at ports s.port) s.bytes) (at_stop b)
  stop_news true =
      news_of before.up (flat_map (stop_on ports before) before.up)
      (each_cast laws ports are before.up (ports_up-within ports history) (λ j. IsDead) (λ j. AnyService) (stop_on ports before)
      (λ j on. broadcast_cast laws ports are before.up (ports_up-within ports history) (λ j. IsDead) (λ j. AnyService) j on (gone_entries j) (gone_services j)
      (gone_written j) (gone_tellable j)))
  stop_news false = tt

  stop_tells : (j : ℕ) (r : RouteOffer) → Says ports most_routes history j r → AnyIs (TellsOf ports r.network IsDead j) (at_stop (running history))
  stop_tells j r says =
      subst (λ (b : Bool). AnyIs (TellsOf ports r.network IsDead j) (at_stop b)) (sym (runs j says.on))
      (tells_there laws.readings laws.again ports r.network IsDead j (port_is j says.on) (stop_on ports before) before.up says.on (gone_entries j) (gone_services j) refl
      (gone_written j)
      (any-map (λ e. e.network ≡ r.network) (λ e. e.network ≡ r.network) dead (λ e is. is) (told ports before.up before.routes j) (told_any j r says)))

  pub stop_loses : IsLosing Stop
  stop_loses = record {
    shrinks =
        subst (λ (fs : List (Fact RouteOffer)). Shrinks (routes ports most_routes history) (after ports most_routes fs)) (sym (facts_now Stop))
        (stop_shrinks (running history));
    dead_news = stop_news (running history);
    said = λ j r says. inr (inl (stop_tells j r says));
  }

  -- ---- a port that goes down

  module _ (number : ℕ) (there : number < length ports) (lost : IsGone net last (port_at ports number).network) where
    abbrev event : Event
    event = PortDown number

    abbrev behind : Holding
    behind = then_holding event

    -- another port stays up
    stays_up : (j : ℕ) → (number == j) ≡ false → is_up up j ≡ true → is_up (ports_up ports (now event)) j ≡ true
    stays_up j apart on = up_stays ports history event j refl apart on

    down_already : is_up up number ≡ false → IsLosing event
    down_already down = record {
      shrinks =
          subst (λ (fs : List (Fact RouteOffer)). Shrinks (routes ports most_routes history) (after ports most_routes fs)) (sym unchanged) as_held;
      dead_news = subst (λ (ss : List Sent). AllByRecursion (λ s. IsNewsSent IsDead AnyService (port_at ports s.port) s.bytes) ss) (sym silent) tt;
      said = λ j r says. inl (record {
        on = stays_up j (other j says.on) says.on;
        what = elim says.what [
          | inl direct ↦
              inl (record { beside = direct.beside; up = stays_up direct.beside (other direct.beside direct.up) direct.up; apart = direct.apart; offer = direct.offer })
          | inr learned ↦ inr (record {
            route = learned.route;
            held = subst (λ (fs : List (Fact RouteOffer)). route_at learned.route.network (after ports most_routes fs) ≡ Some learned.route) (sym unchanged) learned.held;
            apart = learned.apart;
            near = learned.near;
            offer = learned.offer;
          })
        ];
      });
    }
      where
        unchanged : route_facts ports (now event) ≡ route_facts ports history
        unchanged =
            facts_now event ∙ ap (λ b. route_facts ports history ++ (if b then PortEnd number ∷ [] else [])) down ∙ append-nil (route_facts ports history)

        other : (j : ℕ) → is_up up j ≡ true → (number == j) ≡ false
        other j on = ne_eqb number j (λ same. both_ways (is_up up number) down (ap (is_up up) same ∙ on))

        never : (b : Bool) → (b && false) ≡ false
        never true = refl
        never false = refl

        silent : sent event ≡ []
        silent =
            ap (λ b. if b then flat_map (port_down_on ports before behind number) behind.up else [])
            (ap (λ b. running history && b) down ∙ never (running history))

    abbrev entries : ℕ → List RipEntry
    entries j = dead (direct_entry ports number) ∷ news ports before.routes behind.routes j

    abbrev lost_services : ℕ → List Service
    lost_services j = news_services before.services behind.services j

    goes_down : is_up up number ≡ true → IsLosing event
    goes_down on_here = record { shrinks = shrinks; dead_news = dead_news; said = said }
      where
        yes_runs : running history ≡ true
        yes_runs = runs number on_here

        shrinks : Shrinks (routes ports most_routes history) (routes ports most_routes (now event))
        shrinks =
            let facts = route_facts ports history in
            let later : route_facts ports (now event) ≡ facts ++ PortEnd number ∷ [] =
            facts_now event ∙ ap (λ b. facts ++ (if b then PortEnd number ∷ [] else [])) on_here in
            subst (λ (fs : List (Fact RouteOffer)). Shrinks (after ports most_routes facts) (after ports most_routes fs)) (sym later)
            (port_end_shrinks ports most_routes facts number)

        still : AllByRecursion IsOfBytes (now event)
        still = all-append IsOfBytes history (event ∷ []) of_bytes (tt, tt)

        ups : AllByRecursion (λ j. j < length ports) behind.up
        ups = ports_up-within ports (now event)

        written : (j : ℕ) → AllByRecursion (Writable IsDead) (by_network (entries j))
        written j =
            all_sorted (Writable IsDead) network_before (entries j) (
              (dead_fits (direct_entry ports number) (direct_fits ports are number there).0, omega arith),
              all_both IsEntry IsDead (news ports before.routes behind.routes j)
                  (news_fit ports before.routes behind.routes j (held_routes_fit laws.readings ports most_routes history of_bytes)
                  (held_routes_fit laws.readings ports most_routes (now event) still))
                  (news_dead ports before.routes behind.routes j shrinks),
            )

        told_services_lost : (j : ℕ) → AllByRecursion (Tellable AnyService) (lost_services j)
        told_services_lost j =
            tellable (lost_services j)
            (news_services_fit before.services behind.services j (held_services_fit laws.readings ports most_services history of_bytes)
            (held_services_fit laws.readings ports most_services (now event) still))

        these : sent event ≡ flat_map (port_down_on ports before behind number) behind.up
        these =
            ap (λ b. if b then flat_map (port_down_on ports before behind number) behind.up else [])
            (and_from (running history) (is_up up number) yes_runs on_here)

        dead_news : AllByRecursion (λ s. IsNewsSent IsDead AnyService (port_at ports s.port) s.bytes) (sent event)
        dead_news =
            subst (λ (ss : List Sent). AllByRecursion (λ s. IsNewsSent IsDead AnyService (port_at ports s.port) s.bytes) ss) (sym these)
            (news_of behind.up (flat_map (port_down_on ports before behind number) behind.up)
            (each_cast laws ports are behind.up ups (λ j. IsDead) (λ j. AnyService) (port_down_on ports before behind number)
            (λ j on. broadcast_cast laws ports are behind.up ups (λ j. IsDead) (λ j. AnyService) j on (by_network (entries j)) (lost_services j)
            (written j) (told_services_lost j))))

        tells : (j : ℕ) (network : Network) → is_up behind.up j ≡ true → AnyIs (λ e. e.network ≡ network) (entries j)
            → AnyIs (TellsOf ports network IsDead j) (sent event)
        tells j network on any =
            subst (λ (ss : List Sent). AnyIs (TellsOf ports network IsDead j) ss) (sym these)
            (tells_there laws.readings laws.again ports network IsDead j (port-all IsPort ports j are (one_up (λ k. k < length ports) behind.up j ups on))
            (port_down_on ports before behind number) behind.up on (by_network (entries j)) (lost_services j) refl (written j)
            (any-sorted (λ e. e.network ≡ network) network_before (entries j) any))

        said : (j : ℕ) (r : RouteOffer) → Says ports most_routes history j r
            → Says ports most_routes (now event) j r ⊎ (AnyIs (TellsOf ports r.network IsDead j) (sent event) ⊎ IsGone net last (port_at ports j).network)
        said j r says = elim (cases_Bool (number == j)) [
          | inl same ↦ inr (inr (subst (λ (k : ℕ). IsGone net last (port_at ports k).network) (eqb-true number j same) lost))
          | inr other ↦ by (stays_up j other says.on) says.what
        ]
          where
            by : is_up (ports_up ports (now event)) j ≡ true → Direct ports most_routes history j r ⊎ Learned ports most_routes history j r
                → Says ports most_routes (now event) j r ⊎ (AnyIs (TellsOf ports r.network IsDead j) (sent event) ⊎ IsGone net last (port_at ports j).network)
            by on (inl direct) = elim (cases_Bool (number == direct.beside)) [
              | inl same ↦
                  inr (inl (tells j r.network on
                  (inl (ap (λ k. (port_at ports k).network) (eqb-true number direct.beside same) ∙ sym (ap (λ (x : RouteOffer). x.network) direct.offer)))))
              | inr other ↦ inl (record {
                on = on;
                what = inl (record {
                  beside = direct.beside;
                  up = stays_up direct.beside other direct.up;
                  apart = direct.apart;
                  offer = direct.offer;
                });
              })
            ]
            by on (inr learned) = elim (shrinks.each learned.route.network) [
              | inl same ↦ inl (record {
                on = on;
                what = inr (record {
                  route = learned.route;
                  held = same ∙ learned.held;
                  apart = learned.apart;
                  near = learned.near;
                  offer = learned.offer;
                });
              })
              | inr none ↦
                  let named : learned.route.network ≡ r.network = sym (ap (λ (x : RouteOffer). x.network) learned.offer) in
                  inr (inl (tells j r.network on
                  (inr (subst (λ (n : Network). AnyIs (λ e. e.network ≡ n) (news ports before.routes behind.routes j)) named
                  (loss_said ports before.routes behind.routes j learned.route learned.held none learned.apart)))))
            ]

    pub port_down_loses : IsLosing event
    port_down_loses = grind (arith, goes_down, down_already)

  -- ---- what it hears of losses

  module _ (on_ports : AllByRecursion (IsOnPort ports) history) (number : ℕ) (bytes : List ℕ) (there : number < length ports) (are_bytes : IsBytes bytes)
      (reply : IsReply (port_at ports number) bytes) (dead_heard : IfSome (heard_after ports history number bytes) (EachHeard IsDead AnyEntry))
      (answers : (m : Heard) → heard_after ports history number bytes ≡ Some m → IsAnswering m) where
    abbrev packet : Event
    packet = Packet number bytes

    abbrev learnt : Holding
    learnt = then_holding packet

    abbrev heard_now : Option Heard
    heard_now = heard_after ports history number bytes

    same_ups : learnt.up ≡ up
    same_ups = ports_stay ports history packet refl refl (λ port. refl) (λ port. refl)

    packet_shrinks : Shrinks (routes ports most_routes history) (routes ports most_routes (now packet))
    packet_shrinks = record {
      each = λ network. elim (routes_left IsDead AnyEntry (λ r. (nat_le unreachable r.hops) ≡ true) (λ s. Unit {0}) number
          (λ node e is. le-leb unreachable e.hops is) (λ node e name named is. tt) ports history bytes dead_heard most_routes network) [
            | inl same ↦ inl same
            | inr told ↦ elim told.left [
              | inl none ↦ inr none
              | inr some ↦ absurd (both_ways (nat_le unreachable told.offer.hops) some.1 told.such)
            ]
          ];
    }

    packet_news : AllByRecursion (λ s. IsNewsSent IsDead AnyService (port_at ports s.port) s.bytes) (sent packet)
    packet_news = by heard_now refl
      where
        by : (o : Option Heard) → heard_now ≡ o → AllByRecursion (λ s. IsNewsSent IsDead AnyService (port_at ports s.port) s.bytes) (sent packet)
        by None e =
            all_then _ (λ s. IsNewsSent IsDead AnyService (port_at ports s.port) s.bytes)
            (λ s on. absurd (no_reply (port_at ports number) bytes s.bytes reply on)) (sent packet)
            (unsaid laws ports are most_routes most_services history on_ports of_bytes number bytes there are_bytes e)
        by (Some m) e =
            news_of learnt.up (sent packet)
            (answered laws ports are most_routes most_services history on_ports of_bytes number bytes there are_bytes (λ j. IsDead) (λ j. AnyService)
            (λ j. news_dead ports before.routes learnt.routes j packet_shrinks)
            (λ j. all_of AnyService (λ s. tt) (news_services before.services learnt.services j)) m e (answers m e))

    -- what is heard is told on every port that is up
    sends_news : (m : Heard) → heard_now ≡ Some m → sent packet ≡ flat_map (news_on ports before learnt) learnt.up
    sends_news m e =
        ap judged (heard_passes ports before.up before.routes number bytes (running history) m e) ∙ ap for e ∙ by m (answers m e)
      where
        relays : List Sent
        relays = elim (packet_of bytes) [ Ok p ↦ relayed ports before.up before.routes number p | Err fault ↦ [] ]

        for : Option Heard → List Sent
        for o = elim o [ Some message ↦ heard_sends ports before learnt number message | None ↦ relays ]

        judged : Option Why → List Sent
        judged o = elim o [ Some reason ↦ [] | None ↦ for heard_now ]

        by_operation : (source : Address) (rip : RipParts) (operation : Operation) → operation ≡ Response → (elim operation [
          | Response ↦ flat_map (news_on ports before learnt) learnt.up
          | Request ↦ rip_sends ports number (reply_to (port_at ports number) source) Response (asked rip.entries (told ports before.up before.routes number))
        ]) ≡ flat_map (news_on ports before learnt) learnt.up
        by_operation source rip Response is = refl
        by_operation source rip Request is = absurd (not_request is)
          where
            not_request : Request ≡ Response → ⊥
            not_request e = true≢false (ap (λ (o : Operation). elim o [ Request ↦ true | Response ↦ false ]) e)

        by : (m : Heard) → IsAnswering m → heard_sends ports before learnt number m ≡ flat_map (news_on ports before learnt) learnt.up
        by (HeardRip source rip) is = by_operation source rip rip.operation is
        by (HeardSap source (Query nearest kind)) is = absurd is
        by (HeardSap source (SapResponse nearest entries)) is = refl

    packet_said : (j : ℕ) (r : RouteOffer) → Says ports most_routes history j r
        → Says ports most_routes (now packet) j r ⊎ (AnyIs (TellsOf ports r.network IsDead j) (sent packet) ⊎ IsGone net last (port_at ports j).network)
    packet_said j r says = by says.what
      where
        on : is_up learnt.up j ≡ true
        on = subst (λ (us : List ℕ). is_up us j ≡ true) (sym same_ups) says.on

        still : AllByRecursion IsOfBytes (now packet)
        still = all-append IsOfBytes history (packet ∷ []) of_bytes (are_bytes, tt)

        tells : (m : Heard) → heard_now ≡ Some m → AnyIs (λ e. e.network ≡ r.network) (news ports before.routes learnt.routes j)
            → AnyIs (TellsOf ports r.network IsDead j) (sent packet)
        tells m e any =
            subst (λ (ss : List Sent). AnyIs (TellsOf ports r.network IsDead j) ss) (sym (sends_news m e))
            (tells_there laws.readings laws.again ports r.network IsDead j (port_is j says.on) (news_on ports before learnt) learnt.up on
            (news ports before.routes learnt.routes j) (news_services before.services learnt.services j) refl
            (all_both IsEntry IsDead (news ports before.routes learnt.routes j)
            (news_fit ports before.routes learnt.routes j (held_routes_fit laws.readings ports most_routes history of_bytes)
            (held_routes_fit laws.readings ports most_routes (now packet) still))
            (news_dead ports before.routes learnt.routes j packet_shrinks)) any)

        -- where nothing is heard nothing ends
        kept : heard_now ≡ None → route_facts ports (now packet) ≡ route_facts ports history
        kept e = facts_now packet ∙ ap (λ o. route_facts ports history ++ routes_heard ports number o) e ∙ append-nil (route_facts ports history)

        by : Direct ports most_routes history j r ⊎ Learned ports most_routes history j r
            → Says ports most_routes (now packet) j r ⊎ (AnyIs (TellsOf ports r.network IsDead j) (sent packet) ⊎ IsGone net last (port_at ports j).network)
        by (inl direct) = inl (record {
          on = on;
          what = inl (record {
            beside = direct.beside;
            up = subst (λ (us : List ℕ). is_up us direct.beside ≡ true) (sym same_ups) direct.up;
            apart = direct.apart;
            offer = direct.offer;
          });
        })
        by (inr learned) = elim (packet_shrinks.each learned.route.network) [
          | inl same ↦ still_learned (same ∙ learned.held)
          | inr none ↦ lost_route none heard_now refl
        ]
          where
            still_learned : route_at learned.route.network (routes ports most_routes (now packet)) ≡ Some learned.route
                → Says ports most_routes (now packet) j r ⊎ (AnyIs (TellsOf ports r.network IsDead j) (sent packet) ⊎ IsGone net last (port_at ports j).network)
            still_learned held = inl (record {
              on = on;
              what = inr (record {
                route = learned.route;
                held = held;
                apart = learned.apart;
                near = learned.near;
                offer = learned.offer;
              });
            })

            lost_route : route_at learned.route.network (routes ports most_routes (now packet)) ≡ None → (o : Option Heard) → heard_now ≡ o
                → Says ports most_routes (now packet) j r ⊎ (AnyIs (TellsOf ports r.network IsDead j) (sent packet) ⊎ IsGone net last (port_at ports j).network)
            lost_route none None e =
                still_learned (subst (λ (fs : List (Fact RouteOffer)). route_at learned.route.network (after ports most_routes fs) ≡ Some learned.route)
                (sym (kept e)) learned.held)
            lost_route none (Some m) e =
                let named : learned.route.network ≡ r.network = sym (ap (λ (x : RouteOffer). x.network) learned.offer) in
                inr (inl (tells m e (subst (λ (n : Network). AnyIs (λ x. x.network ≡ n) (news ports before.routes learnt.routes j)) named
                (loss_said ports before.routes learnt.routes j learned.route learned.held none learned.apart))))

    pub packet_loses : IsLosing packet
    packet_loses = record { shrinks = packet_shrinks; dead_news = packet_news; said = packet_said }
