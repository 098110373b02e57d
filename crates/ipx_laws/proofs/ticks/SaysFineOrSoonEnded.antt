-- What a router sends for any event, while what it has is fine or old enough, says what is fine or was told soon enough.
use Rattle.std.proofs.Common.{◌≡◌, ◌≢◌, refl, sym, ap, ◌∙◌, subst, ◌⊎◌, ℕ, suc, ◌+◌, ◌<◌, ◌≤◌, ◌==◌, ◌&&◌, Bool, true, false, not, if◌then◌else◌, List, [], ◌∷◌, ◌++◌, length, map, flat_map, Option, Some, None, inl, inr, arith}
use Rattle.std.specs.List.{AllByRecursion}
use Rattle.std.proofs.lemmas.Bool.{cases_Bool, and_parts}
use Rattle.ipx_wire.specs.Rip.{IsEntry}
use Rattle.ipx_wire.specs.declared.address.Address.{Address}
use Rattle.ipx_wire.specs.declared.network.Network.{Network}
use Rattle.ipx_wire.specs.declared.rip.Operation.{Operation}
use Rattle.ipx_wire.specs.declared.rip.Operation.TheVariants.{Request, Response}
use Rattle.ipx_wire.specs.declared.rip.RipEntry.{RipEntry}
use Rattle.ipx_wire.specs.declared.sap.Sap.TheVariants.{Query, Response as SapResponse}
use Rattle.ipx_wire.specs.declared.service.Service.{Service}
use Rattle.ipx_router.specs.Facts.{heard_after, route_facts, service_facts, routes_held, services_held, offers}
use Rattle.ipx_router.specs.Heard.{Heard, HeardRip, HeardSap}
use Rattle.ipx_router.specs.History.{Event, History, Start, Stop, Second, Packet, PortDown, PortUp, IsOnPort, IsOfBytes, running, ports_up}
use Rattle.ipx_router.specs.News.{news, news_services}
use Rattle.ipx_router.specs.Port.{Port, IsPort, port_at, is_up, reply_to}
use Rattle.ipx_router.specs.Relays.{Sent}
use Rattle.ipx_router.specs.Routes.{route_reading, network_order}
use Rattle.ipx_router.specs.Sends.{Holding, holding, sends, is_periodic, rip_sends, rip_broadcast, sap_broadcast, routes_request, services_query, introduction, asked, of_kind, nearest_of, second_on, stop_on, news_on, port_down_on, port_up_on, heard_sends}
use Rattle.ipx_router.specs.Services.{service_reading, service_order}
use Rattle.ipx_router.specs.Told.{told, told_services, told_at, direct_entry, entry_of, by_network, by_name, network_before, name_before, dead, farther, dead_service}
use Rattle.ipx_router.specs.declared.route_offer.RouteOffer.{RouteOffer}
use Rattle.ipx_router.specs.declared.service_offer.ServiceOffer.{ServiceOffer}
use Rattle.ipx_router.proofs.bytes.FieldsAreBytes.{IsPlace as IsPlaced, IsTellable}
use Rattle.ipx_router.proofs.bounds.PacketsOfEachEvent.{network_total, service_total}
use Rattle.ipx_router.proofs.lists.EachElement.{all_both, all_sorted}
use Rattle.ipx_router.proofs.tables.HeldFitsFields.{RouteFits, ServiceFits, held_routes_fit, held_services_fit}
use Rattle.ipx_router.proofs.verdicts.HeardIsAsLayoutsAllow.{heard_is}
use Rattle.ipx_router.proofs.histories.OneEventMore.{port_comes_up}
use Rattle.ipx_router.proofs.changes.ChangesFitFields.{news_fit, news_services_fit}
use Rattle.ipx_router.proofs.sending.OwnPacketsAreValid.{Writable, reply_is}
use Rattle.ipx_router.proofs.port_values.PortOfEachNumber.{port-all, ports_up-within, members, one_up}
use Rattle.ipx_router.proofs.tables.HeldWasOffered.{source_of}
use Rattle.ipx_router.proofs.telling.ToldFitsFields.{told_at_fits, direct_fits, dead_fits, down_fits, told_fits, told_services_fit}
use Rattle.ipx_internet.proofs.lists.EachElement.{all_then, all-append, all-map, all-filter, all-flat_map}
use Rattle.ipx_internet.proofs.packets.AdvertisedIsHeld.{told_all, news_told, told_services_all, news_services_told}
use Rattle.ipx_internet.proofs.packets.NearestIsOneOfThem.{either, nearest_all}
use Rattle.ipx_internet.proofs.packets.PagesReadAgain.{Tellable}
use Rattle.ipx_internet.proofs.packets.SentOnOrReply.{Layouts, IsOnward, unsaid, said}
use Rattle.ipx_laws.proofs.packets.SentOnSaysTheSame.{heard_message, sent_on_message}
use Rattle.ipx_laws.proofs.records.RecordsGrowOld.{IsBelow, IsOldHeld, passed, old_held}
use Rattle.ipx_laws.proofs.ticks.FineOrSoonEnded.{IsFineService, IsSoon, farther_fine, RipAsks, Asks, EventTells, FineRoute, FineService, Abides, said_asks}
use Rattle.ipx_laws.proofs.ticks.OwnPagesSayFine.{Entry, Named, Say, entries_tell, services_tell, rip_broadcast_tells, sap_broadcast_tells, broadcasts_tell, request_tells, query_tells}

-- a list where a test holds, or where it doesn't
where_so : {X : Type 0} (P : X → Type 0) (c : Bool) (xs : List X) → (c ≡ true → AllByRecursion P xs) → AllByRecursion P (if c then xs else [])
where_so P c xs all = grind arith

or_not : {X : Type 0} (P : X → Type 0) (c : Bool) (xs : List X) → AllByRecursion P xs → AllByRecursion P (if c then [] else xs)
or_not P true xs all = tt
or_not P false xs all = all

module _ (delay slack : ℕ) (IsFine : Network → Type 0) (IsServed : Service → Type 0) (begun : ℕ) (ports : List Port) (most_routes most_services : ℕ) where
  abbrev E : RipEntry → Type 0
  E = Entry delay slack IsFine IsServed begun

  abbrev N : Service → Type 0
  N = Named delay slack IsFine IsServed begun

  abbrev routes_of : History → List RouteOffer
  routes_of history = offers (routes_held ports most_routes history)

  abbrev services_of : History → List ServiceOffer
  services_of history = offers (services_held ports most_services history)

  -- ---- what is held, as it is said

  module _ (had : ℕ) (soon : begun ≤ had + 1) where
    abbrev RouteHeld : RouteOffer → Type 0
    RouteHeld =
        IsOldHeld route_reading network_order network_total most_routes (map (λ p. p.route_share) ports) (λ r. r.hops) (λ r. refl) delay slack
        (FineRoute delay slack IsFine IsServed ports most_routes most_services) had

    abbrev ServiceHeld : ServiceOffer → Type 0
    ServiceHeld =
        IsOldHeld service_reading service_order service_total most_services (map (λ p. p.service_share) ports) (λ s. s.service.hops) (λ s. refl) delay slack
        (FineService delay slack IsFine IsServed ports most_routes most_services) had

    module _ (history : History) (abides : Abides delay slack IsFine IsServed ports most_routes most_services had history) where
      routes_are : AllByRecursion RouteHeld (routes_of history)
      routes_are =
          old_held route_reading network_order network_total most_routes (map (λ p. p.route_share) ports) (λ r. r.hops) (λ r. refl) delay slack
          (FineRoute delay slack IsFine IsServed ports most_routes most_services) had (route_facts ports history) abides.routes

      services_are : AllByRecursion ServiceHeld (services_of history)
      services_are =
          old_held service_reading service_order service_total most_services (map (λ p. p.service_share) ports) (λ s. s.service.hops) (λ s. refl) delay slack
          (FineService delay slack IsFine IsServed ports most_routes most_services) had (service_facts ports history) abides.services

    ended_said : (e : RipEntry) → E (dead e)
    ended_said e near = absurd (omega (arith, near))

    learned_said : (cost : ℕ) (r : RouteOffer) → RouteHeld r → E (told_at cost (entry_of r))
    learned_said cost r held near = by held.0
      where
        by : IsFine r.network ⊎ IsBelow delay slack (r.hops + 1) had → IsFine r.network ⊎ IsSoon delay slack IsFine IsServed begun (r.hops + 1)
        by (inl fine) = inl fine
        by (inr old) = inr (omega (arith, old, soon))

    lost_said : (s : Service) → N (dead_service s)
    lost_said s near = absurd (omega (arith, near))

    service_said : (s : ServiceOffer) → ServiceHeld s → N (farther s.service)
    service_said s held near = by held.0
      where
        by : IsFineService IsFine IsServed s.service ⊎ IsBelow delay slack (s.service.hops + 1) had
            → IsFineService IsFine IsServed (farther s.service) ⊎ IsSoon delay slack IsFine IsServed begun (s.service.hops + 1)
        by (inl fine) = inl (farther_fine IsFine IsServed s.service fine)
        by (inr old) = inr (omega (arith, old, soon))

    services_said : (services : List ServiceOffer) → AllByRecursion ServiceHeld services → (j : ℕ) → AllByRecursion N (told_services services j)
    services_said services all j = told_services_all N ServiceHeld service_said lost_said services all j

    service_news_said : (before after : List ServiceOffer) → AllByRecursion ServiceHeld after → (j : ℕ) → AllByRecursion N (news_services before after j)
    service_news_said before after all j = news_services_told N ServiceHeld service_said lost_said before after all j

    module _ (up : List ℕ) (fine : (number : ℕ) → is_up up number ≡ true → IsFine (port_at ports number).network) where
      direct_said : (cost other : ℕ) → is_up up other ≡ true → E (told_at cost (direct_entry ports other))
      direct_said cost other on near = inl (fine other on)

      routes_said : (routes : List RouteOffer) → AllByRecursion RouteHeld routes → (j : ℕ) → AllByRecursion E (told ports up routes j)
      routes_said routes all j =
          told_all ports up (λ j. E) RouteHeld (λ j other on apart. direct_said (port_at ports j).cost other on)
          (λ j r held apart. learned_said (port_at ports j).cost r held) (λ j e. ended_said e) routes all j

      news_said : (before after : List RouteOffer) → AllByRecursion RouteHeld after → (j : ℕ) → AllByRecursion E (news ports before after j)
      news_said before after all j =
          news_told ports up (λ j. E) RouteHeld (λ j other on apart. direct_said (port_at ports j).cost other on)
          (λ j r held apart. learned_said (port_at ports j).cost r held) (λ j e. ended_said e) before after all j

  -- ---- what comes

  -- what is heard of a packet that comes asks for nothing that does harm, and what is sent on of it tells of such, if the router sends anything
  abbrev pub EventAsks : History → Event → Type 0
  EventAsks history (Packet number bytes) =
      ((m : Heard) → heard_after ports history number bytes ≡ Some m → Asks delay slack IsFine IsServed begun m)
      × ((s : List ℕ) → sends ports most_routes most_services history (Packet number bytes) ≢ [] → IsOnward (port_at ports number) bytes s
      → Say delay slack IsFine IsServed begun s)
  EventAsks history event = Unit

  -- so it does if it was accepted, and tells of such
  pub tells_asks : (history : History) (event : Event) → EventTells delay slack IsFine IsServed ports most_routes most_services begun history event → EventAsks history event
  tells_asks history Start tells = tt
  tells_asks history Stop tells = tt
  tells_asks history Second tells = tt
  tells_asks history (PortDown number) tells = tt
  tells_asks history (PortUp number) tells = tt
  tells_asks history (Packet number bytes) tells = (
    (λ m e. said_asks delay slack IsFine IsServed begun m (tells (inl (m, e)) m (heard_message ports history number bytes m e))),
    (λ s some onward m is. tells (inr some) m (sent_on_message (port_at ports number) bytes s onward m is)),
  )

  -- ---- an event after a history

  module _ (laws : Layouts) (are : AllByRecursion IsPort ports) (history : History) (on : AllByRecursion (IsOnPort ports) history)
      (of_bytes : AllByRecursion IsOfBytes history) (had : ℕ) (soon : begun ≤ had + 1)
      (old : Abides delay slack IsFine IsServed ports most_routes most_services had history) where
    abbrev before : Holding
    before = holding ports most_routes most_services history

    abbrev Told : Sent → Type 0
    Told s = Say delay slack IsFine IsServed begun s.bytes

    fit_before : AllByRecursion RouteFits (routes_of history)
    fit_before = held_routes_fit laws.readings ports most_routes history of_bytes

    offered_before : AllByRecursion ServiceFits (services_of history)
    offered_before = held_services_fit laws.readings ports most_services history of_bytes

    ups_before : AllByRecursion (λ j. j < length ports) before.up
    ups_before = ports_up-within ports history

    held_before : AllByRecursion (RouteHeld had soon) (routes_of history)
    held_before = routes_are had soon history old

    served_before : AllByRecursion (ServiceHeld had soon) (services_of history)
    served_before = services_are had soon history old

    -- a port that is up is one, and what each of them sends is all that is sent
    port_up : (up : List ℕ) → AllByRecursion (λ j. j < length ports) up → (j : ℕ) → is_up up j ≡ true → IsPort (port_at ports j)
    port_up up ups j on = port-all IsPort ports j are (one_up (λ k. k < length ports) up j ups on)

    each_tells : (up : List ℕ) (f : ℕ → List Sent) → ((j : ℕ) → is_up up j ≡ true → AllByRecursion Told (f j)) → AllByRecursion Told (flat_map f up)
    each_tells up f step = all-flat_map (λ j. is_up up j ≡ true) Told f step up (members up)

    -- at a stop all is said to be unreachable
    stop_tells : (j : ℕ) → is_up before.up j ≡ true → AllByRecursion Told (stop_on ports before j)
    stop_tells j on =
        let entries = told ports before.up before.routes j in
        let services = told_services before.services j in
        broadcasts_tell delay slack IsFine IsServed begun laws ports j (port_up before.up ups_before j on) (map dead entries) (map dead_service services)
        (all-map IsEntry (Writable E) dead (λ e is. (dead_fits e is, ended_said had soon e)) entries
        (told_fits ports are before.up before.routes j ups_before fit_before))
        (all-map IsTellable (Tellable N) dead_service (λ s is. (down_fits s is, lost_said had soon s)) services (told_services_fit before.services j offered_before))

    module _ (event : Event) (event_on : IsOnPort ports event) (event_bytes : IsOfBytes event) (young : begun ≤ passed event had + 1)
        (fine_before : (number : ℕ) → is_up before.up number ≡ true → IsFine (port_at ports number).network)
        (fine_after : (number : ℕ) → is_up (ports_up ports (history ++ event ∷ [])) number ≡ true → IsFine (port_at ports number).network)
        (new : Abides delay slack IsFine IsServed ports most_routes most_services (passed event had) (history ++ event ∷ [])) where
      abbrev now : History
      now = history ++ event ∷ []

      abbrev after : Holding
      after = holding ports most_routes most_services now

      still : AllByRecursion IsOfBytes now
      still = all-append IsOfBytes history (event ∷ []) of_bytes (event_bytes, tt)

      fit_after : AllByRecursion RouteFits (routes_of now)
      fit_after = held_routes_fit laws.readings ports most_routes now still

      offered_after : AllByRecursion ServiceFits (services_of now)
      offered_after = held_services_fit laws.readings ports most_services now still

      ups_after : AllByRecursion (λ j. j < length ports) after.up
      ups_after = ports_up-within ports now

      held_after : AllByRecursion (RouteHeld (passed event had) young) (routes_of now)
      held_after = routes_are (passed event had) young now new

      served_after : AllByRecursion (ServiceHeld (passed event had) young) (services_of now)
      served_after = services_are (passed event had) young now new

      -- ---- changes

      changes_written : (j : ℕ) → AllByRecursion (Writable E) (news ports before.routes after.routes j)
      changes_written j =
          all_both IsEntry E (news ports before.routes after.routes j) (news_fit ports before.routes after.routes j fit_before fit_after)
          (news_said (passed event had) young after.up fine_after before.routes after.routes held_after j)

      changes_tellable : (j : ℕ) → AllByRecursion (Tellable N) (news_services before.services after.services j)
      changes_tellable j =
          all_both IsTellable N (news_services before.services after.services j) (news_services_fit before.services after.services j offered_before offered_after)
          (service_news_said (passed event had) young before.services after.services served_after j)

      all_news : AllByRecursion Told (flat_map (news_on ports before after) after.up)
      all_news =
          each_tells after.up (news_on ports before after) (λ j on.
          broadcasts_tell delay slack IsFine IsServed begun laws ports j (port_up after.up ups_after j on) (news ports before.routes after.routes j)
          (news_services before.services after.services j) (changes_written j) (changes_tellable j))

      second_tells : (periodic : Bool) (j : ℕ) → is_up after.up j ≡ true → AllByRecursion Told (second_on ports before after periodic j)
      second_tells false j on =
          broadcasts_tell delay slack IsFine IsServed begun laws ports j (port_up after.up ups_after j on) (news ports before.routes after.routes j)
          (news_services before.services after.services j) (changes_written j) (changes_tellable j)
      second_tells true j on =
          let rest = told ports after.up after.routes j in
          let named = told_services after.services j in
          let gone = news ports before.routes after.routes j in
          let gone_services = news_services before.services after.services j in
          broadcasts_tell delay slack IsFine IsServed begun laws ports j (port_up after.up ups_after j on) (by_network (rest ++ gone)) (by_name (named ++ gone_services))
          (all_sorted (Writable E) network_before (rest ++ gone) (all-append (Writable E) rest gone
          (all_both IsEntry E rest (told_fits ports are after.up after.routes j ups_after fit_after)
          (routes_said (passed event had) young after.up fine_after after.routes held_after j)) (changes_written j)))
          (all_sorted (Tellable N) name_before (named ++ gone_services) (all-append (Tellable N) named gone_services
          (all_both IsTellable N named (told_services_fit after.services j offered_after)
          (services_said (passed event had) young after.services served_after j)) (changes_tellable j)))

      -- ---- a port that goes down, or comes up

      port_down_tells : (port : ℕ) → port < length ports → (j : ℕ) → is_up after.up j ≡ true → AllByRecursion Told (port_down_on ports before after port j)
      port_down_tells port exists j on =
          let ended = news ports before.routes after.routes j in
          let network = direct_entry ports port in
          broadcasts_tell delay slack IsFine IsServed begun laws ports j (port_up after.up ups_after j on) (by_network (dead network ∷ ended))
          (news_services before.services after.services j)
          (all_sorted (Writable E) network_before (dead network ∷ ended)
          ((dead_fits network (direct_fits ports are port exists).0, ended_said had soon network), changes_written j))
          (changes_tellable j)

      introduces : (routes : List RouteOffer) (services : List ServiceOffer) → AllByRecursion RouteFits routes → AllByRecursion ServiceFits services
          → AllByRecursion (RouteHeld (passed event had) young) routes → AllByRecursion (ServiceHeld (passed event had) young) services
          → (j : ℕ) → is_up after.up j ≡ true → AllByRecursion Told (introduction ports after.up routes services j)
      introduces routes services fit offered held served j on =
          let port = port_up after.up ups_after j on in
          let entries = told ports after.up routes j in
          let named = told_services services j in
          let answer = rip_broadcast ports j entries in
          let request = routes_request ports j in
          let advertised = sap_broadcast ports j named in
          all-append Told (answer ++ request ++ advertised) (services_query ports j)
          (all-append Told (answer ++ request) advertised
          (all-append Told answer request
          (rip_broadcast_tells delay slack IsFine IsServed begun laws ports j port entries
          (all_both IsEntry E entries (told_fits ports are after.up routes j ups_after fit) (routes_said (passed event had) young after.up fine_after routes held j)))
          (request_tells delay slack IsFine IsServed begun laws ports j port))
          (sap_broadcast_tells delay slack IsFine IsServed begun laws ports j port named
          (all_both IsTellable N named (told_services_fit services j offered) (services_said (passed event had) young services served j))))
          (query_tells delay slack IsFine IsServed begun laws ports j port)

      port_up_tells : (port : ℕ) → port < length ports → is_up after.up port ≡ true → (j : ℕ) → is_up after.up j ≡ true
          → AllByRecursion Told (port_up_on ports after port j)
      port_up_tells port exists comes j on = elim (cases_Bool (j == port)) [
        | inl own ↦ rw own (introduces after.routes after.services fit_after offered_after held_after served_after j on)
        | inr other ↦
            let cost = (port_at ports j).cost in
            let entry = told_at cost (direct_entry ports port) in
            rw other (rip_broadcast_tells delay slack IsFine IsServed begun laws ports j (port_up after.up ups_after j on) (entry ∷ [])
            ((told_at_fits cost (direct_entry ports port) (direct_fits ports are port exists), direct_said (passed event had) young after.up fine_after cost port comes), tt))
      ]

      -- ---- what was heard

      module _ (number : ℕ) (within : number < length ports) where
        abbrev here : Port
        here = port_at ports number

        is_here : IsPort here
        is_here = port-all IsPort ports number are within

        rip_answered : (source : Address) (operation : Operation) (entries : List RipEntry) → IsPlaced source → RipAsks delay slack IsFine IsServed begun source operation
            → AllByRecursion Told (elim operation [
              | Response ↦ flat_map (news_on ports before after) after.up
              | Request ↦ rip_sends ports number (reply_to here source) Response (asked entries (told ports before.up before.routes number))
            ])
        rip_answered source Response entries from told_now = all_news
        rip_answered source Request entries from told_now =
            let all = told ports before.up before.routes number in
            entries_tell delay slack IsFine IsServed begun laws ports number is_here (reply_to here source) (reply_is here source is_here from) told_now (asked entries all)
            (all-filter (Writable E) _ all
            (all_both IsEntry E all (told_fits ports are before.up before.routes number ups_before fit_before)
            (routes_said had soon before.up fine_before before.routes held_before number)))

        heard_tells : (m : Heard) → IsPlaced (source_of m) → Asks delay slack IsFine IsServed begun m → AllByRecursion Told (heard_sends ports before after number m)
        heard_tells (HeardRip source rip) from told_now = rip_answered source rip.operation rip.entries from told_now
        heard_tells (HeardSap source (SapResponse nearest entries)) from told_now = all_news
        heard_tells (HeardSap source (Query nearest kind)) from told_now =
            let all = told_services before.services number in
            let services = of_kind kind all in
            let fits : AllByRecursion (Tellable N) services =
            all-filter (Tellable N) _ all
            (all_both IsTellable N all (told_services_fit before.services number offered_before) (services_said had soon before.services served_before number)) in
            let answer = if nearest then nearest_of services else services in
            services_tell delay slack IsFine IsServed begun laws ports number is_here (reply_to here source) (reply_is here source is_here from) nearest told_now answer
            (either (Tellable N) nearest (nearest_of services) services (nearest_all (Tellable N) services fits) fits)

    -- ---- any event

    pub event_tells : (event : Event) → IsOnPort ports event → IsOfBytes event
        → ((number : ℕ) → is_up before.up number ≡ true → IsFine (port_at ports number).network)
        → ((number : ℕ) → is_up (ports_up ports (history ++ event ∷ [])) number ≡ true → IsFine (port_at ports number).network)
        → Abides delay slack IsFine IsServed ports most_routes most_services (passed event had) (history ++ event ∷ []) → EventAsks history event
        → AllByRecursion Told (sends ports most_routes most_services history event)
    event_tells Start there are_bytes old_fine new_fine new tells =
        let up = ports_up ports (history ++ Start ∷ []) in
        or_not Told (running history) (flat_map (introduction ports up [] []) up)
        (each_tells up (introduction ports up [] []) (λ j on. introduces Start there are_bytes soon old_fine new_fine new [] [] tt tt tt tt j on))
    event_tells Stop there are_bytes old_fine new_fine new tells =
        where_so Told (running history) (flat_map (stop_on ports before) before.up) (λ runs. each_tells before.up (stop_on ports before) stop_tells)
    event_tells Second there are_bytes old_fine new_fine new tells =
        let after = holding ports most_routes most_services (history ++ Second ∷ []) in
        where_so Told (running history) (flat_map (second_on ports before after (is_periodic history)) after.up)
        (λ runs. each_tells after.up (second_on ports before after (is_periodic history))
        (second_tells Second there are_bytes (omega (arith, soon)) old_fine new_fine new (is_periodic history)))
    event_tells (PortDown number) there are_bytes old_fine new_fine new tells =
        let after = holding ports most_routes most_services (history ++ PortDown number ∷ []) in
        where_so Told (running history && is_up before.up number) (flat_map (port_down_on ports before after number) after.up)
        (λ goes. each_tells after.up (port_down_on ports before after number)
        (port_down_tells (PortDown number) there are_bytes soon old_fine new_fine new number there))
    event_tells (PortUp number) there are_bytes old_fine new_fine new tells =
        let after = holding ports most_routes most_services (history ++ PortUp number ∷ []) in
        where_so Told (running history && not (is_up before.up number)) (flat_map (port_up_on ports after number) after.up)
        (λ comes.
        let runs = (and_parts (running history) (not (is_up before.up number)) comes).0 in
        each_tells after.up (port_up_on ports after number)
        (port_up_tells (PortUp number) there are_bytes soon old_fine new_fine new number there (port_comes_up ports history number there runs)))
    event_tells (Packet number bytes) there are_bytes old_fine new_fine new tells = by (heard_after ports history number bytes) refl
      where
        these : List Sent
        these = sends ports most_routes most_services history (Packet number bytes)

        -- if anything is sent on, the packet was accepted
        sent_on_tell : (ss : List Sent) → these ≡ ss → AllByRecursion (λ s. IsOnward (port_at ports number) bytes s.bytes) ss → AllByRecursion Told ss
        sent_on_tell [] same all = tt
        sent_on_tell (first ∷ rest) same all =
            let some : these ≢ [] = λ none. let count : suc (length rest) ≡ 0 = ap length (sym same ∙ none) in absurd (omega (arith, count)) in
            all_then (λ s. IsOnward (port_at ports number) bytes s.bytes) Told
            (λ s onward. tells.1 s.bytes some onward) (first ∷ rest) all

        by : (o : Option Heard) → heard_after ports history number bytes ≡ o → AllByRecursion Told these
        by None e =
            sent_on_tell these refl
            (unsaid laws ports are most_routes most_services history on of_bytes number bytes there are_bytes e)
        by (Some m) e =
            let source = (heard_is laws.readings ports before.up number bytes are_bytes (running history) m e).source in
            let all = heard_tells (Packet number bytes) there are_bytes soon old_fine new_fine new number there m source (tells.0 m e) in
            elim (said laws ports are most_routes most_services history on of_bytes number bytes there are_bytes m e) [
              | inl none ↦ subst (λ (ss : List Sent). AllByRecursion Told ss) (sym none) tt
              | inr same ↦ subst (λ (ss : List Sent). AllByRecursion Told ss) (sym same) all
            ]
