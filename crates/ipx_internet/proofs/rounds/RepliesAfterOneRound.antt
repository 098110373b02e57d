-- One round after events that bring no packet only replies wait, in which all that is reached is one hop away, at least. What a router
-- sends for such an event is broadcasts, which nobody sends on, and whose requests and queries come from the sockets of RIP and SAP.
use Rattle.std.proofs.Common.{◌≡◌, refl, sym, ap, ◌∙◌, subst, ◌⊎◌, ℕ, ◌<◌, ◌==◌, Bool, true, false, if◌then◌else◌, List, [], ◌∷◌, ◌++◌, length, map, flat_map, Option, Some, None, IfSome, Result, Ok, Err, inl, inr, arith, rules}
use Rattle.std.specs.List.{AllByRecursion}
use Rattle.std.proofs.lemmas.Bool.{cases_Bool, eq-eqb}
use Rattle.ipx_wire.specs.Numbers.{rip_type, sap_type}
use Rattle.ipx_wire.specs.Packet.{Parts, packet_of}
use Rattle.ipx_wire.specs.Piece.{IsBytes}
use Rattle.ipx_wire.specs.Rip.{RipParts, IsEntry, rip_of}
use Rattle.ipx_wire.specs.Sap.{sap_of}
use Rattle.ipx_wire.specs.Write.{own_header}
use Rattle.ipx_wire.specs.declared.address.Address.{Address}
use Rattle.ipx_wire.specs.declared.header.Header.{Header}
use Rattle.ipx_wire.specs.declared.rip.Operation.{Operation}
use Rattle.ipx_wire.specs.declared.rip.Operation.TheVariants.{Request, Response}
use Rattle.ipx_wire.specs.declared.rip.RipEntry.{RipEntry}
use Rattle.ipx_wire.specs.declared.rip.RipFault.{RipFault}
use Rattle.ipx_wire.specs.declared.sap.Sap.{Sap}
use Rattle.ipx_wire.specs.declared.sap.Sap.TheVariants.{Query, Response as SapResponse}
use Rattle.ipx_wire.specs.declared.sap.SapFault.{SapFault}
use Rattle.ipx_wire.specs.declared.service.Service.{Service}
use Rattle.ipx_router.specs.Facts.{heard_after, routes_held, services_held, offers}
use Rattle.ipx_router.specs.Heard.{Heard, HeardRip, HeardSap, heard_in, heard_near}
use Rattle.ipx_router.specs.History.{Event, History, Start, Stop, Second, Packet, PortDown, PortUp, IsOnPort, IsOfBytes, running, ports_up}
use Rattle.ipx_router.specs.Numbers.{rip_socket, sap_socket}
use Rattle.ipx_router.specs.Packets.{IsBroadcast, IsSentFor}
use Rattle.ipx_router.specs.Port.{Port, IsPort, port_at, own_address, everyone, own_services, every_server, reply_to}
use Rattle.ipx_router.specs.Relays.{Sent}
use Rattle.ipx_router.specs.Sends.{holding, ports_sending, rip_sends, sap_sends, asked, of_kind, nearest_of, heard_sends}
use Rattle.ipx_router.specs.Told.{told, told_services}
use Rattle.ipx_router.specs.declared.route_offer.RouteOffer.{RouteOffer}
use Rattle.ipx_router.specs.Why.{is_near, is_propagated, is_for_rip}
use Rattle.ipx_router.proofs.bytes.FieldsAreBytes.{IsPlace as IsPlaced, IsTellable}
use Rattle.ipx_router.proofs.lists.EachElement.{all_both}
use Rattle.ipx_router.proofs.tables.HeldFitsFields.{held_routes_fit, held_services_fit}
use Rattle.ipx_router.proofs.verdicts.HeardIsAsLayoutsAllow.{heard_is}
use Rattle.ipx_router.proofs.sending.OwnPacketsAreValid.{Writable, reply_is}
use Rattle.ipx_router.proofs.port_values.PortOfEachNumber.{port-all, ports_up-within}
use Rattle.ipx_router.proofs.bytes.ReadInOneWay.{one_read}
use Rattle.ipx_router.proofs.tables.HeldWasOffered.{source_of, came_in}
use Rattle.ipx_router.proofs.telling.ToldFitsFields.{told_fits, told_services_fit}
use Rattle.ipx_internet.specs.Internet.{Internet, IsInternet, ports_of, port_of}
use Rattle.ipx_internet.specs.Queue.{Delivery, Queued, deliveries_of, history_of, sends_at, queued, settled_one}
use Rattle.ipx_internet.specs.Rounds.{IsDelivery, IsOwnEvent, IsOwnStep, rounds}
use Rattle.ipx_internet.specs.Run.{Step, Happens, Settles, AreHistories, Run, forgotten, stepped, run_of}
use Rattle.ipx_internet.proofs.deliveries.QueueOfARun.{events, deliveries}
use Rattle.ipx_internet.proofs.deliveries.WaitsAfterDelivery.{keeps_histories, all_wait}
use Rattle.ipx_internet.proofs.lists.EachElement.{all_of, all_then, all-append, all-filter}
use Rattle.ipx_internet.proofs.lists.FoundInAList.{nothing, it_is}
use Rattle.ipx_internet.proofs.packets.AdvertisedIsHeld.{told_all, told_services_all}
use Rattle.ipx_internet.proofs.packets.NearestIsOneOfThem.{either, nearest_all}
use Rattle.ipx_internet.proofs.packets.PagesReadAgain.{IsRipPage, IsSapPage, Tellable, rip_pages, sap_pages}
use Rattle.ipx_internet.proofs.packets.ResponsesAskNothing.{IsAnswering}
use Rattle.ipx_internet.proofs.packets.SentOnOrReply.{Layouts, IsCast, IsOnward, not_onward, rip_reply, sap_reply, unsaid, said, answered}
use Rattle.ipx_internet.proofs.places.OneReceiverOfANode.{ports_at, receives_is}
use Rattle.ipx_internet.proofs.records.HeardChangesItsKeys.{EachHeard}
use Rattle.ipx_internet.proofs.rounds.ChangesAreOneHopMore.{Live, news_farther, news_services_farther}
use Rattle.ipx_internet.proofs.rounds.OneHopMoreARound.{Ebbs, at_all, ebbs_still}
use Rattle.ipx_internet.proofs.rounds.OneRound.{sents, sent_for, each_delivery, Steps, Holds, rounded}
use Rattle.ipx_internet.proofs.rounds.RepliesTellChanges.{IsTold, told_moves, news_told, tells_says}
use Rattle.ipx_internet.proofs.trees.RunIsALog.{histories_more}

-- ---- a broadcast

-- a request comes from the socket of RIP, a query from that of SAP
abbrev IsOwnMessage : Heard → Type 0
IsOwnMessage (HeardRip source rip) = source.socket.0 ≡ rip_socket
IsOwnMessage (HeardSap source sap) = source.socket.0 ≡ sap_socket

-- a packet for the port's own network that says so
pub record IsOwnSent (port : Port) (bytes : List ℕ) : Type 0 where
  pub packet : Parts
  pub read : packet_of bytes ≡ Ok packet
  pub plain : is_propagated packet.header ≡ false
  pub home : packet.header.destination.network ≡ port.network
  pub says : (m : Heard) → heard_in packet ≡ Some m → IsOwnMessage m

own_moves : (a b : Port) (bytes : List ℕ) → b.network ≡ a.network → IsOwnSent a bytes → IsOwnSent b bytes
own_moves a b bytes same own = record { packet = own.packet; read = own.read; plain = own.plain; home = own.home ∙ sym same; says = own.says }

module _ (port : Port) (p : Parts) (size : ℕ) where
  rip_says : p.header ≡ own_header rip_type (own_address port) (everyone port) size → (m : Heard) → heard_in p ≡ Some m → IsOwnMessage m
  rip_says header m e =
      let rip : is_for_rip p.header ≡ true = ap (λ (h : Header). is_for_rip h) header in
      by (rip_of p.payload) (rw rip at e)
    where
      by : (r : Result RipParts RipFault) → elim r [ Ok rip ↦ Some (HeardRip p.header.source rip) | Err fault ↦ None ] ≡ Some m → IsOwnMessage m
      by (Err fault) e = nothing e
      by (Ok rip) e = it_is IsOwnMessage m (HeardRip p.header.source rip) e (ap (λ (h : Header). h.source.socket.0) header)

  sap_says : p.header ≡ own_header sap_type (own_services port) (every_server port) size → (m : Heard) → heard_in p ≡ Some m → IsOwnMessage m
  sap_says header m e =
      let other : is_for_rip p.header ≡ false = ap (λ (h : Header). is_for_rip h) header in
      by (sap_of p.payload) (rw other at e)
    where
      by : (r : Result Sap SapFault) → elim r [ Ok sap ↦ Some (HeardSap p.header.source sap) | Err fault ↦ None ] ≡ Some m → IsOwnMessage m
      by (Err fault) e = nothing e
      by (Ok sap) e = it_is IsOwnMessage m (HeardSap p.header.source sap) e (ap (λ (h : Header). h.source.socket.0) header)

module _ (laws : Layouts) (ports : List Port) (up : List ℕ) where
  broadcast_own : (s : Sent) → IsBytes s.bytes → IsBroadcast ports up s → IsOwnSent (port_at ports s.port) s.bytes
  broadcast_own s bytes (inl is) =
      let port = port_at ports s.port in
      let header = is.own.header in
      record {
        packet = is.packet;
        read = (laws.readings.packet_read s.bytes is.packet bytes).1 is.own.is;
        plain = ap (λ (h : Header). is_propagated h) header;
        home = ap (λ (h : Header). h.destination.network) header;
        says = rip_says port is.packet (length is.packet.payload) header;
      }
  broadcast_own s bytes (inr is) =
      let port = port_at ports s.port in
      let header = is.own.header in
      record {
        packet = is.packet;
        read = (laws.readings.packet_read s.bytes is.packet bytes).1 is.own.is;
        plain = ap (λ (h : Header). is_propagated h) header;
        home = ap (λ (h : Header). h.destination.network) header;
        says = sap_says port is.packet (length is.packet.payload) header;
      }

-- for such events broadcasts are sent
broadcasts_of : (ports : List Port) (up : List ℕ) (routes : List RouteOffer) (runs : Bool) (event : Event) → IsOwnEvent ports event → (s : Sent)
    → IsSentFor ports up routes runs event s → IsBroadcast ports up s
broadcasts_of ports up routes runs Start own s is = is
broadcasts_of ports up routes runs Stop own s is = is
broadcasts_of ports up routes runs Second own s is = is
broadcasts_of ports up routes runs (Packet number bytes) own s is = absurd own
broadcasts_of ports up routes runs (PortDown number) own s is = is
broadcasts_of ports up routes runs (PortUp number) own s is = is

own_on : (ports : List Port) (event : Event) → IsOwnEvent ports event → IsOnPort ports event × IsOfBytes event
own_on ports event own = grind arith

module _ (net : Internet) (laws : Layouts) (is : IsInternet net) (most_routes most_services : ℕ) where
  -- what waits of such events
  abbrev pub Own : Delivery → Type 0
  Own d = IsDelivery net d × IsOwnSent (port_of net d.to) d.bytes

  -- and of deliveries of that: replies in which all that is reached is one hop away, at least
  abbrev pub Caused : Delivery → Type 0
  Caused d = Own d ⊎ Ebbs net laws is most_routes most_services 1 d

  -- ---- a delivery of a broadcast

  module _ (histories : List History) (d : Delivery) (are : AreHistories net histories) (own : Own d) where
    abbrev ports : List Port
    ports = ports_of net d.to.router

    abbrev number : ℕ
    number = d.to.port

    abbrev past : History
    past = history_of histories d.to.router

    abbrev now : History
    now = past ++ Packet number d.bytes ∷ []

    abbrev here : Port
    here = port_at ports number

    abbrev P : RipEntry → Type 0
    P e = Live 1 e.hops

    abbrev Q : Service → Type 0
    Q s = Live 1 s.hops

    abbrev Tale : Sent → Type 0
    Tale s = IsTold P Q (port_at ports s.port) s.bytes

    abbrev these : List Sent
    these = sents net most_routes most_services histories d

    is_here : IsPort here
    is_here = port-all IsPort ports number (ports_at net is d.to.router) own.0.place

    abbrev routes : List RipEntry
    routes = told ports (ports_up ports past) (offers (routes_held ports most_routes past)) number

    abbrev services : List Service
    services = told_services (offers (services_held ports most_services past)) number

    -- all that is told is one hop away, at least
    routes_written : AllByRecursion (Writable P) routes
    routes_written =
        let held = offers (routes_held ports most_routes past) in
        all_both IsEntry P routes
        (told_fits ports (ports_at net is d.to.router) (ports_up ports past) held number (ports_up-within ports past)
        (held_routes_fit laws.readings ports most_routes past (are.of_bytes d.to.router)))
        (told_all ports (ports_up ports past) (λ j. P) (λ r. Unit {0}) (λ j other on apart near. omega arith) (λ j r any apart near. omega arith)
        (λ j e near. omega arith) held (all_of (λ r. Unit {0}) (λ r. tt) held) number)

    services_tellable : AllByRecursion (Tellable Q) services
    services_tellable =
        let held = offers (services_held ports most_services past) in
        all_both IsTellable Q services
        (told_services_fit held number (held_services_fit laws.readings ports most_services past (are.of_bytes d.to.router)))
        (told_services_all Q (λ s. Unit {0}) (λ s any near. omega arith) (λ s near. omega arith) held (all_of (λ s. Unit {0}) (λ s. tt) held) number)

    -- what is heard of it
    own_message : (m : Heard) → heard_after ports past number d.bytes ≡ Some m → IsOwnMessage m
    own_message m e =
        let came = came_in ports (ports_up ports past) number (running past) d.bytes m e in
        own.1.says m (subst (λ (p : Parts). heard_in p ≡ Some m) (one_read (packet_of d.bytes) came.packet own.1.packet came.read own.1.read)
        (near came.packet came.near))
      where
        near : (p : Parts) → heard_near here p ≡ Some m → heard_in p ≡ Some m
        near p e = elim (cases_Bool (is_near here p.header)) [
          | inl it ↦ rw it at e
          | inr far ↦ nothing (rw far at e)
        ]

    anyhow : IfSome (heard_after ports past number d.bytes) (EachHeard (λ e. Live 0 e.hops) (λ e. Live 0 e.hops))
    anyhow = by (heard_after ports past number d.bytes)
      where
        by : (o : Option Heard) → IfSome o (EachHeard (λ e. Live 0 e.hops) (λ e. Live 0 e.hops))
        by None = tt
        by (Some m) = at_all m

    changes : (m : Heard) → heard_after ports past number d.bytes ≡ Some m → IsAnswering m → AllByRecursion Tale these
    changes m e is_answer =
        all_then (IsCast (ports_up ports now) (λ j. P) (λ j. Q) ports) Tale (λ s sent. news_told P Q (port_at ports s.port) s.bytes sent.news) these
        (answered laws ports (ports_at net is d.to.router) most_routes most_services past (are.on_ports d.to.router) (are.of_bytes d.to.router)
        number d.bytes own.0.place own.0.bytes (λ j. P) (λ j. Q)
        (news_farther 0 ports past number d.bytes anyhow most_routes) (news_services_farther 0 ports past number d.bytes anyhow most_services) m e is_answer)

    -- an answer
    answer_or_none : (answer : List Sent) → (these ≡ []) ⊎ (these ≡ answer) → AllByRecursion Tale answer → AllByRecursion Tale these
    answer_or_none answer given all = grind arith

    entries_told : (source : Address) → IsPlaced source → source.socket.0 ≡ rip_socket → (wanted : List RipEntry)
        → AllByRecursion Tale (rip_sends ports number (reply_to here source) Response (asked wanted routes))
    entries_told source from socket wanted = grind (arith, all_then, IsRipPage, IsTold, rip_reply, eq-eqb, rip_pages, is_here, reply_is, all-filter, Writable, routes_written)

    services_told : (source : Address) → IsPlaced source → source.socket.0 ≡ sap_socket → (nearest : Bool) (kind : ℕ)
        → AllByRecursion Tale (sap_sends ports number (reply_to here source) nearest (if nearest then nearest_of (of_kind kind services) else of_kind kind services))
    services_told source from socket nearest kind =
        let to = reply_to here source in
        let some = of_kind kind services in
        let fits : AllByRecursion (Tellable Q) some = all-filter (Tellable Q) _ services services_tellable in
        let answer = if nearest then nearest_of some else some in
        let other : (source.socket.0 == rip_socket) ≡ false = ap (λ (n : ℕ). n == rip_socket) socket in
        all_then (λ s. IsSapPage Q (own_services here) to nearest s.bytes × (s.port ≡ number)) Tale
        (λ s it. subst (λ (k : ℕ). IsTold P Q (port_at ports k) s.bytes) (sym it.1) (record {
          reply = sap_reply Q here (own_services here) to nearest s.bytes refl it.0;
          tells = inr (record { from = own_services here; to = to; nearest = nearest; for_sap = other; page = it.0 });
        }))
        (sap_sends ports number to nearest answer)
        (sap_pages laws.readings laws.again ports number is_here Q to (reply_is here source is_here from) nearest answer
        (either (Tellable Q) nearest (nearest_of some) some (nearest_all (Tellable Q) some fits) fits))

    all_told : AllByRecursion Tale these
    all_told = by (heard_after ports past number d.bytes) refl
      where
        rip : (source : Address) (said_now : RipParts) (operation : Operation) → said_now.operation ≡ operation
            → heard_after ports past number d.bytes ≡ Some (HeardRip source said_now) → IsPlaced source → source.socket.0 ≡ rip_socket → AllByRecursion Tale these
        rip source said_now Response op e from socket = changes (HeardRip source said_now) e op
        rip source said_now Request op e from socket =
            let m = HeardRip source said_now in
            answer_or_none (rip_sends ports number (reply_to here source) Response (asked said_now.entries routes))
            (by_request (said laws ports (ports_at net is d.to.router) most_routes most_services past (are.on_ports d.to.router) (are.of_bytes d.to.router)
            number d.bytes own.0.place own.0.bytes m e))
            (entries_told source from socket said_now.entries)
          where
            answers : Operation → List Sent
            answers o = heard_sends ports (holding ports most_routes most_services past) (holding ports most_routes most_services now) number
                (HeardRip source (record { operation = o; entries = said_now.entries }))

            by_request : (these ≡ []) ⊎ (these ≡ answers said_now.operation)
                → (these ≡ []) ⊎ (these ≡ rip_sends ports number (reply_to here source) Response (asked said_now.entries routes))
            by_request (inl none) = inl none
            by_request (inr same) = inr (same ∙ ap answers op)

        heard_so : (m : Heard) → heard_after ports past number d.bytes ≡ Some m → IsPlaced (source_of m) → IsOwnMessage m → AllByRecursion Tale these
        heard_so (HeardRip source said_now) e from socket = rip source said_now said_now.operation refl e from socket
        heard_so (HeardSap source (SapResponse nearest entries)) e from socket = changes (HeardSap source (SapResponse nearest entries)) e tt
        heard_so (HeardSap source (Query nearest kind)) e from socket =
            let m = HeardSap source (Query nearest kind) in
            answer_or_none (heard_sends ports (holding ports most_routes most_services past) (holding ports most_routes most_services now) number m)
            (said laws ports (ports_at net is d.to.router) most_routes most_services past (are.on_ports d.to.router) (are.of_bytes d.to.router)
            number d.bytes own.0.place own.0.bytes m e)
            (services_told source from socket nearest kind)

        by : (o : Option Heard) → heard_after ports past number d.bytes ≡ o → AllByRecursion Tale these
        by None e =
            all_then (λ s. IsOnward here d.bytes s.bytes) Tale
            (λ s on. absurd (not_onward here d.bytes s.bytes own.1.packet own.1.read own.1.plain own.1.home on)) these
            (unsaid laws ports (ports_at net is d.to.router) most_routes most_services past (are.on_ports d.to.router) (are.of_bytes d.to.router)
            number d.bytes own.0.place own.0.bytes e)
        by (Some m) e =
            heard_so m e (heard_is laws.readings ports (ports_up ports past) number d.bytes own.0.bytes (running past) m e).source (own_message m e)

    first_ebbs : AllByRecursion (Ebbs net laws is most_routes most_services 1) (sent_for net most_routes most_services histories d)
    first_ebbs =
        all_then (λ e. IsDelivery net e × IsTold P Q (port_of net e.to) e.bytes) (Ebbs net laws is most_routes most_services 1)
        (λ e both. record { calm = (both.0, both.1.reply); says = tells_says P Q P (λ e. Live 1 e.hops) (λ e it. it) (λ s it. it) e.bytes both.1.tells })
        (sent_for net most_routes most_services histories d)
        (all_wait net laws is most_routes most_services histories are d own.0 (IsTold P Q) (told_moves P Q) all_told)

  -- ---- steps, one after the other

  pub record Opens (q : Queued) : Type 0 where
    pub are : AreHistories net q.histories
    pub waiting : AllByRecursion Caused q.queue

  event_opens : (q : Queued) (router : ℕ) (event : Event) → router < length net → IsOwnEvent (ports_of net router) event → Opens q
      → Opens (queued net most_routes most_services q router event)
  event_opens q router event within own opens =
      let ports = ports_of net router in
      let past = history_of q.histories router in
      let on = own_on ports event own in
      let all_on = all-append (IsOnPort ports) past (event ∷ []) (opens.are.on_ports router) (on.0, tt) in
      let all_bytes = all-append IsOfBytes past (event ∷ []) (opens.are.of_bytes router) (on.1, tt) in
      let sent = sends_at net most_routes most_services q.histories router event in
      let up = ports_sending ports past event in
      let bytes = laws.bytes ports most_routes most_services past event (ports_at net is router) all_on all_bytes in
      let laid = laws.layouts ports most_routes most_services past event (ports_at net is router) all_on all_bytes in
      let routes = offers (routes_held ports most_routes past) in
      record {
        are = histories_more net q.histories router event opens.are within on.0 on.1;
        waiting = all-append Caused q.queue (flat_map (deliveries_of net router) sent) opens.waiting
            (each_delivery net most_routes most_services Caused (λ s. IsBytes s.bytes × IsSentFor ports up routes (running past) event s) router
            (λ s to both place received. inl (
              record { place = place; bytes = both.0 },
              own_moves (port_at ports s.port) (port_of net to) s.bytes (receives_is net (record { router = router; port = s.port }) s.link to received).network
                  (broadcast_own laws ports up s both.0 (broadcasts_of ports up routes (running past) event own s both.1)),
            )) sent (all_both (λ s. IsBytes s.bytes) (IsSentFor ports up routes (running past) event) sent bytes laid));
      }

  -- what is sent for such a delivery
  caused_ebbs : (histories : List History) (d : Delivery) → AreHistories net histories → Caused d
      → AllByRecursion (Ebbs net laws is most_routes most_services 1) (sent_for net most_routes most_services histories d)
  caused_ebbs histories d are (inl own) = first_ebbs histories d are own
  caused_ebbs histories d are (inr ebbs) = ebbs_still net laws is most_routes most_services 1 histories d are ebbs

  delivery_there : (d : Delivery) → Caused d → IsDelivery net d
  delivery_there d given = grind arith

  delivery_opens : (histories : List History) (queue : List Delivery) → Opens (record { histories = histories; queue = queue })
      → Opens (settled_one net most_routes most_services (record { histories = histories; queue = queue }))
  delivery_opens histories [] opens = opens
  delivery_opens histories (d ∷ queue) opens =
      let first = opens.waiting.0 in
      record {
        are = keeps_histories net laws is most_routes most_services histories opens.are d (delivery_there d first);
        waiting = all-append Caused queue (sent_for net most_routes most_services histories d) opens.waiting.1
            (all_then (Ebbs net laws is most_routes most_services 1) Caused (λ e ebbs. inr ebbs) (sent_for net most_routes most_services histories d)
            (caused_ebbs histories d opens.are first));
      }

  pub steps_open : (steps : List Step) (run : Run) → AllByRecursion (IsOwnStep net) steps → Opens (forgotten run)
      → Opens (forgotten (run_of net most_routes most_services run steps))
  steps_open [] run all opens = opens
  steps_open (Settles ∷ steps) run all opens =
      steps_open steps (stepped net most_routes most_services run Settles) all.1
      (subst Opens (sym (deliveries net most_routes most_services run)) (delivery_opens run.histories (map (λ w. w.delivery) run.waiting) opens))
  steps_open (Happens router event ∷ steps) run all opens =
      steps_open steps (stepped net most_routes most_services run (Happens router event)) all.1
      (subst Opens (sym (events net most_routes most_services run router event None)) (event_opens (forgotten run) router event all.0.0 all.0.1 opens))

  -- ---- the first round

  first_round : Steps net most_routes most_services (AreHistories net) Caused (λ histories. Ebbs net laws is most_routes most_services 1)
  first_round = search (rules, keeps_histories, delivery_there, caused_ebbs)

  pub ebbs_soon : (q : Queued) → Opens q
      → Holds net most_routes most_services (AreHistories net) (λ histories. Ebbs net laws is most_routes most_services 1) (rounds net most_routes most_services 1 q)
  ebbs_soon q opens = rounded net most_routes most_services (AreHistories net) Caused (λ histories. Ebbs net laws is most_routes most_services 1) first_round q opens.are opens.waiting
