-- What waits for a port while hosts speak: pages of routes that the router that sends them made itself, or bytes that tell of no route but to
-- networks of a list. A router sends nothing else, neither at a second nor for such a packet.
use Rattle.std.proofs.Common.{◌≡◌, ◌≢◌, refl, sym, ap, subst, ◌⊎◌, ℕ, ◌<◌, ◌==◌, Bool, true, false, List, [], ◌∷◌, ◌++◌, length, flat_map, Option, Some, None, Result, Ok, Err, inl, inr, arith, true≢false, if◌then◌else◌}
use Rattle.std.specs.List.{AllByRecursion}
use Rattle.std.proofs.lemmas.Bool.{cases_Bool}
use Rattle.ipx_wire.specs.Crossed.{is_among}
use Rattle.ipx_wire.specs.Packet.{Parts, packet_of}
use Rattle.ipx_wire.specs.Piece.{IsBytes}
use Rattle.ipx_wire.specs.Rip.{IsEntry}
use Rattle.ipx_wire.specs.Sap.{sap_of}
use Rattle.ipx_wire.specs.Write.{rip_packet_parts}
use Rattle.ipx_wire.specs.declared.address.Address.{Address}
use Rattle.ipx_wire.specs.declared.network.Network.{Network}
use Rattle.ipx_wire.specs.declared.rip.Operation.{Operation}
use Rattle.ipx_wire.specs.declared.rip.Operation.TheVariants.{Request, Response}
use Rattle.ipx_wire.specs.declared.rip.RipEntry.{RipEntry}
use Rattle.ipx_wire.specs.declared.sap.Sap.{Sap}
use Rattle.ipx_wire.specs.declared.sap.Sap.TheVariants.{Query, Response as SapResponse}
use Rattle.ipx_wire.specs.declared.sap.SapFault.{SapFault}
use Rattle.ipx_wire.specs.declared.service.Service.{Service}
use Rattle.ipx_table.specs.Facts.{Fact, Offered, Second, PortEnd, End}
use Rattle.ipx_router.specs.Facts.{routes_offered, routes_heard, heard_after}
use Rattle.ipx_router.specs.Heard.{Heard, HeardRip, HeardSap, heard_in, heard_near}
use Rattle.ipx_router.specs.History.{History, Packet, IsOnPort, IsOfBytes, running}
use Rattle.ipx_router.specs.News.{news}
use Rattle.ipx_router.specs.Numbers.{rip_socket, sap_socket}
use Rattle.ipx_router.specs.Port.{Port, IsPort, port_at, is_up, takes_no_route, own_address, everyone, own_services, every_server, reply_to}
use Rattle.ipx_router.specs.Relays.{Sent}
use Rattle.ipx_router.specs.Sends.{Holding, holding, sends, rip_sends, sap_sends, news_on, asked, of_kind, nearest_of}
use Rattle.ipx_router.specs.Told.{told, told_services}
use Rattle.ipx_router.specs.declared.route_offer.RouteOffer.{RouteOffer}
use Rattle.ipx_router.proofs.bytes.FieldsAreBytes.{IsPlace as IsPlaced, IsTellable}
use Rattle.ipx_router.proofs.lists.EachElement.{all_both}
use Rattle.ipx_router.proofs.tables.HeldFitsFields.{held_routes_fit, held_services_fit}
use Rattle.ipx_router.proofs.tables.HeldWasOffered.{source_of, came_in}
use Rattle.ipx_router.proofs.telling.ToldFitsFields.{told_fits, told_services_fit}
use Rattle.ipx_router.proofs.port_values.PortOfEachNumber.{port-all, ports_up-within}
use Rattle.ipx_router.proofs.bytes.ReadInOneWay.{one_read}
use Rattle.ipx_router.proofs.sending.OwnPacketsAreValid.{Writable, reply_is}
use Rattle.ipx_router.proofs.verdicts.HeardIsAsLayoutsAllow.{heard_is}
use Rattle.ipx_internet.proofs.lists.EachElement.{all_of, all_then, all-filter}
use Rattle.ipx_internet.proofs.lists.FoundInAList.{nothing, it_is}
use Rattle.ipx_internet.proofs.packets.PagesReadAgain.{IsRipPage, IsSapPage, rip_pages, sap_pages}
use Rattle.ipx_internet.proofs.packets.ResponsesAskNothing.{IsAnswering, rip_answers, answering}
use Rattle.ipx_internet.proofs.packets.SentOnOrReply.{Layouts, IsNewsSent, IsCast, IsOnward, rip_reply, no_reply, unsaid, said_so, answered, nearest_fits, either_fits}
use Rattle.ipx_internet.proofs.records.KeptOrOffered.{OffersOf}
use Rattle.ipx_internet.proofs.rounds.RepliesTellChanges.{page_heard}
use Rattle.ipx_internet.proofs.rounds.SentOnRunsOut.{reply_moves}
use Rattle.ipx_laws.specs.Apart.{AreOf, TellsOnlyOf}
use Rattle.ipx_laws.specs.Meanwhile.{message_of, TellsNoRoute}
use Rattle.ipx_laws.proofs.packets.SentOnSaysTheSame.{heard_message, sent_on_message}

-- whatever may be heard of the bytes tells of no route
abbrev pub Silent : List ℕ → Type 0
Silent bytes = (m : Heard) → message_of bytes ≡ Some m → TellsNoRoute m

-- or tells of none but to networks of a list
abbrev pub TellsApart : List Network → List ℕ → Type 0
TellsApart foreign bytes = (m : Heard) → message_of bytes ≡ Some m → TellsOnlyOf foreign m

-- what tells of no route tells of none to foreign
pub none_of_foreign : (foreign : List Network) (m : Heard) → TellsNoRoute m → TellsOnlyOf foreign m
none_of_foreign foreign (HeardRip source rip) silent = asks rip.operation silent
  where
    asks : (operation : Operation) → operation ≡ Request → AreOf foreign operation rip.entries
    asks Request e = tt
    asks Response e = absurd (true≢false (ap (λ (o : Operation). elim o [ Response ↦ true | Request ↦ false ]) e))
none_of_foreign foreign (HeardSap source (Query nearest kind)) silent = silent
none_of_foreign foreign (HeardSap source (SapResponse nearest entries)) silent = tt

pub silent_apart : (foreign : List Network) (bytes : List ℕ) → Silent bytes → TellsApart foreign bytes
silent_apart foreign bytes silent m e = none_of_foreign foreign m (silent m e)

-- what tells of routes to networks of the list alone tells of none, or is a response
pub none_or_response : (foreign : List Network) (m : Heard) → TellsOnlyOf foreign m → TellsNoRoute m ⊎ IsAnswering m
none_or_response foreign (HeardRip source rip) tells = by rip.operation refl
  where
    by : (operation : Operation) → rip.operation ≡ operation → (rip.operation ≡ Request) ⊎ (rip.operation ≡ Response)
    by Request e = inl e
    by Response e = inr e
none_or_response foreign (HeardSap source (Query nearest kind)) tells = inl tells
none_or_response foreign (HeardSap source (SapResponse nearest entries)) tells = inl tt

-- a page of routes that a port sends to its own network, to all or to who asked
pub record IsOwnPage (P : RipEntry → Type 0) (port : Port) (bytes : List ℕ) : Type 0 where
  pub to : Address
  pub home : to.network ≡ port.network
  pub page : IsRipPage P (own_address port) to bytes

-- what a port sends
abbrev pub IsSpoken : List Network → List ℕ → (ℕ → RipEntry → Type 0) → List Port → Sent → Type 0
IsSpoken foreign up P ports s = ((is_up up s.port ≡ true) × IsOwnPage (P s.port) (port_at ports s.port) s.bytes) ⊎ TellsApart foreign s.bytes

-- ---- what is heard

-- a service page tells of no route, where it isn't for the process of routes
pub services_silent : (Q : Service → Type 0) (from to : Address) (nearest : Bool) (bytes : List ℕ) → to.socket.0 ≢ rip_socket → IsSapPage Q from to nearest bytes
    → Silent bytes
services_silent Q from to nearest bytes apart page m e = grind arith

-- what a response of either kind says to the process of services tells of no route
services_answer : (source : Address) (m : Heard) (r : Result Sap SapFault) → IsAnswering m
    → elim r [ Ok sap ↦ Some (HeardSap source sap) | Err fault ↦ None ] ≡ Some m → TellsNoRoute m
services_answer source m (Err fault) answers e = nothing e
services_answer source m (Ok sap) answers e = it_is (λ (h : Heard). IsAnswering h → TellsNoRoute h) m (HeardSap source sap) e (by sap) answers
  where
    by : (sap : Sap) → IsAnswering (HeardSap source sap) → TellsNoRoute (HeardSap source sap)
    by (Query nearest kind) is = absurd is
    by (SapResponse nearest entries) is = tt

-- of a router's own page its entries are heard, or what tells of no route
pub own_heard : (P : RipEntry → Type 0) (port : Port) (bytes : List ℕ) (is : IsOwnPage P port bytes) (p : Parts) (m : Heard) → packet_of bytes ≡ Ok p → heard_in p ≡ Some m
    → (Some (HeardRip (own_address port) (record { operation = Response; entries = is.page.page })) ≡ Some m) ⊎ TellsNoRoute m
own_heard P port bytes is p m read e = elim (cases_Bool (is.to.socket.0 == rip_socket)) [
  | inl rip ↦ inl (page_heard P (own_address port) is.to bytes rip is.page p m read e)
  | inr other ↦
      let parts = rip_packet_parts (own_address port) is.to Response is.page.page in
      let same : p ≡ parts = one_read (packet_of bytes) p parts read is.page.read in
      let heard : heard_in parts ≡ Some m = subst (λ (q : Parts). heard_in q ≡ Some m) same e in
      inr (services_answer (own_address port) m (sap_of parts.payload) (answering parts (rip_answers is.page.page) m heard) (rw other at heard))
]

-- what is near is what is said
pub near_in : (port : Port) (p : Parts) (m : Heard) → heard_near port p ≡ Some m → heard_in p ≡ Some m
near_in port p m e = grind arith

-- nothing is offered
pub silent_offers : (ports : List Port) (number : ℕ) (m : Heard) → TellsNoRoute m → routes_heard ports number (Some m) ≡ []
silent_offers ports number (HeardRip source rip) asks = ap offered asks
  where
    offered : Operation → List (Fact RouteOffer)
    offered operation = elim operation [ Response ↦ routes_offered ports number source.node rip.entries | Request ↦ [] ]
silent_offers ports number (HeardSap source sap) asks = refl

-- what follows for each offer
pub offers_then : {O : Type 0} (P Q : O → Type 0) → ((o : O) → P o → Q o) → (facts : List (Fact O)) → AllByRecursion (OffersOf P) facts
    → AllByRecursion (OffersOf Q) facts
offers_then P Q step [] all = tt
offers_then P Q step (Offered offer ∷ facts) all = (step offer all.0, offers_then P Q step facts all.1)
offers_then P Q step (Second ∷ facts) all = absurd all.0
offers_then P Q step (PortEnd port ∷ facts) all = absurd all.0
offers_then P Q step (End ∷ facts) all = absurd all.0

-- a route to a network of the list
abbrev pub IsTo : List Network → RouteOffer → Type 0
IsTo foreign r = is_among r.network foreign ≡ true

-- what tells of routes to such networks alone offers no other
pub foreign_offer : (foreign : List Network) (ports : List Port) (number : ℕ) (m : Heard) → TellsOnlyOf foreign m
    → AllByRecursion (OffersOf (IsTo foreign)) (routes_heard ports number (Some m))
foreign_offer foreign ports number (HeardRip source rip) tells = by rip.operation tells
  where
    each : (entries : List RipEntry) → AllByRecursion (λ e. is_among e.network foreign ≡ true) entries
        → AllByRecursion (OffersOf (IsTo foreign)) (routes_offered ports number source.node entries)
    each [] all = tt
    each (e ∷ entries) all = elim (cases_Bool (takes_no_route ports e.network)) [
      | inl none ↦ rw none (each entries all.1)
      | inr taken ↦ rw taken (all.0, each entries all.1)
    ]

    by : (operation : Operation) → AreOf foreign operation rip.entries
        → AllByRecursion (OffersOf (IsTo foreign)) (elim operation [ Response ↦ routes_offered ports number source.node rip.entries | Request ↦ [] ])
    by Response all = each rip.entries all
    by Request all = tt
foreign_offer foreign ports number (HeardSap source sap) tells = tt

-- ---- what is sent

-- a broadcast of changes, or of all
pub cast_spoken : (foreign : List Network) (up : List ℕ) (P : ℕ → RipEntry → Type 0) (Q : ℕ → Service → Type 0) (ports : List Port) (s : Sent) → IsCast up P Q ports s
    → IsSpoken foreign up P ports s
cast_spoken foreign up P Q ports s is = by is.news
  where
    by : IsNewsSent (P s.port) (Q s.port) (port_at ports s.port) s.bytes → IsSpoken foreign up P ports s
    by (inl page) = inl (is.on, record { to = everyone (port_at ports s.port); home = refl; page = page })
    by (inr page) =
        let port = port_at ports s.port in
        inr (silent_apart foreign s.bytes
        (services_silent (Q s.port) (own_services port) (every_server port) false s.bytes (λ (e : sap_socket ≡ rip_socket). omega (arith, e)) page))

-- what tells of no other route still doesn't, sent on
pub apart_onward : (foreign : List Network) (port : Port) (came sent : List ℕ) → TellsApart foreign came → IsOnward port came sent → TellsApart foreign sent
apart_onward foreign port came sent tells on m e = tells m (sent_on_message port came sent on m e)

-- nobody sends an own page on
pub own_stays : (P : RipEntry → Type 0) (from to : Port) (came sent : List ℕ) → to.network ≡ from.network → IsOwnPage P from came → IsOnward to came sent → ⊥
own_stays P from to came sent same is on = no_reply to came sent (reply_moves from to came same (rip_reply P from (own_address from) is.to came is.home is.page)) on

module _ (foreign : List Network) (laws : Layouts) (ports : List Port) (are : AllByRecursion IsPort ports) (most_routes most_services : ℕ) (history : History)
    (on : AllByRecursion (IsOnPort ports) history) (of_bytes : AllByRecursion IsOfBytes history) (number : ℕ) (bytes : List ℕ) (within : number < length ports)
    (are_bytes : IsBytes bytes) (P : ℕ → RipEntry → Type 0) where
  abbrev before : Holding
  before = holding ports most_routes most_services history

  abbrev after : Holding
  after = holding ports most_routes most_services (history ++ Packet number bytes ∷ [])

  abbrev sent : List Sent
  sent = sends ports most_routes most_services history (Packet number bytes)

  abbrev Spoken : Sent → Type 0
  Spoken s = IsSpoken foreign after.up P ports s

  abbrev AnyOne : ℕ → Service → Type 0
  AnyOne j s = Unit {0}

  anything : {X : Type 0} (xs : List X) → AllByRecursion (λ x. Unit {0}) xs
  anything xs = all_of (λ x. Unit {0}) (λ x. tt) xs

  module _ (changed : (j : ℕ) → AllByRecursion (P j) (news ports before.routes after.routes j)) (advertised : (m : Heard)
      → heard_after ports history number bytes ≡ Some m → TellsNoRoute m → AllByRecursion (P number) (told ports before.up before.routes number)) where
    -- changes
    pub changes_spoken : (m : Heard) → heard_after ports history number bytes ≡ Some m → IsAnswering m → AllByRecursion Spoken sent
    changes_spoken m e answers =
        all_then (IsCast after.up P AnyOne ports) Spoken (cast_spoken foreign after.up P AnyOne ports) sent
        (answered laws ports are most_routes most_services history on of_bytes number bytes within are_bytes P AnyOne changed (λ j. anything _) m e answers)

    -- answers
    is_here : IsPort (port_at ports number)
    is_here = port-all IsPort ports number are within

    routes_spoken : is_up after.up number ≡ true → AllByRecursion (P number) (told ports before.up before.routes number) → (source : Address) → IsPlaced source
        → (wanted : List RipEntry)
        → AllByRecursion Spoken (rip_sends ports number (reply_to (port_at ports number) source) Response (asked wanted (told ports before.up before.routes number)))
    routes_spoken up_here all_such source from wanted =
        let all = told ports before.up before.routes number in
        let to = reply_to (port_at ports number) source in
        all_then (λ s. IsRipPage (P number) (own_address (port_at ports number)) to s.bytes × (s.port ≡ number)) Spoken
        (λ s is. inl (subst (λ (k : ℕ). (is_up after.up k ≡ true) × IsOwnPage (P k) (port_at ports k) s.bytes) (sym is.1)
        (up_here, record { to = to; home = refl; page = is.0 })))
        (rip_sends ports number to Response (asked wanted all))
        (rip_pages laws.readings laws.again ports number is_here (P number) to (reply_is (port_at ports number) source is_here from) (asked wanted all)
        (all-filter (Writable (P number)) _ all
        (all_both IsEntry (P number) all
        (told_fits ports are before.up before.routes number (ports_up-within ports history) (held_routes_fit laws.readings ports most_routes history of_bytes))
        all_such)))

    services_spoken : (source : Address) → IsPlaced source → source.socket.0 ≢ rip_socket → (nearest : Bool) (services : List Service) → AllByRecursion IsTellable services
        → AllByRecursion Spoken (sap_sends ports number (reply_to (port_at ports number) source) nearest services)
    services_spoken source from apart nearest services fits =
        let to = reply_to (port_at ports number) source in
        all_then (λ s. IsSapPage (AnyOne number) (own_services (port_at ports number)) to nearest s.bytes × (s.port ≡ number)) Spoken
        (λ s is. inr (silent_apart foreign s.bytes (services_silent (AnyOne number) (own_services (port_at ports number)) to nearest s.bytes apart is.0)))
        (sap_sends ports number to nearest services)
        (sap_pages laws.readings laws.again ports number is_here (AnyOne number) to (reply_is (port_at ports number) source is_here from) nearest services
        (all_both IsTellable (AnyOne number) services fits (anything services)))

    -- for what tells of no route, and of none but to networks of the list
    asked_spoken : is_up after.up number ≡ true → AllByRecursion (P number) (told ports before.up before.routes number) → (source : Address) → IsPlaced source
        → (wanted : List RipEntry) (operation : Operation) → operation ≡ Request
        → AllByRecursion Spoken (elim operation [
          | Response ↦ flat_map (news_on ports before after) after.up
          | Request ↦ rip_sends ports number (reply_to (port_at ports number) source) Response (asked wanted (told ports before.up before.routes number))
        ])
    asked_spoken up_here all_such source from wanted operation e = grind (arith, routes_spoken)

    silent_spoken : is_up after.up number ≡ true → (m : Heard) → heard_after ports history number bytes ≡ Some m → IsPlaced (source_of m) → TellsNoRoute m
        → AllByRecursion Spoken sent
    silent_spoken up_here (HeardSap source (SapResponse nearest entries)) e from silent = changes_spoken (HeardSap source (SapResponse nearest entries)) e tt
    silent_spoken up_here (HeardRip source rip) e from silent =
        subst (λ (ss : List Sent). AllByRecursion Spoken ss)
        (sym (said_so laws ports are most_routes most_services history on of_bytes number bytes within are_bytes (HeardRip source rip) e))
        (asked_spoken up_here (advertised (HeardRip source rip) e silent) source from rip.entries rip.operation silent)
    silent_spoken up_here (HeardSap source (Query nearest kind)) e from silent =
        let services = of_kind kind (told_services before.services number) in
        let fits = all-filter IsTellable _ (told_services before.services number)
        (told_services_fit before.services number (held_services_fit laws.readings ports most_services history of_bytes)) in
        subst (λ (ss : List Sent). AllByRecursion Spoken ss)
        (sym (said_so laws ports are most_routes most_services history on of_bytes number bytes within are_bytes (HeardSap source (Query nearest kind)) e))
        (services_spoken source from silent nearest (if nearest then nearest_of services else services)
        (either_fits laws ports are nearest (nearest_of services) services (nearest_fits laws ports are services fits) fits))

    told_spoken : is_up after.up number ≡ true → (m : Heard) → heard_after ports history number bytes ≡ Some m → IsPlaced (source_of m) → TellsOnlyOf foreign m
        → AllByRecursion Spoken sent
    told_spoken up_here m e from tells = elim (none_or_response foreign m tells) [
      | inl silent ↦ silent_spoken up_here m e from silent
      | inr answers ↦ changes_spoken m e answers
    ]

    -- for any packet of which that much waits
    module _ (up_here : (m : Heard) → heard_after ports history number bytes ≡ Some m → is_up after.up number ≡ true) where
      pub of_apart : TellsApart foreign bytes → AllByRecursion Spoken sent
      of_apart tells = by (heard_after ports history number bytes) refl
        where
          by : (o : Option Heard) → heard_after ports history number bytes ≡ o → AllByRecursion Spoken sent
          by None e =
              all_then (λ s. IsOnward (port_at ports number) bytes s.bytes) Spoken
              (λ s onward. inr (apart_onward foreign (port_at ports number) bytes s.bytes tells onward)) sent
              (unsaid laws ports are most_routes most_services history on of_bytes number bytes within are_bytes e)
          by (Some m) e =
              told_spoken (up_here m e) m e (heard_is laws.readings ports before.up number bytes are_bytes (running history) m e).source
              (tells m (heard_message ports history number bytes m e))

      pub of_own : (R : RipEntry → Type 0) (from : Port) → (port_at ports number).network ≡ from.network → IsOwnPage R from bytes → AllByRecursion Spoken sent
      of_own R from same is = by (heard_after ports history number bytes) refl
        where
          by : (o : Option Heard) → heard_after ports history number bytes ≡ o → AllByRecursion Spoken sent
          by None e =
              all_then (λ s. IsOnward (port_at ports number) bytes s.bytes) Spoken
              (λ s onward. absurd (own_stays R from (port_at ports number) bytes s.bytes same is onward)) sent
              (unsaid laws ports are most_routes most_services history on of_bytes number bytes within are_bytes e)
          by (Some m) e =
              let came = came_in ports before.up number (running history) bytes m e in
              elim (own_heard R from bytes is came.packet m came.read (near_in (port_at ports number) came.packet m came.near)) [
                | inl page ↦
                    changes_spoken m e (it_is IsAnswering m (HeardRip (own_address from) (record { operation = Response; entries = is.page.page })) page refl)
                | inr silent ↦
                    silent_spoken (up_here m e) m e (heard_is laws.readings ports before.up number bytes are_bytes (running history) m e).source silent
              ]
