-- A router's own pages, requests and queries, read again, say what is fine or was told soon enough.
use Rattle.std.proofs.Common.{◌≡◌, ◌≢◌, refl, sym, ap, ◌∙◌, subst, ◌⊎◌, ℕ, Bool, false, List, [], ◌∷◌, map, Option, Some, None, Result, Ok, Err, inl, inr, arith, lit<, append-nil}
use Rattle.std.specs.List.{AllByRecursion}
use Rattle.std.proofs.lemmas.Bool.{cases_Bool, eqb-true}
use Rattle.ipx_wire.specs.Packet.{Parts, IsPacket}
use Rattle.ipx_wire.specs.Piece.{IsBytes}
use Rattle.ipx_wire.specs.Rip.{RipParts, IsEntry, IsRip, rip_of}
use Rattle.ipx_wire.specs.Sap.{IsSap, sap_of}
use Rattle.ipx_wire.specs.Write.{packet_bytes, rip_packet, rip_packet_parts, rip_payload, query_packet, query_packet_parts, query_payload}
use Rattle.ipx_wire.specs.WriteServices.{entry_of as sap_entry, sap_packet_parts}
use Rattle.ipx_wire.specs.declared.address.Address.{Address}
use Rattle.ipx_wire.specs.declared.network.Network.{Network}
use Rattle.ipx_wire.specs.declared.rip.Operation.{Operation}
use Rattle.ipx_wire.specs.declared.rip.Operation.TheVariants.{Request, Response}
use Rattle.ipx_wire.specs.declared.rip.RipEntry.{RipEntry}
use Rattle.ipx_wire.specs.declared.rip.RipFault.{RipFault}
use Rattle.ipx_wire.specs.declared.sap.Sap.{Sap}
use Rattle.ipx_wire.specs.declared.sap.Sap.TheVariants.{Query, Response as SapResponse}
use Rattle.ipx_wire.specs.declared.sap.SapFault.{SapFault}
use Rattle.ipx_wire.specs.declared.service.Service.{Service}
use Rattle.ipx_router.specs.Heard.{Heard, HeardRip, HeardSap, heard_in}
use Rattle.ipx_router.specs.Numbers.{rip_socket, sap_socket, every_service}
use Rattle.ipx_router.specs.Port.{Port, IsPort, port_at, own_address, everyone, own_services, every_server}
use Rattle.ipx_router.specs.Relays.{Sent}
use Rattle.ipx_router.specs.Sends.{every_route, rip_sends, sap_sends, rip_broadcast, sap_broadcast, broadcasts, routes_request, services_query}
use Rattle.ipx_router.specs.Why.{is_for_rip}
use Rattle.ipx_router.proofs.bytes.FieldsAreBytes.{IsPlace as IsPlaced, rip_are_bytes, query_are_bytes, parts_bytes}
use Rattle.ipx_router.proofs.sending.OwnPacketsAreValid.{Writable}
use Rattle.ipx_router.proofs.bytes.LawsOfLayouts.{alone}
use Rattle.ipx_internet.proofs.lists.EachElement.{all_of, all_then, all-append, all_mapped}
use Rattle.ipx_internet.proofs.lists.FoundInAList.{nothing, it_is}
use Rattle.ipx_internet.proofs.packets.PagesReadAgain.{IsRipPage, IsSapPage, Tellable, own_is, services_is, everyone_is, every_server_is, rip_pages, sap_pages}
use Rattle.ipx_internet.proofs.packets.ResponsesAskNothing.{Answers, rip_answers, sap_answers, IsAnswering, answering}
use Rattle.ipx_internet.proofs.packets.SentOnOrReply.{Layouts}
use Rattle.ipx_internet.proofs.rounds.RepliesTellChanges.{page_heard, services_heard_of}
use Rattle.ipx_laws.specs.Announces.{service_of}
use Rattle.ipx_laws.specs.Meanwhile.{message_in}
use Rattle.ipx_laws.proofs.packets.SentOnSaysTheSame.{of_packet, for_rip, for_sap, message_heard}
use Rattle.ipx_laws.proofs.ticks.FineOrSoonEnded.{IsFineService, IsSoon, RouteSaid, ServiceSaid, EntrySaid, AnyRoute, AnyService, RipSaid, Said, Tells}

module _ (delay slack : ℕ) (IsFine : Network → Type 0) (IsServed : Service → Type 0) (begun : ℕ) where
  abbrev pub Entry : RipEntry → Type 0
  Entry = RouteSaid delay slack IsFine IsServed begun

  abbrev pub Named : Service → Type 0
  Named = ServiceSaid delay slack IsFine IsServed begun

  -- whatever is said of networks, and of services, is such
  abbrev pub Routes : Type 0
  Routes = AnyRoute delay slack IsFine IsServed begun

  abbrev pub Services : Type 0
  Services = AnyService delay slack IsFine IsServed begun

  abbrev Message : Heard → Type 0
  Message = Said delay slack IsFine IsServed begun

  abbrev pub Say : List ℕ → Type 0
  Say = Tells delay slack IsFine IsServed begun

  -- ---- a response that is read by the other process

  module _ (p : Parts) (answers : Answers p.payload) (m : Heard) (heard : heard_in p ≡ Some m) where
    read_as_services : Services → (r : Result Sap SapFault)
        → elim r [ Ok sap ↦ Some (HeardSap p.header.source sap) | Err fault ↦ None ] ≡ Some m → Message m
    read_as_services all (Err fault) e = nothing e
    read_as_services all (Ok (Query nearest kind)) e =
        absurd (it_is IsAnswering (HeardSap p.header.source (Query nearest kind)) m (sym e) (answering p answers m heard))
    read_as_services all (Ok (SapResponse nearest entries)) e =
        it_is Message m (HeardSap p.header.source (SapResponse nearest entries)) e (all_of (EntrySaid delay slack IsFine IsServed begun) all entries)

    read_as_routes : Routes → (r : Result RipParts RipFault)
        → elim r [ Ok rip ↦ Some (HeardRip p.header.source rip) | Err fault ↦ None ] ≡ Some m → Message m
    read_as_routes all (Err fault) e = nothing e
    read_as_routes all (Ok rip) e =
        let is : rip.operation ≡ Response = it_is IsAnswering (HeardRip p.header.source rip) m (sym e) (answering p answers m heard) in
        it_is Message m (HeardRip p.header.source rip) e
        (subst (λ (o : Operation). RipSaid delay slack IsFine IsServed begun p.header.source o rip.entries) (sym is)
        (all_of Entry all rip.entries))

  -- ---- pages

  pub rip_page_tells : (from to : Address) (bytes : List ℕ) → (to.socket.0 ≢ sap_socket) ⊎ Services → IsRipPage Entry from to bytes → Say bytes
  rip_page_tells from to bytes apart page m e =
      let parts = rip_packet_parts from to Response page.page in
      let here : message_in parts ≡ Some m = of_packet bytes parts m page.read e in
      let heard : heard_in parts ≡ Some m = message_heard parts m here in
      elim (cases_Bool (is_for_rip parts.header)) [
        | inl rip ↦
            it_is Message m (HeardRip from (record { operation = Response; entries = page.page })) (page_heard Entry from to bytes rip page parts m page.read heard) page.each
        | inr other ↦
            let sap = for_sap parts m other here in
            by parts (rip_answers page.page) heard (eqb-true to.socket.0 sap_socket sap.0) sap.1 apart
      ]
    where
      by : (p : Parts) → Answers p.payload → heard_in p ≡ Some m → to.socket.0 ≡ sap_socket
          → elim (sap_of p.payload) [ Ok sap ↦ Some (HeardSap p.header.source sap) | Err fault ↦ None ] ≡ Some m
          → (to.socket.0 ≢ sap_socket) ⊎ Services → Message m
      by p answers heard sap told (inl off) = absurd (off sap)
      by p answers heard sap told (inr all) = read_as_services p answers m heard all (sap_of p.payload) told

  pub sap_page_tells : (from to : Address) (nearest : Bool) (bytes : List ℕ) → (to.socket.0 ≢ rip_socket) ⊎ Routes
      → IsSapPage Named from to nearest bytes → Say bytes
  sap_page_tells from to nearest bytes apart page m e =
      let parts = sap_packet_parts from to nearest page.page in
      let here : message_in parts ≡ Some m = of_packet bytes parts m page.read e in
      let heard : heard_in parts ≡ Some m = message_heard parts m here in
      elim (cases_Bool (is_for_rip parts.header)) [
        | inl rip ↦ by parts (sap_answers nearest page.page) heard (eqb-true to.socket.0 rip_socket rip) (for_rip parts m rip here) apart
        | inr other ↦
            it_is Message m (HeardSap from (SapResponse nearest (map sap_entry page.page))) (services_heard_of Named from to nearest bytes other page parts m page.read heard)
            (all_mapped (EntrySaid delay slack IsFine IsServed begun) sap_entry page.page
            (all_then Named (λ s. EntrySaid delay slack IsFine IsServed begun (sap_entry s)) (λ s said near name same. named s name same (said near)) page.page page.each))
      ]
    where
      named : (s : Service) (name : List ℕ) → Some s.name ≡ Some name → IsFineService IsFine IsServed s ⊎ IsSoon delay slack IsFine IsServed begun s.hops
          → IsFineService IsFine IsServed (service_of (sap_entry s) name) ⊎ IsSoon delay slack IsFine IsServed begun s.hops
      named s name same said =
          it_is (λ (n : List ℕ). IsFineService IsFine IsServed (service_of (sap_entry s) n) ⊎ IsSoon delay slack IsFine IsServed begun s.hops) name s.name same said

      by : (p : Parts) → Answers p.payload → heard_in p ≡ Some m → to.socket.0 ≡ rip_socket
          → elim (rip_of p.payload) [ Ok rip ↦ Some (HeardRip p.header.source rip) | Err fault ↦ None ] ≡ Some m
          → (to.socket.0 ≢ rip_socket) ⊎ Routes → Message m
      by p answers heard rip told (inl off) = absurd (off rip)
      by p answers heard rip told (inr all) = read_as_routes p answers m heard all (rip_of p.payload) told

  -- ---- what a port sends

  module _ (laws : Layouts) (ports : List Port) (number : ℕ) (is_port : IsPort (port_at ports number)) where
    abbrev port : Port
    port = port_at ports number

    abbrev pub Utters : Sent → Type 0
    Utters s = Say s.bytes

    pub entries_tell : (to : Address) → IsPlaced to → (to.socket.0 ≢ sap_socket) ⊎ Services → (entries : List RipEntry)
        → AllByRecursion (Writable Entry) entries → AllByRecursion Utters (rip_sends ports number to Response entries)
    entries_tell to to_is apart entries written =
        all_then (λ s. IsRipPage Entry (own_address port) to s.bytes × (s.port ≡ number)) Utters
        (λ s is. rip_page_tells (own_address port) to s.bytes apart is.0) (rip_sends ports number to Response entries)
        (rip_pages laws.readings laws.again ports number is_port Entry to to_is entries written)

    pub services_tell : (to : Address) → IsPlaced to → (nearest : Bool) → (to.socket.0 ≢ rip_socket) ⊎ Routes → (services : List Service)
        → AllByRecursion (Tellable Named) services → AllByRecursion Utters (sap_sends ports number to nearest services)
    services_tell to to_is nearest apart services tellable =
        all_then (λ s. IsSapPage Named (own_services port) to nearest s.bytes × (s.port ≡ number)) Utters
        (λ s is. sap_page_tells (own_services port) to nearest s.bytes apart is.0) (sap_sends ports number to nearest services)
        (sap_pages laws.readings laws.again ports number is_port Named to to_is nearest services tellable)

    pub rip_broadcast_tells : (entries : List RipEntry) → AllByRecursion (Writable Entry) entries → AllByRecursion Utters (rip_broadcast ports number entries)
    rip_broadcast_tells entries written = grind (arith, entries_tell, everyone_is)

    pub sap_broadcast_tells : (services : List Service) → AllByRecursion (Tellable Named) services → AllByRecursion Utters (sap_broadcast ports number services)
    sap_broadcast_tells services tellable = grind (arith, services_tell, every_server_is)

    pub broadcasts_tell : (entries : List RipEntry) (services : List Service) → AllByRecursion (Writable Entry) entries → AllByRecursion (Tellable Named) services
        → AllByRecursion Utters (broadcasts ports number entries services)
    broadcasts_tell entries services written tellable = grind (arith, all-append, rip_broadcast_tells, sap_broadcast_tells)

    -- ---- requests and queries

    request_says : Say (rip_packet (own_address port) (everyone port) Request (every_route ∷ []))
    request_says m e =
        let from = own_address port in
        let to = everyone port in
        let page = every_route ∷ [] in
        let entries : AllByRecursion IsEntry page = (record { network = lit< tt; hops = lit< tt; ticks = lit< tt }, tt) in
        let parts = rip_packet_parts from to Request page in
        let read : IsPacket (packet_bytes parts) parts =
        alone parts (λ further. laws.again.rip_packet_again from to Request page further (own_is port is_port).ranges (everyone_is port is_port).ranges (omega arith)) in
        let bytes : IsBytes (packet_bytes parts) = rip_are_bytes from to Request page (own_is port is_port).node (everyone_is port is_port).node entries in
        let said : RipParts = record { operation = Request; entries = page } in
        let says : IsRip parts.payload said =
        subst (λ payload. IsRip payload said) (append-nil (rip_payload Request page))
        (laws.again.rip_again Request page [] entries (omega arith) (omega arith) (omega arith)) in
        let here = of_packet (packet_bytes parts) parts m ((laws.readings.packet_read (packet_bytes parts) parts bytes).1 read) e in
        let told = for_rip parts m refl here in
        let rip = (laws.readings.rip_read parts.payload said (parts_bytes (packet_bytes parts) parts bytes read).payload).1 says in
        it_is Message m (HeardRip from said) (sym (ap (heard_from from) rip) ∙ told) (inl (λ (same : rip_socket ≡ sap_socket). omega (arith, same)))
      where
        heard_from : Address → Result RipParts RipFault → Option Heard
        heard_from from r = elim r [ Ok rip ↦ Some (HeardRip from rip) | Err fault ↦ None ]

    query_says : Say (query_packet (own_services port) (every_server port) false every_service)
    query_says m e =
        let from = own_services port in
        let to = every_server port in
        let parts = query_packet_parts from to false every_service in
        let read : IsPacket (packet_bytes parts) parts =
        alone parts (λ further. laws.again.query_packet_again from to false every_service further (services_is port is_port).ranges (every_server_is port is_port).ranges) in
        let bytes : IsBytes (packet_bytes parts) = query_are_bytes from to false every_service (services_is port is_port).node (every_server_is port is_port).node in
        let said : Sap = Query false every_service in
        let says : IsSap parts.payload said =
        subst (λ payload. IsSap payload said) (append-nil (query_payload false every_service)) (laws.again.query_again false every_service [] (lit< tt)) in
        let here = of_packet (packet_bytes parts) parts m ((laws.readings.packet_read (packet_bytes parts) parts bytes).1 read) e in
        let told = (for_sap parts m refl here).1 in
        let sap = (laws.readings.sap_read parts.payload said (parts_bytes (packet_bytes parts) parts bytes read).payload).1 says in
        it_is Message m (HeardSap from said) (sym (ap (heard_from from) sap) ∙ told) (inl (λ (same : sap_socket ≡ rip_socket). omega (arith, same)))
      where
        heard_from : Address → Result Sap SapFault → Option Heard
        heard_from from r = elim r [ Ok sap ↦ Some (HeardSap from sap) | Err fault ↦ None ]

    pub request_tells : AllByRecursion Utters (routes_request ports number)
    request_tells = (request_says, tt)

    pub query_tells : AllByRecursion Utters (services_query ports number)
    query_tells = (query_says, tt)
