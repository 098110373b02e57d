-- A router's own packets, read again, say what is of real ways: its pages of routes do, and what asks or is about services says nothing of routes.
use Rattle.std.proofs.Common.{◌≡◌, ◌≢◌, refl, sym, ap, ◌∙◌, subst, ◌==◌, ◌<◌, ℕ, Bool, false, List, [], ◌∷◌, Option, Some, None, Result, Ok, Err, inl, inr, arith, lit<, append-nil}
use Rattle.std.specs.List.{AllByRecursion}
use Rattle.std.proofs.lemmas.Bool.{cases_Bool}
use Rattle.ipx_wire.specs.Packet.{Parts, IsPacket, packet_of}
use Rattle.ipx_wire.specs.Piece.{IsBytes}
use Rattle.ipx_wire.specs.Rip.{RipParts, IsEntry, IsRip}
use Rattle.ipx_wire.specs.Sap.{IsSap, sap_of}
use Rattle.ipx_wire.specs.Write.{packet_bytes, rip_packet, rip_packet_parts, rip_payload, query_packet, query_packet_parts, query_payload}
use Rattle.ipx_wire.specs.declared.address.Address.{Address}
use Rattle.ipx_wire.specs.declared.rip.Operation.{Operation}
use Rattle.ipx_wire.specs.declared.rip.Operation.TheVariants.{Request, Response}
use Rattle.ipx_wire.specs.declared.rip.RipEntry.{RipEntry}
use Rattle.ipx_wire.specs.declared.rip.RipFault.{RipFault}
use Rattle.ipx_wire.specs.declared.sap.Sap.{Sap}
use Rattle.ipx_wire.specs.declared.sap.Sap.TheVariants.{Query, Response as SapResponse}
use Rattle.ipx_wire.specs.declared.sap.SapFault.{SapFault}
use Rattle.ipx_wire.specs.declared.service.Service.{Service}
use Rattle.ipx_router.specs.Facts.{route_offer}
use Rattle.ipx_router.specs.Heard.{Heard, HeardRip, HeardSap, heard_in}
use Rattle.ipx_router.specs.Numbers.{rip_socket, sap_socket, unreachable, every_service}
use Rattle.ipx_router.specs.Port.{Port, IsPort, own_address, everyone, own_services, every_server}
use Rattle.ipx_router.specs.Sends.{every_route}
use Rattle.ipx_router.specs.Why.{is_propagated}
use Rattle.ipx_router.proofs.bytes.FieldsAreBytes.{rip_are_bytes, query_are_bytes, parts_bytes}
use Rattle.ipx_router.proofs.bytes.LawsOfLayouts.{alone}
use Rattle.ipx_internet.specs.Internet.{Internet, Place, port_of, network_of}
use Rattle.ipx_internet.proofs.lists.FoundInAList.{it_is}
use Rattle.ipx_internet.proofs.packets.PagesReadAgain.{IsRipPage, IsSapPage, own_is, services_is, everyone_is, every_server_is}
use Rattle.ipx_internet.proofs.packets.ResponsesAskNothing.{IsAnswering, rip_answers, answering}
use Rattle.ipx_internet.proofs.packets.SentOnOrReply.{Layouts}
use Rattle.ipx_internet.proofs.rounds.RepliesTellChanges.{page_heard}
use Rattle.ipx_laws.specs.Real.{IsReal}
use Rattle.ipx_laws.proofs.ticks.RealOrSoonEnded.{Reaches, Hears}

abbrev pub AnyService : Service → Type 0
AnyService s = Unit

module _ (net : Internet) (up : ℕ → List ℕ) where
  -- an entry that a port sends: where it says that a network is reached, whoever learns of it has a route of a real way
  abbrev pub RealSaid : Place → RipEntry → Type 0
  RealSaid from e =
      e.hops < unreachable → (to : Place) → Reaches net up from to → Hears net up to e
      → IsReal net up to.router (route_offer to.port (port_of net from).node e)

  -- what is heard of a port: a response from its node, with such entries, or what asks, but for a query that is answered to the process of RIP
  abbrev pub FineRip : Place → Address → Operation → List RipEntry → Type 0
  FineRip from source Response entries = (source.node ≡ (port_of net from).node) × AllByRecursion (RealSaid from) entries
  FineRip from source Request entries = Unit

  abbrev pub FineHeard : Place → Heard → Type 0
  FineHeard from (HeardRip source rip) = FineRip from source rip.operation rip.entries
  FineHeard from (HeardSap source (Query nearest kind)) = source.socket.0 ≢ rip_socket
  FineHeard from (HeardSap source (SapResponse nearest entries)) = Unit

  -- a packet that a port sent of its own: nobody sends it on
  pub record IsOwn (from : Place) (bytes : List ℕ) : Type 0 where
    pub packet : Parts
    pub read : packet_of bytes ≡ Ok packet
    pub plain : is_propagated packet.header ≡ false
    pub home : packet.header.destination.network ≡ network_of net from
    pub fine : (m : Heard) → heard_in packet ≡ Some m → FineHeard from m

  module _ (from : Place) where
    abbrev port : Port
    port = port_of net from

    -- a response that the process of SAP reads asks nothing
    as_services : (source : Address) (r : Result Sap SapFault) (m : Heard) → elim r [ Ok sap ↦ Some (HeardSap source sap) | Err fault ↦ None ] ≡ Some m
        → IsAnswering m → FineHeard from m
    as_services source r m e is = grind arith

    pub rip_page_own : (to : Address) (bytes : List ℕ) → to.network ≡ port.network → IsRipPage (RealSaid from) (own_address port) to bytes → IsOwn from bytes
    rip_page_own to bytes home page = record {
      packet = rip_packet_parts (own_address port) to Response page.page;
      read = page.read;
      plain = refl;
      home = home;
      fine = λ m e. elim (cases_Bool (to.socket.0 == rip_socket)) [
        | inl rip ↦
            it_is (FineHeard from) m (HeardRip (own_address port) (record { operation = Response; entries = page.page }))
            (page_heard (RealSaid from) (own_address port) to bytes rip page (rip_packet_parts (own_address port) to Response page.page) m page.read e)
            (refl, page.each)
        | inr other ↦
            as_services (own_address port) (sap_of (rip_payload Response page.page)) m (rw other at e)
            (answering (rip_packet_parts (own_address port) to Response page.page) (rip_answers page.page) m e)
      ];
    }

    pub sap_page_own : (to : Address) (nearest : Bool) (bytes : List ℕ) → to.network ≡ port.network → to.socket.0 ≢ rip_socket
        → IsSapPage AnyService (own_services port) to nearest bytes → IsOwn from bytes
    sap_page_own to nearest bytes home apart page = grind arith

    module _ (laws : Layouts) (is_port : IsPort port) where
      pub request_own : IsOwn from (rip_packet (own_address port) (everyone port) Request (every_route ∷ []))
      request_own =
          let page = every_route ∷ [] in
          let entries : AllByRecursion IsEntry page = (record { network = lit< tt; hops = lit< tt; ticks = lit< tt }, tt) in
          let parts = rip_packet_parts (own_address port) (everyone port) Request page in
          let read : IsPacket (packet_bytes parts) parts =
          alone parts (λ further. laws.again.rip_packet_again (own_address port) (everyone port) Request page further (own_is port is_port).ranges
          (everyone_is port is_port).ranges (omega arith)) in
          let bytes : IsBytes (packet_bytes parts) =
          rip_are_bytes (own_address port) (everyone port) Request page (own_is port is_port).node (everyone_is port is_port).node entries in
          let said : RipParts = record { operation = Request; entries = page } in
          let says : IsRip parts.payload said =
          subst (λ payload. IsRip payload said) (append-nil (rip_payload Request page))
          (laws.again.rip_again Request page [] entries (omega arith) (omega arith) (omega arith)) in
          let rip = (laws.readings.rip_read parts.payload said (parts_bytes (packet_bytes parts) parts bytes read).payload).1 says in
          record {
            packet = parts;
            read = (laws.readings.packet_read (packet_bytes parts) parts bytes).1 read;
            plain = refl;
            home = refl;
            fine = λ m e. it_is (FineHeard from) m (HeardRip (own_address port) said) (sym (ap heard_rip rip) ∙ e) tt;
          }
        where
          heard_rip : Result RipParts RipFault → Option Heard
          heard_rip r = elim r [ Ok rip ↦ Some (HeardRip (own_address port) rip) | Err fault ↦ None ]

      pub query_own : IsOwn from (query_packet (own_services port) (every_server port) false every_service)
      query_own =
          let parts = query_packet_parts (own_services port) (every_server port) false every_service in
          let read : IsPacket (packet_bytes parts) parts =
          alone parts (λ further. laws.again.query_packet_again (own_services port) (every_server port) false every_service further (services_is port is_port).ranges
          (every_server_is port is_port).ranges) in
          let bytes : IsBytes (packet_bytes parts) =
          query_are_bytes (own_services port) (every_server port) false every_service (services_is port is_port).node (every_server_is port is_port).node in
          let said : Sap = Query false every_service in
          let says : IsSap parts.payload said =
          subst (λ payload. IsSap payload said) (append-nil (query_payload false every_service)) (laws.again.query_again false every_service [] (lit< tt)) in
          let sap = (laws.readings.sap_read parts.payload said (parts_bytes (packet_bytes parts) parts bytes read).payload).1 says in
          record {
            packet = parts;
            read = (laws.readings.packet_read (packet_bytes parts) parts bytes).1 read;
            plain = refl;
            home = refl;
            fine = λ m e.
                it_is (FineHeard from) m (HeardSap (own_services port) said) (sym (ap heard_sap sap) ∙ e) (λ (same : sap_socket ≡ rip_socket). omega (arith, same));
          }
        where
          heard_sap : Result Sap SapFault → Option Heard
          heard_sap r = elim r [ Ok sap ↦ Some (HeardSap (own_services port) sap) | Err fault ↦ None ]
