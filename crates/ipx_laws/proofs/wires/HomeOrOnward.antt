-- What a router sends for an event is its own, which nobody sends on, and which asks for no answer to the other process; or it is what came,
-- sent on.
use Rattle.std.proofs.Common.{◌≡◌, ◌≢◌, refl, sym, ap, ◌∙◌, subst, ◌⊎◌, ℕ, true, false, List, [], ◌∷◌, length, Option, Some, None, Result, Ok, Err, inl, inr, arith}
use Rattle.std.specs.List.{AllByRecursion}
use Rattle.ipx_wire.specs.Packet.{Parts, packet_of}
use Rattle.ipx_wire.specs.Numbers.{rip_type, sap_type}
use Rattle.ipx_wire.specs.Piece.{IsBytes}
use Rattle.ipx_wire.specs.Rip.{RipParts, rip_of}
use Rattle.ipx_wire.specs.Sap.{sap_of}
use Rattle.ipx_wire.specs.Write.{own_header}
use Rattle.ipx_wire.specs.declared.address.Address.{Address}
use Rattle.ipx_wire.specs.declared.header.Header.{Header}
use Rattle.ipx_wire.specs.declared.rip.Operation.{Operation}
use Rattle.ipx_wire.specs.declared.rip.Operation.TheVariants.{Request, Response}
use Rattle.ipx_wire.specs.declared.rip.RipFault.{RipFault}
use Rattle.ipx_wire.specs.declared.sap.Sap.{Sap}
use Rattle.ipx_wire.specs.declared.sap.Sap.TheVariants.{Query, Response as SapResponse}
use Rattle.ipx_wire.specs.declared.sap.SapFault.{SapFault}
use Rattle.ipx_router.specs.Facts.{heard_after, routes_held, offers}
use Rattle.ipx_router.specs.Heard.{Heard, HeardRip, HeardSap, heard_in}
use Rattle.ipx_router.specs.History.{Event, History, Start, Stop, Second, Packet, PortDown, PortUp, IsOnPort, IsOfBytes, running}
use Rattle.ipx_router.specs.Numbers.{rip_socket, sap_socket}
use Rattle.ipx_router.specs.Packets.{IsSentFor, IsBroadcast}
use Rattle.ipx_router.specs.Port.{Port, IsPort, port_at, own_address, everyone, own_services, every_server}
use Rattle.ipx_router.specs.Relays.{Sent}
use Rattle.ipx_router.specs.Sends.{sends, ports_sending}
use Rattle.ipx_router.specs.Why.{is_propagated, is_for_rip}
use Rattle.ipx_router.proofs.lists.EachElement.{all_both}
use Rattle.ipx_internet.proofs.lists.EachElement.{all_then, all-append}
use Rattle.ipx_internet.proofs.lists.FoundInAList.{nothing, it_is}
use Rattle.ipx_internet.proofs.packets.ResponsesAskNothing.{IsAnswering, answering}
use Rattle.ipx_internet.proofs.packets.SentOnOrReply.{Layouts, IsReply, IsOnward, unsaid, all_reply}
use Rattle.ipx_laws.specs.Meanwhile.{AsksElsewhere}

-- what it asks isn't answered to the other process
abbrev pub IsApart : Heard → Type 0
IsApart (HeardRip source rip) = AsksElsewhere source rip.operation
IsApart (HeardSap source (Query nearest kind)) = source.socket.0 ≢ rip_socket
IsApart (HeardSap source (SapResponse nearest entries)) = Unit

-- a packet for the port's own network, that is sent on by nobody
pub record IsHome (port : Port) (bytes : List ℕ) : Type 0 where
  pub packet : Parts
  pub read : packet_of bytes ≡ Ok packet
  pub plain : is_propagated packet.header ≡ false
  pub home : packet.header.destination.network ≡ port.network
  pub apart : (m : Heard) → heard_in packet ≡ Some m → IsApart m

-- it is one on each port of the network
pub home_moves : (a b : Port) (bytes : List ℕ) → b.network ≡ a.network → IsHome a bytes → IsHome b bytes
home_moves a b bytes same is = record { packet = is.packet; read = is.read; plain = is.plain; home = is.home ∙ sym same; apart = is.apart }

-- ---- replies

response_asks : (source : Address) (operation : Operation) → operation ≡ Response → AsksElsewhere source operation
response_asks source operation e = subst (λ (o : Operation). AsksElsewhere source o) (sym e) tt

answer_apart : (m : Heard) → IsAnswering m → IsApart m
answer_apart (HeardRip source rip) is = response_asks source rip.operation is
answer_apart (HeardSap source (Query nearest kind)) is = absurd is
answer_apart (HeardSap source (SapResponse nearest entries)) is = tt

reply_home : (port : Port) (bytes : List ℕ) → IsReply port bytes → IsHome port bytes
reply_home port bytes is = record {
  packet = is.packet;
  read = is.read;
  plain = is.plain;
  home = is.home;
  apart = λ m e. answer_apart m (answering is.packet is.answers m e);
}

-- ---- broadcasts

module _ (port : Port) (p : Parts) (m : Heard) (heard : heard_in p ≡ Some m) where
  rip_asks : (source : Address) → source.socket.0 ≡ rip_socket → (operation : Operation) → AsksElsewhere source operation
  rip_asks source own Request = λ (same : source.socket.0 ≡ sap_socket). omega (arith, own, same)
  rip_asks source own Response = tt

  routing_apart : p.header ≡ own_header rip_type (own_address port) (everyone port) (length p.payload) → IsApart m
  routing_apart same =
      let here : is_for_rip p.header ≡ true = ap is_for_rip same in
      by (rip_of p.payload) (rw here at heard)
    where
      own : p.header.source.socket.0 ≡ rip_socket
      own = ap (λ (h : Header). h.source.socket.0) same

      by : (r : Result RipParts RipFault) → elim r [ Ok rip ↦ Some (HeardRip p.header.source rip) | Err fault ↦ None ] ≡ Some m → IsApart m
      by (Err fault) e = nothing e
      by (Ok rip) e = it_is IsApart m (HeardRip p.header.source rip) e (rip_asks p.header.source own rip.operation)

  advertising_apart : p.header ≡ own_header sap_type (own_services port) (every_server port) (length p.payload) → IsApart m
  advertising_apart same =
      let elsewhere : is_for_rip p.header ≡ false = ap is_for_rip same in
      by (sap_of p.payload) (rw elsewhere at heard)
    where
      own : p.header.source.socket.0 ≡ sap_socket
      own = ap (λ (h : Header). h.source.socket.0) same

      said : (sap : Sap) → IsApart (HeardSap p.header.source sap)
      said (Query nearest kind) = λ (same_socket : p.header.source.socket.0 ≡ rip_socket). omega (arith, own, same_socket)
      said (SapResponse nearest entries) = tt

      by : (r : Result Sap SapFault) → elim r [ Ok sap ↦ Some (HeardSap p.header.source sap) | Err fault ↦ None ] ≡ Some m → IsApart m
      by (Err fault) e = nothing e
      by (Ok sap) e = it_is IsApart m (HeardSap p.header.source sap) e (said sap)

module _ (laws : Layouts) (ports : List Port) where
  broadcast_home : (up : List ℕ) (s : Sent) → IsBytes s.bytes → IsBroadcast ports up s → IsHome (port_at ports s.port) s.bytes
  broadcast_home up s bytes (inl is) = record {
    packet = is.packet;
    read = (laws.readings.packet_read s.bytes is.packet bytes).1 is.own.is;
    plain = ap is_propagated is.own.header;
    home = ap (λ (h : Header). h.destination.network) is.own.header;
    apart = λ m e. routing_apart (port_at ports s.port) is.packet m e is.own.header;
  }
  broadcast_home up s bytes (inr is) = record {
    packet = is.packet;
    read = (laws.readings.packet_read s.bytes is.packet bytes).1 is.own.is;
    plain = ap is_propagated is.own.header;
    home = ap (λ (h : Header). h.destination.network) is.own.header;
    apart = λ m e. advertising_apart (port_at ports s.port) is.packet m e is.own.header;
  }

  -- ---- any event

  abbrev pub Home : Sent → Type 0
  Home s = IsHome (port_at ports s.port) s.bytes

  -- what came, sent on
  abbrev pub Passed : Event → Sent → Type 0
  Passed (Packet number bytes) s = IsOnward (port_at ports number) bytes s.bytes
  Passed event s = ⊥

  module _ (are : AllByRecursion IsPort ports) (most_routes most_services : ℕ) (history : History) (on : AllByRecursion (IsOnPort ports) history)
      (of_bytes : AllByRecursion IsOfBytes history) where
    sent_bytes : (event : Event) → IsOnPort ports event → IsOfBytes event
        → AllByRecursion (λ s. IsBytes s.bytes) (sends ports most_routes most_services history event)
    sent_bytes event event_on event_bytes =
        laws.bytes ports most_routes most_services history event are (all-append (IsOnPort ports) history (event ∷ []) on (event_on, tt))
        (all-append IsOfBytes history (event ∷ []) of_bytes (event_bytes, tt))

    laid : (event : Event) → IsOnPort ports event → IsOfBytes event
        → AllByRecursion (IsSentFor ports (ports_sending ports history event) (offers (routes_held ports most_routes history)) (running history) event)
        (sends ports most_routes most_services history event)
    laid event event_on event_bytes =
        laws.layouts ports most_routes most_services history event are (all-append (IsOnPort ports) history (event ∷ []) on (event_on, tt))
        (all-append IsOfBytes history (event ∷ []) of_bytes (event_bytes, tt))

    cast : (event : Event) → IsOnPort ports event → IsOfBytes event
        → AllByRecursion (IsBroadcast ports (ports_sending ports history event)) (sends ports most_routes most_services history event)
        → AllByRecursion (λ s. Home s ⊎ Passed event s) (sends ports most_routes most_services history event)
    cast event event_on event_bytes laid =
        let up = ports_sending ports history event in
        let ss = sends ports most_routes most_services history event in
        all_then (λ s. IsBytes s.bytes × IsBroadcast ports up s) (λ s. Home s ⊎ Passed event s) (λ s both. inl (broadcast_home up s both.0 both.1)) ss
        (all_both (λ s. IsBytes s.bytes) (IsBroadcast ports up) ss (sent_bytes event event_on event_bytes) laid)

    pub home_or_onward : (event : Event) → IsOnPort ports event → IsOfBytes event
        → AllByRecursion (λ s. Home s ⊎ Passed event s) (sends ports most_routes most_services history event)
    home_or_onward Start event_on event_bytes = cast Start event_on event_bytes (laid Start event_on event_bytes)
    home_or_onward Stop event_on event_bytes = cast Stop event_on event_bytes (laid Stop event_on event_bytes)
    home_or_onward Second event_on event_bytes = cast Second event_on event_bytes (laid Second event_on event_bytes)
    home_or_onward (PortDown number) event_on event_bytes = cast (PortDown number) event_on event_bytes (laid (PortDown number) event_on event_bytes)
    home_or_onward (PortUp number) event_on event_bytes = cast (PortUp number) event_on event_bytes (laid (PortUp number) event_on event_bytes)
    home_or_onward (Packet number bytes) event_on event_bytes = by (heard_after ports history number bytes) refl
      where
        ss : List Sent
        ss = sends ports most_routes most_services history (Packet number bytes)

        by : (o : Option Heard) → heard_after ports history number bytes ≡ o → AllByRecursion (λ s. Home s ⊎ Passed (Packet number bytes) s) ss
        by None e =
            all_then (λ s. IsOnward (port_at ports number) bytes s.bytes) (λ s. Home s ⊎ Passed (Packet number bytes) s) (λ s onward. inr onward) ss
            (unsaid laws ports are most_routes most_services history on of_bytes number bytes event_on event_bytes e)
        by (Some m) e =
            all_then (λ s. IsReply (port_at ports s.port) s.bytes) (λ s. Home s ⊎ Passed (Packet number bytes) s)
            (λ s is. inl (reply_home (port_at ports s.port) s.bytes is)) ss
            (all_reply laws ports are most_routes most_services history on of_bytes number bytes event_on event_bytes m e)
