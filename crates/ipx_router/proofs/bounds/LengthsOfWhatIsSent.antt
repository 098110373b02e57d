-- How long the packets are that an event sends.
use Rattle.std.proofs.lemmas.Grind.{common_steps}
use Rattle.std.proofs.Common.{◌≡◌, sym, ap, ◌∙◌, subst, Bool, ℕ, ◌≤◌, max, inl, inr, length, List, Result, Ok, Err, arith}
use Rattle.std.specs.List.{AllByRecursion}
use Rattle.ipx_wire.specs.Crossed.{IsNetwork}
use Rattle.ipx_wire.specs.Forward.{forwarded, propagated}
use Rattle.ipx_wire.specs.Packet.{Parts, IsPacket, packet_of}
use Rattle.ipx_wire.specs.Piece.{IsBytes}
use Rattle.ipx_wire.specs.declared.packet.PacketFault.{PacketFault}
use Rattle.ipx_wire.specs.declared.rip.RipEntry.{RipEntry}
use Rattle.ipx_router.specs.Bounds.{most_length}
use Rattle.ipx_router.specs.History.{Event, Packet, IsOfBytes}
use Rattle.ipx_router.specs.Numbers.{most_own_length}
use Rattle.ipx_router.specs.Packets.{IsRelayed}
use Rattle.ipx_router.specs.Port.{Port, IsPort, port_at}
use Rattle.ipx_router.specs.Relays.{Sent}
use Rattle.ipx_router.specs.declared.route_offer.RouteOffer.{RouteOffer}
use Rattle.ipx_router.proofs.lists.EachElement.{all_then}
use Rattle.ipx_router.proofs.sending.SentAfterAnyHistory.{IsSending}
use Rattle.ipx_router.proofs.bytes.LawsOfLayouts.{Readings, Rereadings, whole}

-- the network at any number, also where no port is, fits into four bytes
pub network_fits : (ports : List Port) (number : ℕ) → AllByRecursion IsPort ports → IsNetwork (port_at ports number).network
network_fits ports number are = grind (arith, common_steps)

pub packet_length : (r : Result Parts PacketFault) → most_own_length ≤ elim r [ Ok p ↦ max most_own_length p.header.length | Err fault ↦ most_own_length ]
packet_length r = grind arith

module _ (readings : Readings) (again : Rereadings) (ports : List Port) (are : AllByRecursion IsPort ports) (up : List ℕ) (routes : List RouteOffer) where
  module _ (number : ℕ) (bytes : List ℕ) (are_bytes : IsBytes bytes) where
    -- a packet of as many bytes as the one that came counts
    as_long : (p : Parts) (n : ℕ) → IsPacket bytes p → n ≡ p.header.length → n ≤ most_length (Packet number bytes)
    as_long p n is e =
        let read : packet_of bytes ≡ Ok p = (readings.packet_read bytes p are_bytes).1 is in
        rw (read, most_length) (omega (arith, e))

    relayed_length : (s : Sent) → IsRelayed ports up routes number bytes s → length s.bytes ≤ most_length (Packet number bytes)
    relayed_length s (inl is) =
        let p = is.packet in
        let few = is.few in
        let size : length s.bytes ≡ p.header.length =
        ap length is.written ∙ whole readings (forwarded p) (λ further. again.forwarded_again bytes p further is.is (omega (arith, few))) in
        as_long p (length s.bytes) is.is size
    relayed_length s (inr is) =
        let p = is.packet in
        let arrived = (port_at ports number).network in
        let outgoing = (port_at ports s.port).network in
        let size : length s.bytes ≡ p.header.length =
        ap length is.written
        ∙ whole readings (propagated arrived outgoing p)
        (λ further. again.propagated_again bytes p arrived outgoing further is.is is.crossed.free is.crossed.eight (network_fits ports s.port are)) in
        as_long p (length s.bytes) is.is size

  own_length : (event : Event) → most_own_length ≤ most_length event
  own_length event = grind arith

  pub short : (P : RipEntry → Type 0) (runs : Bool) (event : Event) (sent : List Sent) → IsOfBytes event → AllByRecursion (IsSending P ports up routes runs event) sent
      → AllByRecursion (λ s. length s.bytes ≤ most_length event) sent
  short P runs event sent bytes all = all_then (IsSending P ports up routes runs event) (λ s. length s.bytes ≤ most_length event) one sent all
    where
      one : (s : Sent) → IsSending P ports up routes runs event s → length s.bytes ≤ most_length event
      one s (inl is) =
          let few = is.short in
          omega (arith, few, own_length event)
      one s (inr is) =
          subst (λ (e : Event). length s.bytes ≤ most_length e) (sym is.came)
          (relayed_length is.number is.bytes (subst IsOfBytes is.came bytes) s is.relayed)
