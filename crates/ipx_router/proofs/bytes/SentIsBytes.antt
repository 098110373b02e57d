-- What an event sends are bytes.
use Rattle.std.proofs.Common.{sym, subst, ℕ, Bool, inl, inr, List, arith}
use Rattle.std.specs.List.{AllByRecursion}
use Rattle.ipx_wire.specs.Forward.{forwarded, propagated}
use Rattle.ipx_wire.specs.Piece.{IsBytes}
use Rattle.ipx_wire.specs.declared.rip.RipEntry.{RipEntry}
use Rattle.ipx_router.specs.History.{Event, IsOfBytes}
use Rattle.ipx_router.specs.Packets.{IsRelayed}
use Rattle.ipx_router.specs.Port.{Port, port_at}
use Rattle.ipx_router.specs.Relays.{Sent}
use Rattle.ipx_router.specs.declared.route_offer.RouteOffer.{RouteOffer}
use Rattle.ipx_router.proofs.bytes.FieldsAreBytes.{parts_bytes, packet_are_bytes, crossing_bytes}
use Rattle.ipx_router.proofs.lists.EachElement.{all_then}
use Rattle.ipx_router.proofs.sending.SentAfterAnyHistory.{IsSending}

module _ (ports : List Port) (up : List ℕ) (routes : List RouteOffer) where
  -- of a packet that is sent on, those that came, and the numbers that were written into them
  pub relayed_bytes : (number : ℕ) (bytes : List ℕ) (s : Sent) → IsBytes bytes → IsRelayed ports up routes number bytes s → IsBytes s.bytes
  relayed_bytes number bytes s are (inl is) =
      let few = is.few in
      let parts = parts_bytes bytes is.packet are is.is in
      subst IsBytes (sym is.written)
      (packet_are_bytes (forwarded is.packet) (omega (arith, few)) is.is.header.kind
      (record { destination = parts.destination; source = parts.source; payload = parts.payload }))
  relayed_bytes number bytes s are (inr is) =
      let p = is.packet in
      let free = is.crossed.free in
      let parts = parts_bytes bytes p are is.is in
      let arrived = (port_at ports number).network in
      subst IsBytes (sym is.written)
      (packet_are_bytes (propagated arrived (port_at ports s.port).network p) (omega (arith, free)) is.is.header.kind (record {
        destination = parts.destination;
        source = parts.source;
        payload = crossing_bytes p.header.control arrived p.payload parts.payload;
      }))

  pub of_bytes : (P : RipEntry → Type 0) (runs : Bool) (event : Event) (sent : List Sent) → IsOfBytes event → AllByRecursion (IsSending P ports up routes runs event) sent
      → AllByRecursion (λ s. IsBytes s.bytes) sent
  of_bytes P runs event sent are all = all_then (IsSending P ports up routes runs event) (λ s. IsBytes s.bytes) one sent all
    where
      one : (s : Sent) → IsSending P ports up routes runs event s → IsBytes s.bytes
      one s (inl is) = is.bytes
      one s (inr is) = relayed_bytes is.number is.bytes s (subst IsOfBytes is.came are) is.relayed
