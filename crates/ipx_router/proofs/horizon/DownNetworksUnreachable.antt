-- No entry of the router's own says that the network of a port that is down is reached.
use Rattle.std.proofs.Common.{◌≡◌, sym, ◌∙◌, subst, ℕ, ◌+◌, ◌<◌, Bool, false, length, List, [], inl, inr, arith}
use Rattle.std.specs.List.{AllByRecursion}
use Rattle.std.proofs.lemmas.List.{append-nil}
use Rattle.ipx_wire.specs.Forward.{forwarded, propagated}
use Rattle.ipx_wire.specs.Packet.{IsPacket}
use Rattle.ipx_wire.specs.Piece.{IsBytes}
use Rattle.ipx_wire.specs.Write.{packet_bytes}
use Rattle.ipx_wire.specs.declared.rip.RipEntry.{RipEntry}
use Rattle.ipx_router.specs.History.{Event, IsOfBytes}
use Rattle.ipx_router.specs.Numbers.{unreachable}
use Rattle.ipx_router.specs.Packets.{EachEntryIs, IsRelayed}
use Rattle.ipx_router.specs.Port.{Port, IsPort, AreApart, port_at, is_up}
use Rattle.ipx_router.specs.Relays.{Sent, IsTableRoute}
use Rattle.ipx_router.specs.declared.route_offer.RouteOffer.{RouteOffer}
use Rattle.ipx_router.proofs.horizon.NothingOnDownPorts.{apart, elsewhere}
use Rattle.ipx_router.proofs.telling.EachEntryHolds.{Opens}
use Rattle.ipx_router.proofs.lists.EachElement.{all_then}
use Rattle.ipx_router.proofs.port_values.PortOfEachNumber.{port-all, one_up}
use Rattle.ipx_router.proofs.bytes.ReadInOneWay.{no_entries}
use Rattle.ipx_router.proofs.sending.PacketsOfTheirKind.{Allows}
use Rattle.ipx_router.proofs.bytes.SentIsBytes.{relayed_bytes}
use Rattle.ipx_router.proofs.sending.SentAfterAnyHistory.{IsSending}
use Rattle.ipx_router.proofs.bounds.LengthsOfWhatIsSent.{network_fits}
use Rattle.ipx_router.proofs.bytes.LawsOfLayouts.{Readings, Rereadings}

module _ (ports : List Port) (are : AllByRecursion IsPort ports) (down : ℕ) (exists : down < length ports) where
  -- an entry of the port's network is unreachable
  abbrev pub Gone : RipEntry → Type 0
  Gone entry = entry.network ≡ (port_at ports down).network → entry.hops ≡ unreachable

  -- no request for all routes names it, and no route leads to it
  pub allows_gone : Allows Gone (IsTableRoute ports)
  allows_gone = grind (arith, port-all, elsewhere)

  -- the ports that are up are on other networks
  pub opens_gone : (up : List ℕ) → AreApart ports → AllByRecursion (λ j. j < length ports) up → is_up up down ≡ false → Opens Gone ports up
  opens_gone up apart_all within is_down j cost there e = grind (arith, apart, one_up)

module _ (readings : Readings) (again : Rereadings) (ports : List Port) (are : AllByRecursion IsPort ports) (up : List ℕ) (routes : List RouteOffer)
    (P : RipEntry → Type 0) where
  -- a packet that came through a router isn't the router's own
  relayed_entries : (number : ℕ) (bytes : List ℕ) (s : Sent) → IsBytes bytes → IsRelayed ports up routes number bytes s → EachEntryIs P ports up s
  relayed_entries number bytes s are_bytes (inl is) =
      let p = is.packet in
      let few = is.few in
      let read : IsPacket s.bytes (forwarded p) =
      subst (λ sent. IsPacket sent (forwarded p)) (append-nil (packet_bytes (forwarded p)) ∙ sym is.written)
      (again.forwarded_again bytes p [] is.is (omega (arith, few))) in
      no_entries readings P ports up s (relayed_bytes ports up routes number bytes s are_bytes (inl is)) (forwarded p) read
      (inr (λ (e : p.header.control + 1 ≡ 0). omega (arith, e)))
  relayed_entries number bytes s are_bytes (inr is) =
      let p = is.packet in
      let crossing = propagated (port_at ports number).network (port_at ports s.port).network p in
      let read : IsPacket s.bytes crossing =
      subst (λ sent. IsPacket sent crossing) (append-nil (packet_bytes crossing) ∙ sym is.written)
      (again.propagated_again bytes p (port_at ports number).network (port_at ports s.port).network [] is.is is.crossed.free is.crossed.eight
      (network_fits ports s.port are)) in
      no_entries readings P ports up s (relayed_bytes ports up routes number bytes s are_bytes (inr is)) crossing read
      (inr (λ (e : p.header.control + 1 ≡ 0). omega (arith, e)))

  -- what holds of the entries that were written holds of those that are read
  pub entries_sent_are : (runs : Bool) (event : Event) (sent : List Sent) → IsOfBytes event → AllByRecursion (IsSending P ports up routes runs event) sent
      → AllByRecursion (EachEntryIs P ports up) sent
  entries_sent_are runs event sent bytes all = all_then (IsSending P ports up routes runs event) (EachEntryIs P ports up) one sent all
    where
      one : (s : Sent) → IsSending P ports up routes runs event s → EachEntryIs P ports up s
      one s (inl is) = is.entries
      one s (inr is) = relayed_entries is.number is.bytes s (subst IsOfBytes is.came bytes) is.relayed
