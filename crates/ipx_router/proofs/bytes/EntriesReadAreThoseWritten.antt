-- The entries that are read from what a router sends are those that were written, and only its own packets have any.
use Rattle.std.proofs.Common.{◌≡◌, sym, ap, ◌∙◌, subst, ℕ, ◌+◌, ◌⊎◌, inl, inr, List, [], arith}
use Rattle.std.specs.List.{AllByRecursion}
use Rattle.std.proofs.lemmas.List.{append-nil}
use Rattle.ipx_wire.specs.Forward.{forwarded, propagated}
use Rattle.ipx_wire.specs.Numbers.{rip_type}
use Rattle.ipx_wire.specs.Packet.{Parts, IsPacket}
use Rattle.ipx_wire.specs.Piece.{IsBytes}
use Rattle.ipx_wire.specs.Rip.{RipParts, IsRip}
use Rattle.ipx_wire.specs.Write.{packet_bytes}
use Rattle.ipx_wire.specs.declared.address.Address.{Address}
use Rattle.ipx_wire.specs.declared.header.Header.{Header}
use Rattle.ipx_wire.specs.declared.rip.RipEntry.{RipEntry}
use Rattle.ipx_router.specs.Horizon.{EachEntryReadIs}
use Rattle.ipx_router.specs.Packets.{IsRouting, EachEntryIs, IsAdvertising, IsBroadcast, IsRelayed}
use Rattle.ipx_router.specs.Port.{Port, IsPort, port_at, everyone, every_server}
use Rattle.ipx_router.specs.Relays.{Sent}
use Rattle.ipx_router.specs.declared.route_offer.RouteOffer.{RouteOffer}
use Rattle.ipx_router.proofs.bytes.FieldsAreBytes.{parts_bytes}
use Rattle.ipx_router.proofs.bytes.ReadInOneWay.{one_read}
use Rattle.ipx_router.proofs.bytes.SentIsBytes.{relayed_bytes}
use Rattle.ipx_router.proofs.bounds.LengthsOfWhatIsSent.{network_fits}
use Rattle.ipx_router.proofs.bytes.LawsOfLayouts.{Readings, Rereadings}

module _ (readings : Readings) (P : RipEntry → Type 0) where
  -- a packet is read in one way
  same_parts : (bytes : List ℕ) (p q : Parts) → IsBytes bytes → IsPacket bytes p → IsPacket bytes q → p ≡ q
  same_parts bytes p q are one other = one_read _ p q ((readings.packet_read bytes p are).1 one) ((readings.packet_read bytes q are).1 other)

  -- a packet of another type, or that came through a router, has no entries
  pub none_read : (bytes : List ℕ) (parts : Parts) → IsBytes bytes → IsPacket bytes parts
      → ((parts.header.kind ≡ rip_type → ⊥) ⊎ (parts.header.control ≡ 0 → ⊥)) → EachEntryReadIs P bytes
  none_read bytes parts are is (inl other) p said read kind control says =
      absurd (other (ap (λ (q : Parts). q.header.kind) (same_parts bytes parts p are is read) ∙ kind))
  none_read bytes parts are is (inr came) p said read kind control says =
      absurd (came (ap (λ (q : Parts). q.header.control) (same_parts bytes parts p are is read) ∙ control))

  module _ (ports : List Port) (up : List ℕ) (s : Sent) (are : IsBytes s.bytes) where
    -- routing information of the router's own
    pub routing_read : (to : Address) → IsRouting ports up to s → EachEntryIs P ports up s → EachEntryReadIs P s.bytes
    routing_read to is entries p said read kind control says =
        let same = same_parts s.bytes is.packet p are is.own.is read in
        let payload : IsBytes p.payload = (parts_bytes s.bytes p are read).payload in
        let again : IsRip p.payload is.said = subst (λ (q : Parts). IsRip q.payload is.said) same is.says in
        let one : is.said ≡ said =
        one_read _ is.said said ((readings.rip_read p.payload is.said payload).1 again) ((readings.rip_read p.payload said payload).1 says) in
        subst (λ (r : RipParts). AllByRecursion P r.entries) one (entries to is)

    -- service advertising
    advertising_read : (to : Address) → IsAdvertising ports up to s → EachEntryReadIs P s.bytes
    advertising_read to is =
        none_read s.bytes is.packet are is.own.is
        (inl (λ kind. let other : 4 ≡ 1 = sym (ap (λ (h : Header). h.kind) is.own.header) ∙ kind in omega (arith, other)))

    pub broadcast_read : IsBroadcast ports up s → EachEntryIs P ports up s → EachEntryReadIs P s.bytes
    broadcast_read (inl is) entries = routing_read (everyone (port_at ports s.port)) is entries
    broadcast_read (inr is) entries = advertising_read (every_server (port_at ports s.port)) is

    pub services_read : (to : Address) → IsAdvertising ports up to s → EachEntryReadIs P s.bytes
    services_read = advertising_read

  -- a packet that is sent on
  pub relayed_read : (again : Rereadings) (ports : List Port) (are : AllByRecursion IsPort ports) (up : List ℕ) (routes : List RouteOffer) (number : ℕ)
      (bytes : List ℕ) (s : Sent) → IsBytes bytes → IsRelayed ports up routes number bytes s → EachEntryReadIs P s.bytes
  relayed_read again ports are up routes number bytes s are_bytes (inl is) =
      let p = is.packet in
      let few = is.few in
      let read : IsPacket s.bytes (forwarded p) =
      subst (λ sent. IsPacket sent (forwarded p)) (append-nil (packet_bytes (forwarded p)) ∙ sym is.written)
      (again.forwarded_again bytes p [] is.is (omega (arith, few))) in
      none_read s.bytes (forwarded p) (relayed_bytes ports up routes number bytes s are_bytes (inl is)) read
      (inr (λ (e : p.header.control + 1 ≡ 0). omega (arith, e)))
  relayed_read again ports are up routes number bytes s are_bytes (inr is) =
      let p = is.packet in
      let crossing = propagated (port_at ports number).network (port_at ports s.port).network p in
      let read : IsPacket s.bytes crossing =
      subst (λ sent. IsPacket sent crossing) (append-nil (packet_bytes crossing) ∙ sym is.written)
      (again.propagated_again bytes p (port_at ports number).network (port_at ports s.port).network [] is.is is.crossed.free is.crossed.eight
      (network_fits ports s.port are)) in
      none_read s.bytes crossing (relayed_bytes ports up routes number bytes s are_bytes (inr is)) read
      (inr (λ (e : p.header.control + 1 ≡ 0). omega (arith, e)))
