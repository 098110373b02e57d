-- What is read from bytes is read from them in one way: the entries of routing information are those that were written.
use Rattle.std.proofs.Common.{◌≡◌, sym, ap, ◌∙◌, subst, ℕ, ◌⊎◌, inl, inr, length, List, Result, Ok, Err}
use Rattle.std.specs.List.{AllByRecursion}
use Rattle.ipx_wire.specs.Numbers.{rip_type}
use Rattle.ipx_wire.specs.Packet.{Parts, IsPacket}
use Rattle.ipx_wire.specs.Piece.{IsBytes}
use Rattle.ipx_wire.specs.Rip.{RipParts, IsRip}
use Rattle.ipx_wire.specs.Write.{own_header}
use Rattle.ipx_wire.specs.declared.address.Address.{Address}
use Rattle.ipx_wire.specs.declared.header.Header.{Header}
use Rattle.ipx_wire.specs.declared.rip.RipEntry.{RipEntry}
use Rattle.ipx_router.specs.Packets.{IsRouting, EachEntryIs}
use Rattle.ipx_router.specs.Port.{Port, port_at, own_address}
use Rattle.ipx_router.specs.Relays.{Sent}
use Rattle.ipx_router.proofs.bytes.FieldsAreBytes.{parts_bytes}
use Rattle.ipx_router.proofs.bytes.LawsOfLayouts.{Readings}

-- two that were read are the same
pub one_read : {X F : Type 0} (r : Result X F) (x y : X) → r ≡ Ok x → r ≡ Ok y → x ≡ y
one_read {X = X} {F = F} r x y first second = ap (λ (q : Result X F). elim q [ Ok z ↦ z | Err fault ↦ x ]) (sym first ∙ second)

module _ (readings : Readings) (P : RipEntry → Type 0) (ports : List Port) (up : List ℕ) (s : Sent) (are : IsBytes s.bytes)
    (parts : Parts) (read : IsPacket s.bytes parts) where
  -- the packet is the one that was written
  same_packet : (to : Address) (is : IsRouting ports up to s) → is.packet ≡ parts
  same_packet to is =
      one_read _ is.packet parts ((readings.packet_read s.bytes is.packet are).1 is.own.is) ((readings.packet_read s.bytes parts are).1 read)

  -- so its header is that of routing information
  same_header : (to : Address) (is : IsRouting ports up to s) → parts.header ≡ own_header rip_type (own_address (port_at ports s.port)) to (length is.packet.payload)
  same_header to is = ap (λ (p : Parts). p.header) (sym (same_packet to is)) ∙ is.own.header

  -- its entries are those that were written
  pub entries_as_said : (said : RipParts) → IsRip parts.payload said → AllByRecursion P said.entries → EachEntryIs P ports up s
  entries_as_said said says all to is =
      let bytes : IsBytes parts.payload = (parts_bytes s.bytes parts are read).payload in
      let again : IsRip parts.payload is.said = subst (λ (p : Parts). IsRip p.payload is.said) (same_packet to is) is.says in
      let same : is.said ≡ said =
      one_read _ is.said said ((readings.rip_read parts.payload is.said bytes).1 again) ((readings.rip_read parts.payload said bytes).1 says) in
      subst (λ (r : RipParts). AllByRecursion P r.entries) (sym same) all

  -- a packet of another type, or that came through a router, has none
  pub no_entries : ((parts.header.kind ≡ rip_type → ⊥) ⊎ (parts.header.control ≡ 0 → ⊥)) → EachEntryIs P ports up s
  no_entries (inl other) to is = absurd (other (ap (λ (h : Header). h.kind) (same_header to is)))
  no_entries (inr came) to is = absurd (came (ap (λ (h : Header). h.control) (same_header to is)))
