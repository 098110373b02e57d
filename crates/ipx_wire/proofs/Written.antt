use Rattle.std.proofs.Common.{◌≡◌, ℕ, ◌+◌, ◌*◌, ◌<◌, ◌≤◌, ◌^◌, List, ◌++◌, length, drop, ap, ◌∙◌, arith, length-append, append-nil}
use Rattle.ipx_wire.specs.Address.{IsAddress}
use Rattle.ipx_wire.specs.Header.{IsHeader, header_bytes}
use Rattle.ipx_wire.specs.Packet.{Parts, IsPacket}
use Rattle.ipx_wire.specs.Write.{own_header, packet_bytes, rip_packet, rip_payload, rip_packet_parts}
use Rattle.ipx_wire.specs.declared.address.Address.{Address}
use Rattle.ipx_wire.specs.declared.rip.Operation.{Operation}
use Rattle.ipx_wire.specs.declared.rip.RipEntry.{RipEntry}
use Rattle.ipx_wire.proofs.Headers.{length-header_bytes}
use Rattle.ipx_wire.specs.Put.{PutsAt}
use Rattle.ipx_wire.specs.declared.header.Header.{Header}
use Rattle.ipx_wire.proofs.Entries.{length-entries}
use Rattle.ipx_wire.proofs.Puts.{puts_front, whole_put, then}

-- header and data, the header counting both, are a packet
pub is_written : (p : Parts) → IsHeader p.header → p.header.length ≡ 30 + length p.payload → IsPacket (packet_bytes p) p
is_written p header counted = grind (arith, append-nil)

-- a router's own header is in the ranges of its fields
pub own_ranges : (kind : ℕ) (from to : Address) (size : ℕ) → kind < 256 → IsAddress from → IsAddress to → size < 2 ^ 15 → IsHeader (own_header kind from to size)
own_ranges kind from to size small from_is to_is fits = grind arith

-- how long the data of a routing information packet are
pub length-rip_payload : (operation : Operation) (entries : List RipEntry) → length (rip_payload operation entries) ≡ 2 + 8 * length entries
length-rip_payload operation entries = omega (arith, length-entries entries)

-- how long a routing information packet is
pub length-rip_packet : (from to : Address) (operation : Operation) (entries : List RipEntry) → IsAddress from → IsAddress to
    → length (rip_packet from to operation entries) ≡ 32 + 8 * length entries
length-rip_packet from to operation entries from_is to_is =
    let h = (rip_packet_parts from to operation entries).header in
    let d = (rip_packet_parts from to operation entries).payload in
    omega (arith, length-append (header_bytes h) d, length-header_bytes h to_is.node from_is.node, length-rip_payload operation entries)

-- a header at the front and the data behind it are the packet
pub own_written : (p : Parts) (h : Header) (old mid new : List ℕ) (n : ℕ) → h ≡ p.header → length (header_bytes h) ≡ 30 → 30 ≤ length old
    → mid ≡ header_bytes h ++ drop 30 old → PutsAt mid 30 p.payload new → n ≡ 30 + length p.payload → new ≡ packet_bytes p ++ drop n old
own_written p h old mid new n same size room front payload count =
    let header : PutsAt old 0 (header_bytes h) mid = puts_front old (header_bytes h) mid 30 size room front in
    let next : 30 ≡ 0 + length (header_bytes h) = omega (arith, size) in
    let long : length (header_bytes h ++ p.payload) ≡ n = omega (arith, length-append (header_bytes h) p.payload, size, count) in
    whole_put old (header_bytes h ++ p.payload) new n (then header payload next) long
    ∙ ap (λ (g : Header). header_bytes g ++ p.payload ++ drop n old) same
