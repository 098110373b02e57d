-- How many bytes the writers write.
use Rattle.std.proofs.Common.{◌≡◌, ℕ, ◌+◌, ◌<◌, ◌≤◌, Bool, List, length, refl, arith, length-append}
use Rattle.ipx_wire.specs.Address.{IsAddress}
use Rattle.ipx_wire.specs.Forward.{forwarded, propagated}
use Rattle.ipx_wire.specs.Header.{header_bytes}
use Rattle.ipx_wire.specs.Packet.{Parts, IsPacket}
use Rattle.ipx_wire.specs.Write.{packet_bytes, query_packet, query_packet_parts}
use Rattle.ipx_wire.specs.declared.address.Address.{Address}
use Rattle.ipx_wire.specs.declared.network.Network.{Network}
use Rattle.ipx_wire.proofs.Headers.{length-header_bytes}
use Rattle.ipx_wire.proofs.Rereading.{length-crossing}

-- a packet is as long as its header and its data
whole : (p : Parts) → length p.header.destination.node.0 ≡ 6 → length p.header.source.node.0 ≡ 6 → p.header.length ≡ 30 + length p.payload
    → length (packet_bytes p) ≡ p.header.length
whole p to from counted = omega (arith, counted, length-append (header_bytes p.header) p.payload, length-header_bytes p.header to from)

pub length-query_packet : (from to : Address) (nearest : Bool) (kind : ℕ) → IsAddress from → IsAddress to → length (query_packet from to nearest kind) ≡ 34
length-query_packet from to nearest kind from_is to_is = whole (query_packet_parts from to nearest kind) to_is.node from_is.node refl

pub length-forwarded : (bytes : List ℕ) (p : Parts) → IsPacket bytes p → length (packet_bytes (forwarded p)) ≡ p.header.length
length-forwarded bytes p is = whole (forwarded p) is.header.destination.node is.header.source.node is.counted

pub length-propagated : (bytes : List ℕ) (p : Parts) (arrived outgoing : Network) → IsPacket bytes p → p.header.control < 8 → 32 ≤ length p.payload
    → length (packet_bytes (propagated arrived outgoing p)) ≡ p.header.length
length-propagated bytes p arrived outgoing is free eight = omega (arith, whole, length-crossing)
