-- Bytes that nothing counts change nothing: padding of a packet, and less than an entry behind the last one.
use Rattle.std.proofs.Common.{arith}
use Rattle.std.proofs.Common.{◌≡◌, ◌++◌, refl, replicate, Ok}
use Rattle.hex.specs.Hex.{decode_pairs}
use Rattle.ipx_wire.specs.Items.{items}
use Rattle.ipx_wire.specs.Address.{address_bytes, address_at}
use Rattle.ipx_wire.specs.Header.{header_bytes, header_at}
use Rattle.ipx_wire.specs.Packet.{IsPacket, packet_of}
use Rattle.ipx_wire.specs.Rip.{IsRip, entry_bytes, entry_at, rip_of}
use Rattle.ipx_wire.proofs.examples.GeneralRequest.{payload, bytes, parts, rip_parts, packet_is}

-- twenty bytes behind the length are padding
pub padding : packet_of (bytes ++ replicate 20 0) ≡ Ok parts
unfolding decode_pairs packet_of header_at address_at
padding = refl

-- by its layout too
pub padded_is : IsPacket (bytes ++ replicate 20 0) parts
unfolding decode_pairs header_bytes address_bytes
padded_is = record { header = packet_is.header; padding = replicate 20 0; layout = refl; counted = refl }

-- seven bytes behind the last entry are ignored
pub seven_bytes : rip_of (payload ++ replicate 7 0xff) ≡ Ok rip_parts
unfolding decode_pairs rip_of items entry_at
seven_bytes = refl

-- by their layout too
pub seven_are : IsRip (payload ++ replicate 7 0xff) rip_parts
unfolding decode_pairs entry_bytes
seven_are = grind arith
