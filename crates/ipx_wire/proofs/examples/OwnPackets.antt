-- What a router of networks 10h and 20h sends on its first port as it starts.
use Rattle.std.proofs.Common.{◌≡◌, [], ◌∷◌, ◌++◌, true, false, refl, codes}
use Rattle.hex.specs.Hex.{decode_pairs}
use Rattle.ipx_wire.specs.Address.{address_bytes}
use Rattle.ipx_wire.specs.Header.{header_bytes}
use Rattle.ipx_wire.specs.Rip.{entry_bytes}
use Rattle.ipx_wire.specs.Write.{rip_packet, query_packet}
use Rattle.ipx_wire.specs.declared.rip.Operation.TheVariants.{Request, Response}
use Rattle.ipx_wire.proofs.examples.Words.{hex, node, everyone, rip_at, sap_at, entry}

-- it tells the network of its other port
pub tells : rip_packet (rip_at 0x10 (node 1)) (rip_at 0x10 everyone) Response (entry 0x20 1 2 ∷ [])
    ≡ hex (codes "FFFF0028000100000010FFFFFFFFFFFF0453000000100000000000010453" ++ codes "00020000002000010002")
unfolding decode_pairs header_bytes address_bytes entry_bytes
tells = refl

-- it asks for every route
pub asks_for_routes : rip_packet (rip_at 0x10 (node 1)) (rip_at 0x10 everyone) Request (entry 0xffffffff 0xffff 0xffff ∷ [])
    ≡ hex (codes "FFFF0028000100000010FFFFFFFFFFFF0453000000100000000000010453" ++ codes "0001FFFFFFFFFFFFFFFF")
unfolding decode_pairs header_bytes address_bytes entry_bytes
asks_for_routes = refl

-- it asks for services of every type
pub asks_for_services : query_packet (sap_at 0x10 (node 1)) (sap_at 0x10 everyone) false 0xffff
    ≡ hex (codes "FFFF0022000400000010FFFFFFFFFFFF0452000000100000000000010452" ++ codes "0001FFFF")
unfolding decode_pairs header_bytes address_bytes
asks_for_services = refl

-- a query for the nearest service of a type
pub asks_for_the_nearest : query_packet (sap_at 0x10 (node 1)) (sap_at 0x10 everyone) true 4
    ≡ hex (codes "FFFF0022000400000010FFFFFFFFFFFF0452000000100000000000010452" ++ codes "00030004")
unfolding decode_pairs header_bytes address_bytes
asks_for_the_nearest = refl
