-- A router starts, is asked, and learns a route.
use Rattle.std.proofs.Common.{◌≡◌, [], ◌∷◌, ◌++◌, refl, codes}
use Rattle.hex.specs.Hex.{decode_pairs}
use Rattle.ipx_wire.specs.Address.{address_bytes, address_at}
use Rattle.ipx_wire.specs.Header.{header_bytes, header_at}
use Rattle.ipx_wire.specs.Items.{items}
use Rattle.ipx_wire.specs.Packet.{packet_of}
use Rattle.ipx_wire.specs.Rip.{rip_of, entry_at, entry_bytes}
use Rattle.ipx_router.specs.History.{Start, Packet}
use Rattle.ipx_router.proofs.examples.Words.{hex, sent_by, out, all_nodes, node, general_request, response, heard_of_30}

-- on each port it tells the network of the other, and asks for all routes and all services
pub start : sent_by [] Start
    ≡ out 0 all_nodes (hex (codes "FFFF0028000100000010FFFFFFFFFFFF0453000000100000000000010453" ++ codes "00020000002000010002"))
    ∷ out 0 all_nodes (hex (codes "FFFF0028000100000010FFFFFFFFFFFF0453000000100000000000010453" ++ codes "0001FFFFFFFFFFFFFFFF"))
    ∷ out 0 all_nodes (hex (codes "FFFF0022000400000010FFFFFFFFFFFF0452000000100000000000010452" ++ codes "0001FFFF"))
    ∷ out 1 all_nodes (hex (codes "FFFF0028000100000020FFFFFFFFFFFF0453000000200000000000020453" ++ codes "00020000001000010002"))
    ∷ out 1 all_nodes (hex (codes "FFFF0028000100000020FFFFFFFFFFFF0453000000200000000000020453" ++ codes "0001FFFFFFFFFFFFFFFF"))
    ∷ out 1 all_nodes (hex (codes "FFFF0022000400000020FFFFFFFFFFFF0452000000200000000000020452" ++ codes "0001FFFF"))
    ∷ []
unfolding decode_pairs header_bytes address_bytes entry_bytes
start = refl

-- a running router does nothing at a start
pub start_again : sent_by (Start ∷ []) Start ≡ []
start_again = refl

-- an asker hears of the other network
pub answer : sent_by (Start ∷ []) (Packet 0 general_request)
    ≡ out 0 (node 0xAA) (hex (codes "FFFF002800010000001000000000" ++ codes "00AA0453000000100000000000010453" ++ codes "00020000002000010002")) ∷ []
unfolding decode_pairs header_bytes address_bytes entry_bytes packet_of header_at address_at rip_of items entry_at
answer = refl

-- what is newly known is told at once on the other port
pub told_at_once : sent_by (Start ∷ []) (Packet 1 response)
    ≡ out 0 all_nodes (hex (codes "FFFF0028000100000010FFFFFFFFFFFF0453000000100000000000010453" ++ codes "00020000003000020003")) ∷ []
unfolding decode_pairs header_bytes address_bytes entry_bytes packet_of header_at address_at rip_of items entry_at
told_at_once = refl

-- and to whoever asks
pub answer_with_a_route : sent_by heard_of_30 (Packet 0 general_request)
    ≡ out 0 (node 0xAA) (hex (codes "FFFF003000010000001000000000" ++ codes "00AA0453000000100000000000010453" ++ codes "000200000020000100020000003000020003")) ∷ []
unfolding decode_pairs header_bytes address_bytes entry_bytes packet_of header_at address_at rip_of items entry_at
answer_with_a_route = refl
