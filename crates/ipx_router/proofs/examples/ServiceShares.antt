-- Ports at their share of the services.
use Rattle.std.proofs.Common.{◌≡◌, ℕ, List, [], ◌∷◌, ◌++◌, refl, codes, replicate}
use Rattle.hex.specs.Hex.{decode_pairs}
use Rattle.ipx_wire.specs.Address.{address_bytes, address_at}
use Rattle.ipx_wire.specs.Crossed.{network_bytes, network_at}
use Rattle.ipx_wire.specs.Header.{header_bytes, header_at}
use Rattle.ipx_wire.specs.Items.{items}
use Rattle.ipx_wire.specs.Name.{name_of, name_field}
use Rattle.ipx_wire.specs.Packet.{packet_of}
use Rattle.ipx_wire.specs.Rip.{rip_of, entry_at, entry_bytes}
use Rattle.ipx_wire.specs.Sap.{sap_of}
use Rattle.ipx_wire.specs.SapEntries.{sap_entry_at}
use Rattle.ipx_wire.specs.WriteServices.{service_bytes}
use Rattle.ipx_router.specs.Facts.{routes_held}
use Rattle.ipx_router.specs.History.{Event, History, Start, Packet}
use Rattle.ipx_router.specs.Port.{Port}
use Rattle.ipx_router.specs.Relays.{Sent}
use Rattle.ipx_router.specs.Sends.{sends}
use Rattle.ipx_router.proofs.examples.Words.{hex, node, port_on, out, all_nodes, response, held_route}

-- of eight services four may come by each port
abbrev with_shares : List Port
with_shares = record (port_on 0x10 1) { service_share = 4 } ∷ record (port_on 0x20 2) { service_share = 4 } ∷ []

abbrev sent_with_shares : History → Event → List Sent
sent_with_shares history event = sends with_shares 50 8 history event

-- node BBh on network 20h tells services A to E of type 4, three hops away
abbrev five : List ℕ
five = hex (codes "FFFF0160000400000020FFFFFFFFFFFF0452000000200000000000BB0452" ++ codes "0002000441") ++ replicate 50 0 ++ hex (codes "3000000000000104510003000442") ++ replicate 50 0 ++ hex (codes "3000000000000104510003000443") ++ replicate 50 0 ++ hex (codes "3000000000000104510003000444") ++ replicate 50 0 ++ hex (codes "3000000000000104510003000445") ++ replicate 50 0 ++ hex (codes "3000000000000104510003")

-- node AAh on network 10h tells service E
abbrev e_by_a : List ℕ
e_by_a = hex (codes "FFFF0060000400000010FFFFFFFFFFFF0452000000100000000000AA0452" ++ codes "0002000445") ++ replicate 50 0 ++ hex (codes "3000000000000104510003")

-- node BBh tells it nearer
abbrev e_nearer : List ℕ
e_nearer = hex (codes "FFFF0060000400000020FFFFFFFFFFFF0452000000200000000000BB0452" ++ codes "0002000445") ++ replicate 50 0 ++ hex (codes "3000000000000104510001")

-- node CCh on network 20h tells service A nearer
abbrev a_nearer : List ℕ
a_nearer = hex (codes "FFFF0060000400000020FFFFFFFFFFFF0452000000200000000000CC0452" ++ codes "0002000441") ++ replicate 50 0 ++ hex (codes "3000000000000104510001")

-- node AAh asks for all services
abbrev all_services : List ℕ
all_services = hex (codes "FFFF0022000400000010FFFFFFFFFFFF0452000000100000000000AA4003" ++ codes "0001FFFF")

-- port 1 is at its share
abbrev full : History
full = Start ∷ Packet 1 five ∷ []

-- four are told, and not the fifth
pub four_are_told : sent_with_shares (Start ∷ []) (Packet 1 five)
    ≡ out 0 all_nodes (hex (codes "FFFF0120000400000010FFFFFFFFFFFF0452000000100000000000010452" ++ codes "0002000441") ++ replicate 50 0 ++ hex (codes "3000000000000104510004000442") ++ replicate 50 0 ++ hex (codes "3000000000000104510004000443") ++ replicate 50 0 ++ hex (codes "3000000000000104510004000444") ++ replicate 50 0 ++ hex (codes "3000000000000104510004"))
    ∷ []
unfolding decode_pairs header_bytes address_bytes entry_bytes network_bytes service_bytes name_field packet_of header_at address_at rip_of entry_at sap_of items sap_entry_at name_of network_at
four_are_told = refl

-- nor does an asker hear of it
pub four_are_answered : sent_with_shares full (Packet 0 all_services)
    ≡ out 0 (node 0xAA) (hex (codes "FFFF01200004000000100000000000AA4003000000100000000000010452" ++ codes "0002000441") ++ replicate 50 0 ++ hex (codes "3000000000000104510004000442") ++ replicate 50 0 ++ hex (codes "3000000000000104510004000443") ++ replicate 50 0 ++ hex (codes "3000000000000104510004000444") ++ replicate 50 0 ++ hex (codes "3000000000000104510004"))
    ∷ []
unfolding decode_pairs header_bytes address_bytes entry_bytes network_bytes service_bytes name_field packet_of header_at address_at rip_of entry_at sap_of items sap_entry_at name_of network_at
four_are_answered = refl

-- by the other port it is learned
pub by_the_other_port : sent_with_shares full (Packet 0 e_by_a)
    ≡ out 1 all_nodes (hex (codes "FFFF0060000400000020FFFFFFFFFFFF0452000000200000000000020452" ++ codes "0002000445") ++ replicate 50 0 ++ hex (codes "3000000000000104510004"))
    ∷ []
unfolding decode_pairs header_bytes address_bytes entry_bytes network_bytes service_bytes name_field packet_of header_at address_at rip_of entry_at sap_of items sap_entry_at name_of network_at
by_the_other_port = refl

-- and a port at its share doesn't take it over, though it is nearer there
pub none_from_another_port : sent_with_shares (full ++ Packet 0 e_by_a ∷ []) (Packet 1 e_nearer) ≡ []
unfolding decode_pairs header_bytes address_bytes entry_bytes network_bytes service_bytes name_field packet_of header_at address_at rip_of entry_at sap_of items sap_entry_at name_of network_at
none_from_another_port = refl

-- one of its own services it may replace
pub one_of_its_own : sent_with_shares full (Packet 1 a_nearer)
    ≡ out 0 all_nodes (hex (codes "FFFF0060000400000010FFFFFFFFFFFF0452000000100000000000010452" ++ codes "0002000441") ++ replicate 50 0 ++ hex (codes "3000000000000104510002"))
    ∷ []
unfolding decode_pairs header_bytes address_bytes entry_bytes network_bytes service_bytes name_field packet_of header_at address_at rip_of entry_at sap_of items sap_entry_at name_of network_at
one_of_its_own = refl

-- routes have shares of their own: a port at its share of services still learns routes
pub routes_have_shares_of_their_own : routes_held with_shares 50 (full ++ Packet 1 response ∷ []) ≡ held_route 0x30 1 2 1 (node 0xBB) 0 ∷ []
unfolding decode_pairs header_bytes address_bytes entry_bytes network_bytes service_bytes name_field packet_of header_at address_at rip_of entry_at sap_of items sap_entry_at name_of network_at
routes_have_shares_of_their_own = refl
