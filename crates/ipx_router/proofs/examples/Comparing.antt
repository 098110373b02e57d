-- What counts as a change: any field of a route or a service, also alone.
use Rattle.std.proofs.Common.{◌≡◌, ℕ, List, [], ◌∷◌, ◌++◌, refl, codes, replicate}
use Rattle.hex.specs.Hex.{decode_pairs}
use Rattle.ipx_wire.specs.Address.{address_bytes, address_at}
use Rattle.ipx_wire.specs.Crossed.{network_bytes, network_at}
use Rattle.ipx_wire.specs.Header.{header_bytes, header_at}
use Rattle.ipx_wire.specs.Items.{items}
use Rattle.ipx_wire.specs.Name.{name_of, name_field}
use Rattle.ipx_wire.specs.Packet.{packet_of}
use Rattle.ipx_wire.specs.Rip.{rip_of, entry_at, entry_bytes}
use Rattle.ipx_wire.specs.Sap.{sap_of}
use Rattle.ipx_wire.specs.SapEntries.{sap_entry_at}
use Rattle.ipx_wire.specs.WriteServices.{service_bytes}
use Rattle.ipx_router.specs.History.{History, Start, Packet}
use Rattle.ipx_router.proofs.examples.Words.{hex, sent_by, out, all_nodes, heard_of_30}

-- network 30h is a tick farther
abbrev more_ticks : List ℕ
more_ticks = hex (codes "FFFF0028000100000020FFFFFFFFFFFF0453000000200000000000BB" ++ codes "045300020000003000010003")

-- network 30h is a hop farther
abbrev more_hops : List ℕ
more_hops = hex (codes "FFFF0028000100000020FFFFFFFFFFFF0453000000200000000000BB" ++ codes "045300020000003000020002")

-- node CCh on network 20h has a better way there, and then one as good as the old
abbrev by_another_node : List ℕ
by_another_node = hex (codes "FFFF0030000100000020FFFFFFFFFFFF0453000000200000000000CC" ++ codes "0453000200000030000100010000003000010002")

-- node BBh on network 10h too
abbrev by_another_port : List ℕ
by_another_port = hex (codes "FFFF0030000100000010FFFFFFFFFFFF0453000000100000000000BB" ++ codes "0453000200000030000100010000003000010002")

-- only its ticks change
pub ticks_alone : sent_by heard_of_30 (Packet 1 more_ticks)
    ≡ out 0 all_nodes (hex (codes "FFFF0028000100000010FFFFFFFFFFFF045300000010000000000001" ++ codes "045300020000003000020004"))
    ∷ []
unfolding decode_pairs header_bytes address_bytes entry_bytes network_bytes service_bytes name_field packet_of header_at address_at rip_of entry_at sap_of items sap_entry_at name_of network_at
ticks_alone = refl

-- only its hops
pub hops_alone : sent_by heard_of_30 (Packet 1 more_hops)
    ≡ out 0 all_nodes (hex (codes "FFFF0028000100000010FFFFFFFFFFFF045300000010000000000001" ++ codes "045300020000003000030003"))
    ∷ []
unfolding decode_pairs header_bytes address_bytes entry_bytes network_bytes service_bytes name_field packet_of header_at address_at rip_of entry_at sap_of items sap_entry_at name_of network_at
hops_alone = refl

-- only the neighbour
pub node_alone : sent_by heard_of_30 (Packet 1 by_another_node)
    ≡ out 0 all_nodes (hex (codes "FFFF0028000100000010FFFFFFFFFFFF045300000010000000000001" ++ codes "045300020000003000020003"))
    ∷ []
unfolding decode_pairs header_bytes address_bytes entry_bytes network_bytes service_bytes name_field packet_of header_at address_at rip_of entry_at sap_of items sap_entry_at name_of network_at
node_alone = refl

-- only the port, by a neighbour of the same number: it is told where it was learned before
pub port_alone : sent_by heard_of_30 (Packet 0 by_another_port)
    ≡ out 1 all_nodes (hex (codes "FFFF0028000100000020FFFFFFFFFFFF045300000020000000000002" ++ codes "045300020000003000020003"))
    ∷ []
unfolding decode_pairs header_bytes address_bytes entry_bytes network_bytes service_bytes name_field packet_of header_at address_at rip_of entry_at sap_of items sap_entry_at name_of network_at
port_alone = refl

-- node BBh on network 20h tells service A of type 4
abbrev service : List ℕ
service = hex (codes "FFFF0060000400000020FFFFFFFFFFFF0452000000200000000000BB" ++ codes "04520002000441") ++ replicate 50 0 ++ hex (codes "3000000000000104510002")

abbrev known : History
known = Start ∷ Packet 1 service ∷ []

-- it is a hop farther
abbrev farther : List ℕ
farther = hex (codes "FFFF0060000400000020FFFFFFFFFFFF0452000000200000000000BB" ++ codes "04520002000441") ++ replicate 50 0 ++ hex (codes "3000000000000104510003")

-- it is at another node of its network
abbrev at_another_node : List ℕ
at_another_node = hex (codes "FFFF0060000400000020FFFFFFFFFFFF0452000000200000000000BB" ++ codes "04520002000441") ++ replicate 50 0 ++ hex (codes "3000000000000904510002")

-- at another socket
abbrev at_another_socket : List ℕ
at_another_socket = hex (codes "FFFF0060000400000020FFFFFFFFFFFF0452000000200000000000BB" ++ codes "04520002000441") ++ replicate 50 0 ++ hex (codes "3000000000000140050002")

-- node CCh on network 20h knows it nearer, and then as far as before
abbrev told_by_another_node : List ℕ
told_by_another_node = hex (codes "FFFF00A0000400000020FFFFFFFFFFFF0452000000200000000000CC" ++ codes "04520002000441") ++ replicate 50 0 ++ hex (codes "3000000000000104510001000441") ++ replicate 50 0 ++ hex (codes "3000000000000104510002")

-- node BBh on network 10h too
abbrev told_by_another_port : List ℕ
told_by_another_port = hex (codes "FFFF00A0000400000010FFFFFFFFFFFF0452000000100000000000BB" ++ codes "04520002000441") ++ replicate 50 0 ++ hex (codes "3000000000000104510001000441") ++ replicate 50 0 ++ hex (codes "3000000000000104510002")

-- a service that is heard again as it was isn't told
pub service_as_it_was : sent_by known (Packet 1 service)
    ≡ []
unfolding decode_pairs header_bytes address_bytes entry_bytes network_bytes service_bytes name_field packet_of header_at address_at rip_of entry_at sap_of items sap_entry_at name_of network_at
service_as_it_was = refl

-- only its hops change
pub service_hops_alone : sent_by known (Packet 1 farther)
    ≡ out 0 all_nodes (hex (codes "FFFF0060000400000010FFFFFFFFFFFF045200000010000000000001" ++ codes "04520002000441") ++ replicate 50 0 ++ hex (codes "3000000000000104510004"))
    ∷ []
unfolding decode_pairs header_bytes address_bytes entry_bytes network_bytes service_bytes name_field packet_of header_at address_at rip_of entry_at sap_of items sap_entry_at name_of network_at
service_hops_alone = refl

-- only the node of its address
pub address_node_alone : sent_by known (Packet 1 at_another_node)
    ≡ out 0 all_nodes (hex (codes "FFFF0060000400000010FFFFFFFFFFFF045200000010000000000001" ++ codes "04520002000441") ++ replicate 50 0 ++ hex (codes "3000000000000904510003"))
    ∷ []
unfolding decode_pairs header_bytes address_bytes entry_bytes network_bytes service_bytes name_field packet_of header_at address_at rip_of entry_at sap_of items sap_entry_at name_of network_at
address_node_alone = refl

-- only the socket of its address
pub address_socket_alone : sent_by known (Packet 1 at_another_socket)
    ≡ out 0 all_nodes (hex (codes "FFFF0060000400000010FFFFFFFFFFFF045200000010000000000001" ++ codes "04520002000441") ++ replicate 50 0 ++ hex (codes "3000000000000140050003"))
    ∷ []
unfolding decode_pairs header_bytes address_bytes entry_bytes network_bytes service_bytes name_field packet_of header_at address_at rip_of entry_at sap_of items sap_entry_at name_of network_at
address_socket_alone = refl

-- only the neighbour
pub service_node_alone : sent_by known (Packet 1 told_by_another_node)
    ≡ out 0 all_nodes (hex (codes "FFFF0060000400000010FFFFFFFFFFFF045200000010000000000001" ++ codes "04520002000441") ++ replicate 50 0 ++ hex (codes "3000000000000104510003"))
    ∷ []
unfolding decode_pairs header_bytes address_bytes entry_bytes network_bytes service_bytes name_field packet_of header_at address_at rip_of entry_at sap_of items sap_entry_at name_of network_at
service_node_alone = refl

-- only the port
pub service_port_alone : sent_by known (Packet 0 told_by_another_port)
    ≡ out 1 all_nodes (hex (codes "FFFF0060000400000020FFFFFFFFFFFF045200000020000000000002" ++ codes "04520002000441") ++ replicate 50 0 ++ hex (codes "3000000000000104510003"))
    ∷ []
unfolding decode_pairs header_bytes address_bytes entry_bytes network_bytes service_bytes name_field packet_of header_at address_at rip_of entry_at sap_of items sap_entry_at name_of network_at
service_port_alone = refl
