-- Requests for single networks, and split horizon.
use Rattle.std.proofs.Common.{◌≡◌, ℕ, List, [], ◌∷◌, ◌++◌, refl, codes}
use Rattle.hex.specs.Hex.{decode_pairs}
use Rattle.ipx_wire.specs.Address.{address_bytes, address_at}
use Rattle.ipx_wire.specs.Crossed.{network_bytes, network_at}
use Rattle.ipx_wire.specs.Header.{header_bytes, header_at}
use Rattle.ipx_wire.specs.Items.{items}
use Rattle.ipx_wire.specs.Name.{name_of, name_field}
use Rattle.ipx_wire.specs.Packet.{packet_of}
use Rattle.ipx_wire.specs.Rip.{rip_of, entry_at, entry_bytes}
use Rattle.ipx_wire.specs.Sap.{sap_of}
use Rattle.ipx_wire.specs.SapEntries.{sap_entry_at}
use Rattle.ipx_wire.specs.WriteServices.{service_bytes}
use Rattle.ipx_router.specs.History.{Packet}
use Rattle.ipx_router.proofs.examples.Words.{hex, node, sent_by, out, heard_of_30}

-- node AAh asks for networks 30h, 77h and 30h
abbrev twice_and_unknown : List ℕ
twice_and_unknown = (hex (codes "FFFF0038000100000010FFFFFFFFFFFF0453000000100000000000AA" ++ codes "0453000100000030FFFFFFFF00000077FFFFFFFF00000030FFFFFFFF"))

-- it asks for network 77h alone
abbrev unknown : List ℕ
unknown = (hex (codes "FFFF0028000100000010FFFFFFFFFFFF0453000000100000000000AA" ++ codes "0453000100000077FFFFFFFF"))

-- node BBh on network 20h asks for all routes
abbrev by_b : List ℕ
by_b = (hex (codes "FFFF0028000100000020FFFFFFFFFFFF0453000000200000000000BB" ++ codes "04530001FFFFFFFFFFFFFFFF"))

-- node AAh asks for network 30h from socket 4003h
abbrev from_another_socket : List ℕ
from_another_socket = (hex (codes "FFFF0028000100000010FFFFFFFFFFFF0453000000100000000000AA" ++ codes "4003000100000030FFFFFFFF"))

-- each network that is asked for is answered once, an unknown one not at all
pub each_once : sent_by heard_of_30 (Packet 0 twice_and_unknown)
    ≡ out 0 (node 0xAA) (hex (codes "FFFF00280001000000100000000000AA045300000010000000000001" ++ codes "045300020000003000020003"))
    ∷ []
unfolding decode_pairs header_bytes address_bytes entry_bytes network_bytes service_bytes name_field packet_of header_at address_at rip_of entry_at sap_of items sap_entry_at name_of network_at
each_once = refl

-- where none is known nothing is sent
pub none_known : sent_by heard_of_30 (Packet 0 unknown)
    ≡ []
unfolding decode_pairs header_bytes address_bytes entry_bytes network_bytes service_bytes name_field packet_of header_at address_at rip_of entry_at sap_of items sap_entry_at name_of network_at
none_known = refl

-- a neighbour doesn't hear of what it told
pub split_horizon : sent_by heard_of_30 (Packet 1 by_b)
    ≡ out 1 (node 0xBB) (hex (codes "FFFF00280001000000200000000000BB045300000020000000000002" ++ codes "045300020000001000010002"))
    ∷ []
unfolding decode_pairs header_bytes address_bytes entry_bytes network_bytes service_bytes name_field packet_of header_at address_at rip_of entry_at sap_of items sap_entry_at name_of network_at
split_horizon = refl

-- the answer goes to the asker's socket
pub to_the_socket : sent_by heard_of_30 (Packet 0 from_another_socket)
    ≡ out 0 (node 0xAA) (hex (codes "FFFF00280001000000100000000000AA400300000010000000000001" ++ codes "045300020000003000020003"))
    ∷ []
unfolding decode_pairs header_bytes address_bytes entry_bytes network_bytes service_bytes name_field packet_of header_at address_at rip_of entry_at sap_of items sap_entry_at name_of network_at
to_the_socket = refl

-- node AAh asks for network 30h, and writes network 0 as its own
abbrev from_network_0 : List ℕ
from_network_0 = hex (codes "FFFF0028000100000010FFFFFFFFFFFF0453000000000000000000AA" ++ codes "0453000100000030FFFFFFFF")

-- node AAh asks for network 0 alone
abbrev for_network_0 : List ℕ
for_network_0 = hex (codes "FFFF0028000100000010FFFFFFFFFFFF0453000000100000000000AA" ++ codes "0453000100000000FFFFFFFF")

-- an asker that calls its network 0 is answered on the network of the port
pub to_the_network_of_the_port : sent_by heard_of_30 (Packet 0 from_network_0)
    ≡ out 0 (node 0xAA) (hex (codes "FFFF00280001000000100000000000AA045300000010000000000001" ++ codes "045300020000003000020003"))
    ∷ []
unfolding decode_pairs header_bytes address_bytes entry_bytes network_bytes service_bytes name_field packet_of header_at address_at rip_of entry_at sap_of items sap_entry_at name_of network_at
to_the_network_of_the_port = refl

-- network 0 isn't told to an asker: only FFFFFFFFh asks for all
pub network_0_is_no_route : sent_by heard_of_30 (Packet 0 for_network_0)
    ≡ []
unfolding decode_pairs header_bytes address_bytes entry_bytes network_bytes service_bytes name_field packet_of header_at address_at rip_of entry_at sap_of items sap_entry_at name_of network_at
network_0_is_no_route = refl
