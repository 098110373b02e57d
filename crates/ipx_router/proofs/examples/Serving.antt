-- Services are learned, told, asked for, changed and ended.
use Rattle.std.proofs.Common.{◌≡◌, ◌-◌, ℕ, List, [], ◌∷◌, ◌++◌, refl, codes, replicate}
use Rattle.hex.specs.Hex.{decode_pairs}
use Rattle.ipx_wire.specs.Address.{address_bytes, address_at}
use Rattle.ipx_wire.specs.Crossed.{network_bytes, network_at}
use Rattle.ipx_wire.specs.Header.{header_bytes, header_at}
use Rattle.ipx_wire.specs.Items.{items}
use Rattle.ipx_wire.specs.Name.{name_of, name_field}
use Rattle.ipx_wire.specs.Packet.{packet_of}
use Rattle.ipx_wire.specs.Rip.{rip_of, entry_at, entry_bytes}
use Rattle.ipx_wire.specs.Sap.{sap_of}
use Rattle.ipx_wire.specs.SapEntries.{sap_entry_at}
use Rattle.ipx_wire.specs.WriteServices.{service_bytes}
use Rattle.ipx_table.specs.Alive.{lifetime}
use Rattle.ipx_router.specs.History.{History, Start, Stop, Second, Packet}
use Rattle.ipx_router.specs.Numbers.{period}
use Rattle.ipx_router.proofs.examples.Words.{hex, node, sent_by, out, all_nodes}

-- node BBh on network 20h tells services B and A of type 4, and C of type 5
abbrev three : List ℕ
three = (hex (codes "FFFF00E0000400000020FFFFFFFFFFFF0452000000200000000000BB" ++ codes "04520002000442") ++ replicate 50 0 ++ hex (codes "3000000000000104510002000441") ++ replicate 50 0 ++ hex (codes "3000000000000104510002000543") ++ replicate 50 0 ++ hex (codes "3000000000000104510001"))

abbrev known : History
known = Start ∷ Packet 1 three ∷ []

-- node AAh on network 10h asks for all services
abbrev all_of_them : List ℕ
all_of_them = (hex (codes "FFFF0022000400000010FFFFFFFFFFFF0452000000100000000000AA" ++ codes "40030001FFFF"))

-- for those of type 4
abbrev of_type_4 : List ℕ
of_type_4 = (hex (codes "FFFF0022000400000010FFFFFFFFFFFF0452000000100000000000AA" ++ codes "400300010004"))

-- so it does in a packet of type 0, and with bytes behind the type that it asks for
abbrev of_type_4_oddly : List ℕ
of_type_4_oddly = (hex (codes "FFFF0024000000000010FFFFFFFFFFFF0452000000100000000000AA" ++ codes "4003000100040005"))

-- for the nearest of type 4
abbrev nearest_of_type_4 : List ℕ
nearest_of_type_4 = (hex (codes "FFFF0022000400000010FFFFFFFFFFFF0452000000100000000000AA" ++ codes "400300030004"))

-- for the nearest of all
abbrev nearest_of_all : List ℕ
nearest_of_all = (hex (codes "FFFF0022000400000010FFFFFFFFFFFF0452000000100000000000AA" ++ codes "40030003FFFF"))

-- node BBh asks for all services
abbrev by_b : List ℕ
by_b = (hex (codes "FFFF0022000400000020FFFFFFFFFFFF0452000000200000000000BB" ++ codes "40030001FFFF"))

-- A has moved, and then is down
abbrev moved_and_ended : List ℕ
moved_and_ended = (hex (codes "FFFF00A0000400000020FFFFFFFFFFFF0452000000200000000000BB" ++ codes "04520002000441") ++ replicate 50 0 ++ hex (codes "3100000000000104510002000441") ++ replicate 50 0 ++ hex (codes "3100000000000104510010"))

-- A has moved
abbrev moved : List ℕ
moved = (hex (codes "FFFF0060000400000020FFFFFFFFFFFF0452000000200000000000BB" ++ codes "04520002000441") ++ replicate 50 0 ++ hex (codes "3100000000000104510002"))

-- entries with no name: none at all, and one without an end
abbrev nameless : List ℕ
nameless = (hex (codes "FFFF00A0000400000020FFFFFFFFFFFF0452000000200000000000BB" ++ codes "045200020004") ++ replicate 51 0 ++ hex (codes "30000000000001045100010004414141414141414141414141414141" ++ codes "41414141414141414141414141414141414141414141414141414141" ++ codes "41414141410000003000000000000104510001"))

-- what is newly known is told on the other port, by type and name
pub services_are_told_at_once : sent_by (Start ∷ []) (Packet 1 three)
    ≡ out 0 all_nodes (hex (codes "FFFF00E0000400000010FFFFFFFFFFFF045200000010000000000001" ++ codes "04520002000441") ++ replicate 50 0 ++ hex (codes "3000000000000104510003000442") ++ replicate 50 0 ++ hex (codes "3000000000000104510003000543") ++ replicate 50 0 ++ hex (codes "3000000000000104510002"))
    ∷ []
unfolding decode_pairs header_bytes address_bytes entry_bytes network_bytes service_bytes name_field packet_of header_at address_at rip_of entry_at sap_of items sap_entry_at name_of network_at
services_are_told_at_once = refl

-- a general query is answered with the services that are told on its port
pub all_services : sent_by known (Packet 0 all_of_them)
    ≡ out 0 (node 0xAA) (hex (codes "FFFF00E00004000000100000000000AA400300000010000000000001" ++ codes "04520002000441") ++ replicate 50 0 ++ hex (codes "3000000000000104510003000442") ++ replicate 50 0 ++ hex (codes "3000000000000104510003000543") ++ replicate 50 0 ++ hex (codes "3000000000000104510002"))
    ∷ []
unfolding decode_pairs header_bytes address_bytes entry_bytes network_bytes service_bytes name_field packet_of header_at address_at rip_of entry_at sap_of items sap_entry_at name_of network_at
all_services = refl

-- or with those of its type
pub services_of_a_type : sent_by known (Packet 0 of_type_4)
    ≡ out 0 (node 0xAA) (hex (codes "FFFF00A00004000000100000000000AA400300000010000000000001" ++ codes "04520002000441") ++ replicate 50 0 ++ hex (codes "3000000000000104510003000442") ++ replicate 50 0 ++ hex (codes "3000000000000104510003"))
    ∷ []
unfolding decode_pairs header_bytes address_bytes entry_bytes network_bytes service_bytes name_field packet_of header_at address_at rip_of entry_at sap_of items sap_entry_at name_of network_at
services_of_a_type = refl

-- the packet type makes no difference, nor what follows the type of service
pub asked_oddly : sent_by known (Packet 0 of_type_4_oddly)
    ≡ out 0 (node 0xAA) (hex (codes "FFFF00A00004000000100000000000AA400300000010000000000001" ++ codes "04520002000441") ++ replicate 50 0 ++ hex (codes "3000000000000104510003000442") ++ replicate 50 0 ++ hex (codes "3000000000000104510003"))
    ∷ []
unfolding decode_pairs header_bytes address_bytes entry_bytes network_bytes service_bytes name_field packet_of header_at address_at rip_of entry_at sap_of items sap_entry_at name_of network_at
asked_oddly = refl

-- of services equally near the smaller name is answered
pub a_tie : sent_by known (Packet 0 nearest_of_type_4)
    ≡ out 0 (node 0xAA) (hex (codes "FFFF00600004000000100000000000AA400300000010000000000001" ++ codes "04520004000441") ++ replicate 50 0 ++ hex (codes "3000000000000104510003"))
    ∷ []
unfolding decode_pairs header_bytes address_bytes entry_bytes network_bytes service_bytes name_field packet_of header_at address_at rip_of entry_at sap_of items sap_entry_at name_of network_at
a_tie = refl

-- and fewer hops come first
pub the_nearest : sent_by known (Packet 0 nearest_of_all)
    ≡ out 0 (node 0xAA) (hex (codes "FFFF00600004000000100000000000AA400300000010000000000001" ++ codes "04520004000543") ++ replicate 50 0 ++ hex (codes "3000000000000104510002"))
    ∷ []
unfolding decode_pairs header_bytes address_bytes entry_bytes network_bytes service_bytes name_field packet_of header_at address_at rip_of entry_at sap_of items sap_entry_at name_of network_at
the_nearest = refl

-- a neighbour isn't answered with what it told
pub not_to_its_teller : sent_by known (Packet 1 by_b)
    ≡ []
unfolding decode_pairs header_bytes address_bytes entry_bytes network_bytes service_bytes name_field packet_of header_at address_at rip_of entry_at sap_of items sap_entry_at name_of network_at
not_to_its_teller = refl

-- a service that moved is told with its new address
pub moved_is_told : sent_by known (Packet 1 moved)
    ≡ out 0 all_nodes (hex (codes "FFFF0060000400000010FFFFFFFFFFFF045200000010000000000001" ++ codes "04520002000441") ++ replicate 50 0 ++ hex (codes "3100000000000104510003"))
    ∷ []
unfolding decode_pairs header_bytes address_bytes entry_bytes network_bytes service_bytes name_field packet_of header_at address_at rip_of entry_at sap_of items sap_entry_at name_of network_at
moved_is_told = refl

-- one that ended is told with the address that it had before the packet
pub ended_at_its_old_address : sent_by known (Packet 1 moved_and_ended)
    ≡ out 0 all_nodes (hex (codes "FFFF0060000400000010FFFFFFFFFFFF045200000010000000000001" ++ codes "04520002000441") ++ replicate 50 0 ++ hex (codes "3000000000000104510010"))
    ∷ []
unfolding decode_pairs header_bytes address_bytes entry_bytes network_bytes service_bytes name_field packet_of header_at address_at rip_of entry_at sap_of items sap_entry_at name_of network_at
ended_at_its_old_address = refl

-- an entry without a name is skipped
pub without_a_name : sent_by (Start ∷ []) (Packet 1 nameless)
    ≡ []
unfolding decode_pairs header_bytes address_bytes entry_bytes network_bytes service_bytes name_field packet_of header_at address_at rip_of entry_at sap_of items sap_entry_at name_of network_at
without_a_name = refl

-- at a period routes go before services on each port
pub routes_before_services : sent_by (known ++ replicate (period - 1) Second) Second
    ≡ out 0 all_nodes (hex (codes "FFFF0028000100000010FFFFFFFFFFFF045300000010000000000001" ++ codes "045300020000002000010002"))
    ∷ out 0 all_nodes (hex (codes "FFFF00E0000400000010FFFFFFFFFFFF045200000010000000000001" ++ codes "04520002000441") ++ replicate 50 0 ++ hex (codes "3000000000000104510003000442") ++ replicate 50 0 ++ hex (codes "3000000000000104510003000543") ++ replicate 50 0 ++ hex (codes "3000000000000104510002"))
    ∷ out 1 all_nodes (hex (codes "FFFF0028000100000020FFFFFFFFFFFF045300000020000000000002" ++ codes "045300020000001000010002"))
    ∷ []
unfolding decode_pairs header_bytes address_bytes entry_bytes network_bytes service_bytes name_field packet_of header_at address_at rip_of entry_at sap_of items sap_entry_at name_of network_at
routes_before_services = refl

-- in the last second of their lifetime they stand as down among the rest
pub services_end : sent_by (known ++ replicate (lifetime - 1) Second) Second
    ≡ out 0 all_nodes (hex (codes "FFFF0028000100000010FFFFFFFFFFFF045300000010000000000001" ++ codes "045300020000002000010002"))
    ∷ out 0 all_nodes (hex (codes "FFFF00E0000400000010FFFFFFFFFFFF045200000010000000000001" ++ codes "04520002000441") ++ replicate 50 0 ++ hex (codes "3000000000000104510010000442") ++ replicate 50 0 ++ hex (codes "3000000000000104510010000543") ++ replicate 50 0 ++ hex (codes "3000000000000104510010"))
    ∷ out 1 all_nodes (hex (codes "FFFF0028000100000020FFFFFFFFFFFF045300000020000000000002" ++ codes "045300020000001000010002"))
    ∷ []
unfolding decode_pairs header_bytes address_bytes entry_bytes network_bytes service_bytes name_field packet_of header_at address_at rip_of entry_at sap_of items sap_entry_at name_of network_at
services_end = refl

-- a stop tells them as down too
pub a_stop_ends_services : sent_by known Stop
    ≡ out 0 all_nodes (hex (codes "FFFF0028000100000010FFFFFFFFFFFF045300000010000000000001" ++ codes "04530002000000200010FFFF"))
    ∷ out 0 all_nodes (hex (codes "FFFF00E0000400000010FFFFFFFFFFFF045200000010000000000001" ++ codes "04520002000441") ++ replicate 50 0 ++ hex (codes "3000000000000104510010000442") ++ replicate 50 0 ++ hex (codes "3000000000000104510010000543") ++ replicate 50 0 ++ hex (codes "3000000000000104510010"))
    ∷ out 1 all_nodes (hex (codes "FFFF0028000100000020FFFFFFFFFFFF045300000020000000000002" ++ codes "04530002000000100010FFFF"))
    ∷ []
unfolding decode_pairs header_bytes address_bytes entry_bytes network_bytes service_bytes name_field packet_of header_at address_at rip_of entry_at sap_of items sap_entry_at name_of network_at
a_stop_ends_services = refl

-- service A alone
abbrev a_alone : List ℕ
a_alone = hex (codes "FFFF0060000400000020FFFFFFFFFFFF0452000000200000000000BB" ++ codes "04520002000441") ++ replicate 50 0 ++ hex (codes "3000000000000104510002")

-- a service that ends between two periods is told as down at that second
pub a_service_ends_between_periods : sent_by (Start ∷ Second ∷ Packet 1 a_alone ∷ replicate (lifetime - 1) Second) Second
    ≡ out 0 all_nodes (hex (codes "FFFF0060000400000010FFFFFFFFFFFF045200000010000000000001" ++ codes "04520002000441") ++ replicate 50 0 ++ hex (codes "3000000000000104510010"))
    ∷ []
unfolding decode_pairs header_bytes address_bytes entry_bytes network_bytes service_bytes name_field packet_of header_at address_at rip_of entry_at sap_of items sap_entry_at name_of network_at
a_service_ends_between_periods = refl

-- and not before
pub not_yet_ended : sent_by (Start ∷ Second ∷ Packet 1 a_alone ∷ replicate (lifetime - 2) Second) Second
    ≡ out 0 all_nodes (hex (codes "FFFF0028000100000010FFFFFFFFFFFF045300000010000000000001" ++ codes "045300020000002000010002"))
    ∷ out 0 all_nodes (hex (codes "FFFF0060000400000010FFFFFFFFFFFF045200000010000000000001" ++ codes "04520002000441") ++ replicate 50 0 ++ hex (codes "3000000000000104510003"))
    ∷ out 1 all_nodes (hex (codes "FFFF0028000100000020FFFFFFFFFFFF045300000020000000000002" ++ codes "045300020000001000010002"))
    ∷ []
unfolding decode_pairs header_bytes address_bytes entry_bytes network_bytes service_bytes name_field packet_of header_at address_at rip_of entry_at sap_of items sap_entry_at name_of network_at
not_yet_ended = refl

-- node AAh asks for the services of type 5, and writes network 0 as its own
abbrev from_network_0 : List ℕ
from_network_0 = hex (codes "FFFF0022000400000010FFFFFFFFFFFF0452000000000000000000AA" ++ codes "400300010005")

-- an asker that calls its network 0 is answered on the network of the port
pub services_to_the_network_of_the_port : sent_by known (Packet 0 from_network_0)
    ≡ out 0 (node 0xAA) (hex (codes "FFFF00600004000000100000000000AA400300000010000000000001" ++ codes "04520002000543") ++ replicate 50 0 ++ hex (codes "3000000000000104510002"))
    ∷ []
unfolding decode_pairs header_bytes address_bytes entry_bytes network_bytes service_bytes name_field packet_of header_at address_at rip_of entry_at sap_of items sap_entry_at name_of network_at
services_to_the_network_of_the_port = refl
