-- Seconds and a stop while a port is down: nothing is told on it, and nothing of its network.
use Rattle.std.proofs.Common.{◌≡◌, ◌-◌, [], ◌∷◌, ◌++◌, refl, codes, replicate}
use Rattle.hex.specs.Hex.{decode_pairs}
use Rattle.ipx_wire.specs.Address.{address_bytes, address_at}
use Rattle.ipx_wire.specs.Crossed.{network_bytes, network_at}
use Rattle.ipx_wire.specs.Header.{header_bytes, header_at}
use Rattle.ipx_wire.specs.Items.{items}
use Rattle.ipx_wire.specs.Name.{name_of, name_field}
use Rattle.ipx_wire.specs.Packet.{packet_of}
use Rattle.ipx_wire.specs.Rip.{rip_of, entry_at, entry_bytes}
use Rattle.ipx_wire.specs.Sap.{sap_of}
use Rattle.ipx_wire.specs.SapEntries.{sap_entry_at}
use Rattle.ipx_wire.specs.WriteServices.{service_bytes}
use Rattle.ipx_table.specs.Alive.{lifetime}
use Rattle.ipx_router.specs.Facts.{routes_held}
use Rattle.ipx_router.specs.History.{History, Start, Stop, Second, Packet, PortDown, PortUp}
use Rattle.ipx_router.specs.Numbers.{period}
use Rattle.ipx_router.proofs.examples.Words.{hex, node, two_ports, sent_by, sent_by_three, out, all_nodes, response, heard_of_30, held_route, over_the_third}

-- port 1 is down, and network 50h is known by port 2
abbrev one_down : History
one_down = Start ∷ Packet 2 over_the_third ∷ PortDown 1 ∷ []

-- between two periods nothing is told
pub a_quiet_second : sent_by_three one_down Second ≡ []
unfolding decode_pairs header_bytes address_bytes entry_bytes network_bytes service_bytes name_field packet_of header_at address_at rip_of entry_at sap_of items sap_entry_at name_of network_at
a_quiet_second = refl

-- at a period all is told on the ports that are up, but for the network of the one that is down
pub a_period : sent_by_three (one_down ++ replicate (period - 1) Second) Second
    ≡ out 0 all_nodes (hex (codes "FFFF0030000100000010FFFFFFFFFFFF0453000000100000000000010453" ++ codes "000200000040000100020000005000020003"))
    ∷ out 2 all_nodes (hex (codes "FFFF0028000100000040FFFFFFFFFFFF0453000000400000000000040453" ++ codes "00020000001000010002"))
    ∷ []
unfolding decode_pairs header_bytes address_bytes entry_bytes network_bytes service_bytes name_field packet_of header_at address_at rip_of entry_at sap_of items sap_entry_at name_of network_at
a_period = refl

-- a port that goes down doesn't change the period
pub the_period_stays : sent_by_three (Start ∷ replicate 30 Second ++ Packet 2 over_the_third ∷ replicate 20 Second ++ PortDown 1 ∷ replicate 9 Second) Second
    ≡ out 0 all_nodes (hex (codes "FFFF0030000100000010FFFFFFFFFFFF0453000000100000000000010453" ++ codes "000200000040000100020000005000020003"))
    ∷ out 2 all_nodes (hex (codes "FFFF0028000100000040FFFFFFFFFFFF0453000000400000000000040453" ++ codes "00020000001000010002"))
    ∷ []
unfolding decode_pairs header_bytes address_bytes entry_bytes network_bytes service_bytes name_field packet_of header_at address_at rip_of entry_at sap_of items sap_entry_at name_of network_at
the_period_stays = refl

-- nor does one that comes up
pub the_period_stays_again : sent_by (Start ∷ PortDown 1 ∷ replicate 30 Second ++ PortUp 1 ∷ replicate 29 Second) Second
    ≡ out 0 all_nodes (hex (codes "FFFF0028000100000010FFFFFFFFFFFF0453000000100000000000010453" ++ codes "00020000002000010002"))
    ∷ out 1 all_nodes (hex (codes "FFFF0028000100000020FFFFFFFFFFFF0453000000200000000000020453" ++ codes "00020000001000010002"))
    ∷ []
unfolding decode_pairs header_bytes address_bytes entry_bytes network_bytes service_bytes name_field packet_of header_at address_at rip_of entry_at sap_of items sap_entry_at name_of network_at
the_period_stays_again = refl

-- where the other port of two is down there is nothing to tell
pub nothing_to_tell : sent_by (heard_of_30 ++ PortDown 1 ∷ replicate (period - 1) Second) Second ≡ []
unfolding decode_pairs header_bytes address_bytes entry_bytes network_bytes service_bytes name_field packet_of header_at address_at rip_of entry_at sap_of items sap_entry_at name_of network_at
nothing_to_tell = refl

-- a route that expires isn't told on a down port
pub an_end_on_a_down_port : sent_by_three (Start ∷ Second ∷ Packet 2 over_the_third ∷ PortDown 1 ∷ replicate (lifetime - 1) Second) Second
    ≡ out 0 all_nodes (hex (codes "FFFF0028000100000010FFFFFFFFFFFF0453000000100000000000010453" ++ codes "0002000000500010FFFF"))
    ∷ []
unfolding decode_pairs header_bytes address_bytes entry_bytes network_bytes service_bytes name_field packet_of header_at address_at rip_of entry_at sap_of items sap_entry_at name_of network_at
an_end_on_a_down_port = refl

-- where it would have been told on both others
pub an_end_on_both : sent_by_three (Start ∷ Second ∷ Packet 2 over_the_third ∷ replicate (lifetime - 1) Second) Second
    ≡ out 0 all_nodes (hex (codes "FFFF0028000100000010FFFFFFFFFFFF0453000000100000000000010453" ++ codes "0002000000500010FFFF"))
    ∷ out 1 all_nodes (hex (codes "FFFF0028000100000020FFFFFFFFFFFF0453000000200000000000020453" ++ codes "0002000000500010FFFF"))
    ∷ []
unfolding decode_pairs header_bytes address_bytes entry_bytes network_bytes service_bytes name_field packet_of header_at address_at rip_of entry_at sap_of items sap_entry_at name_of network_at
an_end_on_both = refl

-- what ended with the port doesn't end again with its lifetime
pub no_second_end : sent_by (Start ∷ Second ∷ Packet 1 response ∷ PortDown 1 ∷ replicate (lifetime - 1) Second) Second ≡ []
unfolding decode_pairs header_bytes address_bytes entry_bytes network_bytes service_bytes name_field packet_of header_at address_at rip_of entry_at sap_of items sap_entry_at name_of network_at
no_second_end = refl

-- what is learned after the port came up is as old as that
pub a_younger_route : routes_held two_ports 256 (heard_of_30 ++ replicate 100 Second ++ PortDown 1 ∷ PortUp 1 ∷ Packet 1 response ∷ replicate 80 Second) ≡ held_route 0x30 1 2 1 (node 0xBB) 80 ∷ []
unfolding decode_pairs header_bytes address_bytes entry_bytes network_bytes service_bytes name_field packet_of header_at address_at rip_of entry_at sap_of items sap_entry_at name_of network_at
a_younger_route = refl

-- at a stop all that was told is told as dead on the ports that were up
pub a_stop : sent_by_three one_down Stop
    ≡ out 0 all_nodes (hex (codes "FFFF0030000100000010FFFFFFFFFFFF0453000000100000000000010453" ++ codes "0002000000400010FFFF000000500010FFFF"))
    ∷ out 2 all_nodes (hex (codes "FFFF0028000100000040FFFFFFFFFFFF0453000000400000000000040453" ++ codes "0002000000100010FFFF"))
    ∷ []
unfolding decode_pairs header_bytes address_bytes entry_bytes network_bytes service_bytes name_field packet_of header_at address_at rip_of entry_at sap_of items sap_entry_at name_of network_at
a_stop = refl
