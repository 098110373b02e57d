-- The default route: it serves packets for networks of which nothing is known, and is told as any other route.
use Rattle.std.proofs.Common.{◌≡◌, ◌-◌, ℕ, List, [], ◌∷◌, ◌++◌, refl, codes, replicate, Option, Some}
use Rattle.hex.specs.Hex.{decode_pairs}
use Rattle.ipx_wire.specs.Address.{address_bytes, address_at}
use Rattle.ipx_wire.specs.Crossed.{network_bytes, network_at}
use Rattle.ipx_wire.specs.Header.{header_bytes, header_at}
use Rattle.ipx_wire.specs.Items.{items}
use Rattle.ipx_wire.specs.Name.{name_of, name_field}
use Rattle.ipx_wire.specs.Packet.{packet_of}
use Rattle.ipx_wire.specs.Rip.{rip_of, entry_at, entry_bytes}
use Rattle.ipx_wire.specs.Sap.{sap_of}
use Rattle.ipx_wire.specs.SapEntries.{sap_entry_at}
use Rattle.ipx_wire.specs.WriteServices.{service_bytes}
use Rattle.ipx_router.specs.Facts.{routes_held, offers}
use Rattle.ipx_router.specs.History.{History, Start, Second, Packet, PortDown, running, ports_up}
use Rattle.ipx_router.specs.Numbers.{period}
use Rattle.ipx_router.specs.Why.{why}
use Rattle.ipx_router.specs.declared.why.Why.TheVariants.{FarSide, NoRoute, TooLong}
use Rattle.ipx_router.specs.declared.why.Why.{Why}
use Rattle.ipx_router.proofs.examples.Words.{hex, node, three_ports, sent_by, sent_by_three, dropped_by, out, all_nodes, general_request, heard_of_30}

-- node BBh on network 20h tells network FFFFFFFEh
abbrev default_by_b : List ℕ
default_by_b = hex (codes "FFFF0028000100000020FFFFFFFFFFFF0453000000200000000000BB0453" ++ codes "0002FFFFFFFE00010002")

-- node BBh on network 20h reaches it fifteen hops away
abbrev default_far : List ℕ
default_far = hex (codes "FFFF0028000100000020FFFFFFFFFFFF0453000000200000000000BB0453" ++ codes "0002FFFFFFFE000F0002")

-- node CCh on network 20h tells it
abbrev default_by_c : List ℕ
default_by_c = hex (codes "FFFF0028000100000020FFFFFFFFFFFF0453000000200000000000CC0453" ++ codes "0002FFFFFFFE00010002")

-- node DDh on network 40h tells it
abbrev default_by_d : List ℕ
default_by_d = hex (codes "FFFF0028000100000040FFFFFFFFFFFF0453000000400000000000DD0453" ++ codes "0002FFFFFFFE00010002")

-- node BBh reaches it no longer
abbrev default_withdrawn : List ℕ
default_withdrawn = hex (codes "FFFF0028000100000020FFFFFFFFFFFF0453000000200000000000BB0453" ++ codes "0002FFFFFFFE0010FFFF")

-- network 30h is known by node BBh, and the default route by node CCh
abbrev with_default : History
with_default = heard_of_30 ++ Packet 1 default_by_c ∷ []

-- from node AAh on network 10h to node CCh on network 99h, of which nobody told
abbrev unknown : List ℕ
unknown = hex (codes "FFFF001E0000000000990000000000CC4003000000100000000000AA4003")

-- from node BBh on network 20h, to the same
abbrev unknown_from_20 : List ℕ
unknown_from_20 = hex (codes "FFFF001E0000000000990000000000CC4003000000200000000000BB4003")

-- 577 bytes to the same
abbrev long_to_unknown : List ℕ
long_to_unknown = hex (codes "FFFF02410000000000990000000000CC4003000000100000000000AA4003") ++ replicate 547 0

-- to network 30h
abbrev to_30 : List ℕ
to_30 = hex (codes "FFFF001E0000000000300000000000CC4003000000100000000000AA4003")

-- to network FFFFFFFFh
abbrev to_all_routes : List ℕ
to_all_routes = hex (codes "FFFF001E0000FFFFFFFF0000000000CC4003000000100000000000AA4003")

-- to network FFFFFFFEh
abbrev to_the_default : List ℕ
to_the_default = hex (codes "FFFF001E0000FFFFFFFE0000000000CC4003000000100000000000AA4003")

-- to network 20h
abbrev to_20 : List ℕ
to_20 = hex (codes "FFFF001E0000000000200000000000CC4003000000100000000000AA4003")

-- to node 2 on network 20h, which is port 1
abbrev to_the_port : List ℕ
to_the_port = hex (codes "FFFF001E0000000000200000000000024003000000100000000000AA4003")

-- node AAh asks for network FFFFFFFEh
abbrev asked_for_default : List ℕ
asked_for_default = hex (codes "FFFF0028000100000010FFFFFFFFFFFF0453000000100000000000AA0453" ++ codes "0001FFFFFFFEFFFFFFFF")

-- a packet for an unknown network goes to the neighbour that told the default route
pub used : sent_by (heard_of_30 ++ Packet 1 default_by_b ∷ []) (Packet 0 unknown)
    ≡ out 1 (node 0xBB) (hex (codes "FFFF001E0100000000990000000000CC4003000000100000000000AA4003"))
    ∷ []
unfolding decode_pairs header_bytes address_bytes entry_bytes network_bytes service_bytes name_field packet_of header_at address_at rip_of entry_at sap_of items sap_entry_at name_of network_at
used = refl

-- one for a network that is held goes its own way
pub a_held_network_goes_its_way : sent_by with_default (Packet 0 to_30)
    ≡ out 1 (node 0xBB) (hex (codes "FFFF001E0100000000300000000000CC4003000000100000000000AA4003"))
    ∷ []
unfolding decode_pairs header_bytes address_bytes entry_bytes network_bytes service_bytes name_field packet_of header_at address_at rip_of entry_at sap_of items sap_entry_at name_of network_at
a_held_network_goes_its_way = refl

-- only the rest goes the default route
pub the_rest_goes_by_default : sent_by with_default (Packet 0 unknown)
    ≡ out 1 (node 0xCC) (hex (codes "FFFF001E0100000000990000000000CC4003000000100000000000AA4003"))
    ∷ []
unfolding decode_pairs header_bytes address_bytes entry_bytes network_bytes service_bytes name_field packet_of header_at address_at rip_of entry_at sap_of items sap_entry_at name_of network_at
the_rest_goes_by_default = refl

-- it may leave on the port on which it came
pub back_where_it_came_from : sent_by with_default (Packet 1 unknown_from_20)
    ≡ out 1 (node 0xCC) (hex (codes "FFFF001E0100000000990000000000CC4003000000200000000000BB4003"))
    ∷ []
unfolding decode_pairs header_bytes address_bytes entry_bytes network_bytes service_bytes name_field packet_of header_at address_at rip_of entry_at sap_of items sap_entry_at name_of network_at
back_where_it_came_from = refl

-- network FFFFFFFEh itself is served by it, too
pub to_the_default_itself : sent_by with_default (Packet 0 to_the_default)
    ≡ out 1 (node 0xCC) (hex (codes "FFFF001E0100FFFFFFFE0000000000CC4003000000100000000000AA4003"))
    ∷ []
unfolding decode_pairs header_bytes address_bytes entry_bytes network_bytes service_bytes name_field packet_of header_at address_at rip_of entry_at sap_of items sap_entry_at name_of network_at
to_the_default_itself = refl

-- network FFFFFFFFh isn't
pub never_for_all_routes : dropped_by with_default 0 to_all_routes ≡ Some NoRoute
unfolding decode_pairs header_bytes address_bytes entry_bytes network_bytes service_bytes name_field packet_of header_at address_at rip_of entry_at sap_of items sap_entry_at name_of network_at
never_for_all_routes = refl

-- the default route is by port 2, and port 1 is down
abbrev default_and_down : History
default_and_down = Start ∷ Packet 2 default_by_d ∷ PortDown 1 ∷ []

-- why the router with three ports drops a packet on port 0 while port 1 is down
abbrev dropped_by_three : List ℕ → Option Why
dropped_by_three bytes =
    why three_ports (ports_up three_ports default_and_down) (offers (routes_held three_ports 256 default_and_down))
    (running default_and_down) 0 bytes

-- nor is the network of a port that is down
pub never_for_a_down_port : dropped_by_three to_20 ≡ Some NoRoute
unfolding decode_pairs header_bytes address_bytes entry_bytes network_bytes service_bytes name_field packet_of header_at address_at rip_of entry_at sap_of items sap_entry_at name_of network_at
never_for_a_down_port = refl

-- so nothing is sent
pub nothing_leaves_for_a_down_port : sent_by_three default_and_down (Packet 0 to_20) ≡ []
unfolding decode_pairs header_bytes address_bytes entry_bytes network_bytes service_bytes name_field packet_of header_at address_at rip_of entry_at sap_of items sap_entry_at name_of network_at
nothing_leaves_for_a_down_port = refl

-- and the port is still the router's own
pub a_down_port_is_its_own : dropped_by_three to_the_port ≡ Some FarSide
unfolding decode_pairs header_bytes address_bytes entry_bytes network_bytes service_bytes name_field packet_of header_at address_at rip_of entry_at sap_of items sap_entry_at name_of network_at
a_down_port_is_its_own = refl

-- an unknown network is
pub used_beside_a_down_port : sent_by_three default_and_down (Packet 0 unknown)
    ≡ out 2 (node 0xDD) (hex (codes "FFFF001E0100000000990000000000CC4003000000100000000000AA4003"))
    ∷ []
unfolding decode_pairs header_bytes address_bytes entry_bytes network_bytes service_bytes name_field packet_of header_at address_at rip_of entry_at sap_of items sap_entry_at name_of network_at
used_beside_a_down_port = refl

-- the port of the default route says how long a packet may be
pub too_long_for_the_default : dropped_by with_default 0 long_to_unknown ≡ Some TooLong
unfolding decode_pairs header_bytes address_bytes entry_bytes network_bytes service_bytes name_field packet_of header_at address_at rip_of entry_at sap_of items sap_entry_at name_of network_at
too_long_for_the_default = refl

-- once it is withdrawn there is no way
pub withdrawn : dropped_by (heard_of_30 ++ Packet 1 default_by_b ∷ Packet 1 default_withdrawn ∷ []) 0 unknown ≡ Some NoRoute
unfolding decode_pairs header_bytes address_bytes entry_bytes network_bytes service_bytes name_field packet_of header_at address_at rip_of entry_at sap_of items sap_entry_at name_of network_at
withdrawn = refl

-- nor where its port is down
pub its_port_is_down : dropped_by (with_default ++ PortDown 1 ∷ []) 0 unknown ≡ Some NoRoute
unfolding decode_pairs header_bytes address_bytes entry_bytes network_bytes service_bytes name_field packet_of header_at address_at rip_of entry_at sap_of items sap_entry_at name_of network_at
its_port_is_down = refl

-- it is told at once
pub told_at_once : sent_by (Start ∷ []) (Packet 1 default_by_b)
    ≡ out 0 all_nodes (hex (codes "FFFF0028000100000010FFFFFFFFFFFF0453000000100000000000010453" ++ codes "0002FFFFFFFE00020003"))
    ∷ []
unfolding decode_pairs header_bytes address_bytes entry_bytes network_bytes service_bytes name_field packet_of header_at address_at rip_of entry_at sap_of items sap_entry_at name_of network_at
told_at_once = refl

-- and as dead when it is withdrawn
pub told_as_dead : sent_by (Start ∷ Packet 1 default_by_b ∷ []) (Packet 1 default_withdrawn)
    ≡ out 0 all_nodes (hex (codes "FFFF0028000100000010FFFFFFFFFFFF0453000000100000000000010453" ++ codes "0002FFFFFFFE0010FFFF"))
    ∷ []
unfolding decode_pairs header_bytes address_bytes entry_bytes network_bytes service_bytes name_field packet_of header_at address_at rip_of entry_at sap_of items sap_entry_at name_of network_at
told_as_dead = refl

-- an asker for all routes hears of it, the last by number
pub told_to_whoever_asks : sent_by (Start ∷ Packet 1 default_by_b ∷ []) (Packet 0 general_request)
    ≡ out 0 (node 0xAA) (hex (codes "FFFF00300001000000100000000000AA0453000000100000000000010453" ++ codes "00020000002000010002FFFFFFFE00020003"))
    ∷ []
unfolding decode_pairs header_bytes address_bytes entry_bytes network_bytes service_bytes name_field packet_of header_at address_at rip_of entry_at sap_of items sap_entry_at name_of network_at
told_to_whoever_asks = refl

-- so does one that asks for it alone
pub asked_for : sent_by with_default (Packet 0 asked_for_default)
    ≡ out 0 (node 0xAA) (hex (codes "FFFF00280001000000100000000000AA0453000000100000000000010453" ++ codes "0002FFFFFFFE00020003"))
    ∷ []
unfolding decode_pairs header_bytes address_bytes entry_bytes network_bytes service_bytes name_field packet_of header_at address_at rip_of entry_at sap_of items sap_entry_at name_of network_at
asked_for = refl

-- at a period it is told among the rest
pub told_at_a_period : sent_by (Start ∷ Packet 1 default_by_b ∷ replicate (period - 1) Second) Second
    ≡ out 0 all_nodes (hex (codes "FFFF0030000100000010FFFFFFFFFFFF0453000000100000000000010453" ++ codes "00020000002000010002FFFFFFFE00020003"))
    ∷ out 1 all_nodes (hex (codes "FFFF0028000100000020FFFFFFFFFFFF0453000000200000000000020453" ++ codes "00020000001000010002"))
    ∷ []
unfolding decode_pairs header_bytes address_bytes entry_bytes network_bytes service_bytes name_field packet_of header_at address_at rip_of entry_at sap_of items sap_entry_at name_of network_at
told_at_a_period = refl

-- fifteen hops away it is used as any other route, though no asker hears of it
pub fifteen_hops_away : sent_by (Start ∷ Packet 1 default_far ∷ []) (Packet 0 unknown)
    ≡ out 1 (node 0xBB) (hex (codes "FFFF001E0100000000990000000000CC4003000000100000000000AA4003"))
    ∷ []
unfolding decode_pairs header_bytes address_bytes entry_bytes network_bytes service_bytes name_field packet_of header_at address_at rip_of entry_at sap_of items sap_entry_at name_of network_at
fifteen_hops_away = refl

pub fifteen_hops_away_unasked : sent_by (Start ∷ Packet 1 default_far ∷ []) (Packet 0 general_request)
    ≡ out 0 (node 0xAA) (hex (codes "FFFF00280001000000100000000000AA0453000000100000000000010453" ++ codes "00020000002000010002"))
    ∷ []
unfolding decode_pairs header_bytes address_bytes entry_bytes network_bytes service_bytes name_field packet_of header_at address_at rip_of entry_at sap_of items sap_entry_at name_of network_at
fifteen_hops_away_unasked = refl
