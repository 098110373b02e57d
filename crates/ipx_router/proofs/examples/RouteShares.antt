-- Ports at their share of the routes: what is refused for a share is told nowhere, and what is held stays.
use Rattle.std.proofs.Common.{◌≡◌, ℕ, ◌+◌, List, [], ◌∷◌, ◌++◌, map, refl, codes, replicate}
use Rattle.hex.specs.Hex.{decode_pairs}
use Rattle.ipx_table.specs.declared.held.Held.{Held}
use Rattle.ipx_wire.specs.Address.{address_bytes, address_at}
use Rattle.ipx_wire.specs.Crossed.{network_bytes, network_at}
use Rattle.ipx_wire.specs.Header.{header_bytes, header_at}
use Rattle.ipx_wire.specs.Items.{items}
use Rattle.ipx_wire.specs.Name.{name_of, name_field}
use Rattle.ipx_wire.specs.Packet.{packet_of}
use Rattle.ipx_wire.specs.Rip.{rip_of, entry_at, entry_bytes}
use Rattle.ipx_wire.specs.Sap.{sap_of}
use Rattle.ipx_wire.specs.SapEntries.{sap_entry_at}
use Rattle.ipx_wire.specs.WriteServices.{service_bytes}
use Rattle.ipx_wire.specs.declared.node.Node.{Node}
use Rattle.ipx_router.specs.Facts.{routes_held}
use Rattle.ipx_router.specs.History.{Event, History, Start, Second, Packet}
use Rattle.ipx_router.specs.Port.{Port, numbers}
use Rattle.ipx_router.specs.Relays.{Sent}
use Rattle.ipx_router.specs.Sends.{sends}
use Rattle.ipx_router.specs.declared.route_offer.RouteOffer.{RouteOffer}
use Rattle.ipx_router.proofs.examples.Words.{hex, node, port_on, out, all_nodes, held_route, entries, fifty}

-- of fifty routes thirty may come by port 0 and twenty by port 1
abbrev with_shares : List Port
with_shares = record (port_on 0x10 1) { route_share = 30 } ∷ record (port_on 0x20 2) { route_share = 20 } ∷ []

abbrev sent_with_shares : History → Event → List Sent
sent_with_shares history event = sends with_shares 50 8 history event

abbrev held_with_shares : History → List (Held RouteOffer)
held_with_shares history = routes_held with_shares 50 history

-- node BBh on network 20h tells networks 201h to 214h
abbrev twenty : List ℕ
twenty = hex (codes "FFFF00C0000100000020FFFFFFFFFFFF0453000000200000000000BB0453" ++ codes "0002") ++ entries 2 1 20 1 2

-- it tells a better way to network 101h
abbrev better_by_b : List ℕ
better_by_b = hex (codes "FFFF0028000100000020FFFFFFFFFFFF0453000000200000000000BB0453" ++ codes "00020000010100010001")

-- node CCh on network 20h tells a better way to network 201h
abbrev better_by_c : List ℕ
better_by_c = hex (codes "FFFF0028000100000020FFFFFFFFFFFF0453000000200000000000CC0453" ++ codes "00020000020100010001")

-- node BBh withdraws network 214h and tells networks 215h and 216h
abbrev one_for_another : List ℕ
one_for_another = hex (codes "FFFF0038000100000020FFFFFFFFFFFF0453000000200000000000BB0453" ++ codes "0002000002140010FFFF00000215000100020000021600010002")

-- this many routes in a row that a neighbour told, one hop and two ticks away, at an age
abbrev held_row : (number first count port : ℕ) → Node → ℕ → List (Held RouteOffer)
held_row number first count port by age = map (λ k. held_route (number + first + k) 1 2 port by age) (numbers count)

-- both ports are at their share
abbrev full : History
full = Start ∷ Packet 0 fifty ∷ Packet 1 twenty ∷ []

-- the first thirty are held
pub the_first_thirty : held_with_shares (Start ∷ Packet 0 fifty ∷ []) ≡ held_row 0x100 1 30 0 (node 0xAA) 0
unfolding decode_pairs header_bytes address_bytes entry_bytes network_bytes service_bytes name_field packet_of header_at address_at rip_of entry_at sap_of items sap_entry_at name_of network_at
the_first_thirty = refl

-- and told, and no more of them
pub told_of_thirty : sent_with_shares (Start ∷ []) (Packet 0 fifty)
    ≡ out 1 all_nodes (hex (codes "FFFF0110000100000020FFFFFFFFFFFF0453000000200000000000020453" ++ codes "0002") ++ entries 1 1 30 2 3)
    ∷ []
unfolding decode_pairs header_bytes address_bytes entry_bytes network_bytes service_bytes name_field packet_of header_at address_at rip_of entry_at sap_of items sap_entry_at name_of network_at
told_of_thirty = refl

-- the other port has its share still
pub told_of_twenty : sent_with_shares (Start ∷ Packet 0 fifty ∷ []) (Packet 1 twenty)
    ≡ out 0 all_nodes (hex (codes "FFFF00C0000100000010FFFFFFFFFFFF0453000000100000000000010453" ++ codes "0002") ++ entries 2 1 20 2 3)
    ∷ []
unfolding decode_pairs header_bytes address_bytes entry_bytes network_bytes service_bytes name_field packet_of header_at address_at rip_of entry_at sap_of items sap_entry_at name_of network_at
told_of_twenty = refl

-- then fifty are held
pub all_fifty : held_with_shares full ≡ held_row 0x100 1 30 0 (node 0xAA) 0 ++ held_row 0x200 1 20 1 (node 0xBB) 0
unfolding decode_pairs header_bytes address_bytes entry_bytes network_bytes service_bytes name_field packet_of header_at address_at rip_of entry_at sap_of items sap_entry_at name_of network_at
all_fifty = refl

-- a port at its share takes no route from another port, though its way is better
pub none_from_another_port : sent_with_shares (full ++ replicate 10 Second) (Packet 1 better_by_b) ≡ []
unfolding decode_pairs header_bytes address_bytes entry_bytes network_bytes service_bytes name_field packet_of header_at address_at rip_of entry_at sap_of items sap_entry_at name_of network_at
none_from_another_port = refl

-- the route stays, with its age
pub it_stays_with_its_age : held_with_shares (full ++ replicate 10 Second ++ Packet 1 better_by_b ∷ []) ≡ held_row 0x100 1 30 0 (node 0xAA) 10 ++ held_row 0x200 1 20 1 (node 0xBB) 10
unfolding decode_pairs header_bytes address_bytes entry_bytes network_bytes service_bytes name_field packet_of header_at address_at rip_of entry_at sap_of items sap_entry_at name_of network_at
it_stays_with_its_age = refl

-- one of its own routes it may replace
pub one_of_its_own : sent_with_shares full (Packet 1 better_by_c)
    ≡ out 0 all_nodes (hex (codes "FFFF0028000100000010FFFFFFFFFFFF0453000000100000000000010453" ++ codes "00020000020100020002"))
    ∷ []
unfolding decode_pairs header_bytes address_bytes entry_bytes network_bytes service_bytes name_field packet_of header_at address_at rip_of entry_at sap_of items sap_entry_at name_of network_at
one_of_its_own = refl

-- which is held in its place
pub the_better_one_is_held : held_with_shares (full ++ Packet 1 better_by_c ∷ []) ≡ held_row 0x100 1 30 0 (node 0xAA) 0 ++ held_route 0x201 1 1 1 (node 0xCC) 0 ∷ held_row 0x200 2 19 1 (node 0xBB) 0
unfolding decode_pairs header_bytes address_bytes entry_bytes network_bytes service_bytes name_field packet_of header_at address_at rip_of entry_at sap_of items sap_entry_at name_of network_at
the_better_one_is_held = refl

-- what ends makes room for one
pub room_for_one : sent_with_shares full (Packet 1 one_for_another)
    ≡ out 0 all_nodes (hex (codes "FFFF0030000100000010FFFFFFFFFFFF0453000000100000000000010453" ++ codes "0002000002140010FFFF0000021500020003"))
    ∷ []
unfolding decode_pairs header_bytes address_bytes entry_bytes network_bytes service_bytes name_field packet_of header_at address_at rip_of entry_at sap_of items sap_entry_at name_of network_at
room_for_one = refl
