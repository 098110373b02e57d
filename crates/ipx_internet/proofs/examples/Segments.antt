-- Two routers on one segment, network 20h: 10h on the one side, 30h on the other.
use Rattle.std.proofs.Common.{◌≡◌, refl, List, [], ◌∷◌, arith}
use Rattle.ipx_wire.specs.Address.{address_bytes, address_at}
use Rattle.ipx_wire.specs.Crossed.{network_bytes, network_at}
use Rattle.ipx_wire.specs.Items.{items}
use Rattle.ipx_wire.specs.Header.{header_bytes, header_at}
use Rattle.ipx_wire.specs.Packet.{packet_of}
use Rattle.ipx_wire.specs.Rip.{rip_of}
use Rattle.ipx_wire.specs.Sap.{sap_of}
use Rattle.ipx_router.specs.Port.{broadcast}
use Rattle.ipx_internet.specs.Delivery.{delivered}
use Rattle.ipx_internet.specs.Internet.{NodesDiffer}
use Rattle.ipx_internet.specs.Most.{most}
use Rattle.ipx_internet.specs.Tree.{Router, net_of, root, levels}
use Rattle.ipx_internet.proofs.examples.Words.{node, port_on, route, running, plain, to_all, at, copy}

abbrev segment : List Router
segment =
    running (port_on 0x10 1 ∷ port_on 0x20 2 ∷ []) (route 0x30 1 3 ∷ []) ∷ running (port_on 0x20 3 ∷ port_on 0x30 4 ∷ []) (route 0x10 0 2 ∷ []) ∷ []

-- what is sent to a node is received by its port alone, what is sent to all by every other router, and nothing by the sender
pub to_a_node : delivered (net_of segment) (at 0 1) (node 3) ≡ at 1 0 ∷ []
to_a_node = refl

pub to_every_node : delivered (net_of segment) (at 0 1) broadcast ≡ at 1 0 ∷ []
to_every_node = refl

pub to_a_stranger : delivered (net_of segment) (at 0 1) (node 9) ≡ []
to_a_stranger = refl

pub not_to_itself : delivered (net_of segment) (at 0 1) (node 2) ≡ []
not_to_itself = refl

-- a packet for 30h goes by the second router, which sends it to the node itself
pub through_both : levels segment 3 0 (root (at 0 0) (plain 0 0x30 (node 0xCC)) ∷ [])
    ≡ (root (at 0 0) (plain 0 0x30 (node 0xCC)) ∷ []) ∷ (copy 0 (at 1 0) (plain 1 0x30 (node 0xCC)) ∷ []) ∷ [] ∷ []
unfolding header_bytes address_bytes network_bytes packet_of header_at address_at items network_at rip_of sap_of
through_both = refl

-- a propagated packet too
pub to_both : levels segment 3 0 (root (at 0 0) (to_all 0 0x10 []) ∷ [])
    ≡ (root (at 0 0) (to_all 0 0x10 []) ∷ []) ∷ (copy 0 (at 1 0) (to_all 1 0x20 (0x10 ∷ [])) ∷ []) ∷ [] ∷ []
unfolding header_bytes address_bytes network_bytes packet_of header_at address_at items network_at rip_of sap_of
to_both = refl

-- one for all nodes of 20h is near for the second router
pub to_all_of_20 : levels segment 3 0 (root (at 0 0) (plain 0 0x20 broadcast) ∷ [])
    ≡ (root (at 0 0) (plain 0 0x20 broadcast) ∷ []) ∷ (copy 0 (at 1 0) (plain 1 0x20 broadcast) ∷ []) ∷ [] ∷ []
unfolding header_bytes address_bytes network_bytes packet_of header_at address_at items network_at rip_of sap_of
to_all_of_20 = refl

-- bytes that are no packet go nowhere
pub no_packet : levels segment 2 0 (root (at 0 0) [] ∷ []) ≡ (root (at 0 0) [] ∷ []) ∷ [] ∷ []
unfolding header_bytes address_bytes network_bytes packet_of header_at address_at items network_at rip_of sap_of
no_packet = refl

pub at_most_nine : most (net_of segment) 8 ≡ 9
at_most_nine = refl

-- two routers can't have the same node on one network
pub twins : NodesDiffer ((port_on 0x20 2 ∷ []) ∷ (port_on 0x20 2 ∷ []) ∷ []) → ⊥
twins differ = differ (at 0 0) (at 1 0) (omega arith) (omega arith) (λ (e : 0 ≡ 1). omega (arith, e)) refl refl
