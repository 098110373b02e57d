-- Three routers in a ring: 10h and 20h, 20h and 30h, 30h and 10h.
use Rattle.std.proofs.Common.{◌≡◌, refl, ℕ, List, [], ◌∷◌}
use Rattle.ipx_wire.specs.Address.{address_bytes, address_at}
use Rattle.ipx_wire.specs.Crossed.{network_bytes, network_at}
use Rattle.ipx_wire.specs.Items.{items}
use Rattle.ipx_wire.specs.Header.{header_bytes, header_at}
use Rattle.ipx_wire.specs.Packet.{packet_of}
use Rattle.ipx_wire.specs.Rip.{rip_of}
use Rattle.ipx_wire.specs.Sap.{sap_of}
use Rattle.ipx_internet.specs.Most.{most}
use Rattle.ipx_internet.specs.Tree.{Router, Copy, net_of, root, levels}
use Rattle.ipx_internet.proofs.examples.Words.{port_on, running, to_all, at, copy}

abbrev pub ring : List Router
ring =
    running (port_on 0x10 1 ∷ port_on 0x20 2 ∷ []) [] ∷ running (port_on 0x20 3 ∷ port_on 0x30 4 ∷ []) []
    ∷ running (port_on 0x30 5 ∷ port_on 0x10 6 ∷ []) [] ∷ []

abbrev levels_of : List ℕ → List (List Copy)
levels_of bytes = levels ring 4 0 (root (at 0 0) bytes ∷ [])

-- a propagated packet goes once around: on each network it is seen by the next router, and the third has no network left
pub once_around : levels_of (to_all 0 0x10 [])
    ≡ (root (at 0 0) (to_all 0 0x10 []) ∷ []) ∷ (copy 0 (at 1 0) (to_all 1 0x20 (0x10 ∷ [])) ∷ [])
    ∷ (copy 1 (at 2 0) (to_all 2 0x30 (0x10 ∷ 0x20 ∷ [])) ∷ []) ∷ [] ∷ []
unfolding header_bytes address_bytes network_bytes packet_of header_at address_at items network_at rip_of sap_of
once_around = refl

-- a list that was forged to have the next network on it takes the packet nowhere
pub forged : levels_of (to_all 2 0x10 (0x20 ∷ 0x20 ∷ []))
    ≡ (root (at 0 0) (to_all 2 0x10 (0x20 ∷ 0x20 ∷ [])) ∷ []) ∷ [] ∷ [] ∷ [] ∷ []
unfolding header_bytes address_bytes network_bytes packet_of header_at address_at items network_at rip_of sap_of
forged = refl

-- one that came through seven routers goes on once; networks that it didn't cross don't count
pub the_eighth : levels_of (to_all 7 0x10 (0x91 ∷ 0x92 ∷ 0x93 ∷ 0x94 ∷ 0x95 ∷ 0x96 ∷ 0x97 ∷ []))
    ≡ (root (at 0 0) (to_all 7 0x10 (0x91 ∷ 0x92 ∷ 0x93 ∷ 0x94 ∷ 0x95 ∷ 0x96 ∷ 0x97 ∷ [])) ∷ [])
    ∷ (copy 0 (at 1 0) (to_all 8 0x20 (0x91 ∷ 0x92 ∷ 0x93 ∷ 0x94 ∷ 0x95 ∷ 0x96 ∷ 0x97 ∷ 0x10 ∷ [])) ∷ []) ∷ [] ∷ [] ∷ []
unfolding header_bytes address_bytes network_bytes packet_of header_at address_at items network_at rip_of sap_of
the_eighth = refl

-- one that came through eight goes nowhere
pub the_ninth : levels_of (to_all 8 0x10 [])
    ≡ (root (at 0 0) (to_all 8 0x10 []) ∷ []) ∷ [] ∷ [] ∷ [] ∷ []
unfolding header_bytes address_bytes network_bytes packet_of header_at address_at items network_at rip_of sap_of
the_ninth = refl

-- a ring has two ports a router and two a network, so a tree of a propagated packet is at most a path of nine receptions
pub at_most_nine : most (net_of ring) 8 ≡ 9
at_most_nine = refl
