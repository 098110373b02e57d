-- Four routers: the first is on 20h and 30h, the last on 40h, and between them are two. A propagated packet from 10h takes both sides, so the
-- last router receives it twice; each side also meets the other one, and goes back as far as the first router.
use Rattle.std.proofs.Common.{◌≡◌, refl, ℕ, List, [], ◌∷◌, ◌++◌, length, map, filter}
use Rattle.ipx_wire.specs.Address.{address_bytes, address_at}
use Rattle.ipx_wire.specs.Crossed.{network_bytes, network_at}
use Rattle.ipx_wire.specs.Items.{items}
use Rattle.ipx_wire.specs.Header.{header_bytes, header_at}
use Rattle.ipx_wire.specs.Packet.{packet_of}
use Rattle.ipx_wire.specs.Rip.{rip_of}
use Rattle.ipx_wire.specs.Sap.{sap_of}
use Rattle.ipx_internet.specs.Internet.{Place}
use Rattle.ipx_internet.specs.Tree.{Router, Copy, root, tree_to}
use Rattle.ipx_internet.proofs.examples.Rings.{ring}
use Rattle.ipx_internet.proofs.examples.Words.{port_on, running, to_all, at}
use Rattle.ipx_laws.specs.Crossings.{paths, is_at}

abbrev diamond : List Router
diamond =
    running (port_on 0x10 1 ∷ port_on 0x20 2 ∷ port_on 0x30 3 ∷ []) [] ∷ running (port_on 0x20 4 ∷ port_on 0x40 5 ∷ []) []
    ∷ running (port_on 0x30 6 ∷ port_on 0x40 7 ∷ []) [] ∷ running (port_on 0x40 8 ∷ port_on 0x50 9 ∷ []) [] ∷ []

abbrev copies : List Copy
copies = tree_to diamond 9 (root (at 0 0) (to_all 0 0x10 []))

pub all_paths : paths copies
    ≡ [] ∷ (at 1 0 ∷ []) ∷ (at 2 0 ∷ []) ∷ (at 1 0 ∷ at 2 1 ∷ []) ∷ (at 1 0 ∷ at 3 0 ∷ []) ∷ (at 2 0 ∷ at 1 1 ∷ []) ∷ (at 2 0 ∷ at 3 0 ∷ [])
    ∷ (at 1 0 ∷ at 2 1 ∷ at 0 2 ∷ []) ∷ (at 2 0 ∷ at 1 1 ∷ at 0 1 ∷ []) ∷ []
unfolding header_bytes address_bytes network_bytes packet_of header_at address_at items network_at rip_of sap_of
all_paths = refl

-- how often each port of a list receives it
abbrev times : List Copy → List Place → List ℕ
times cs places = map (λ place. length (filter (λ c. is_at place c.to) cs)) places

pub twice_at_the_last : times copies (at 0 0 ∷ at 0 1 ∷ at 0 2 ∷ at 1 0 ∷ at 1 1 ∷ at 2 0 ∷ at 2 1 ∷ at 3 0 ∷ at 3 1 ∷ [])
    ≡ 1 ∷ 1 ∷ 1 ∷ 1 ∷ 1 ∷ 1 ∷ 1 ∷ 2 ∷ 0 ∷ []
unfolding header_bytes address_bytes network_bytes packet_of header_at address_at items network_at rip_of sap_of
twice_at_the_last = refl

-- in a ring of three it goes around one way, from the port where it came: each next router receives it once, on one of its ports. It is received
-- on the third network's ports, and goes no further, since all three networks are listed
pub once_around : paths (tree_to ring 9 (root (at 0 0) (to_all 0 0x10 []))) ≡ [] ∷ (at 1 0 ∷ []) ∷ (at 1 0 ∷ at 2 0 ∷ []) ∷ []
unfolding header_bytes address_bytes network_bytes packet_of header_at address_at items network_at rip_of sap_of
once_around = refl

-- what a host sends on 10h comes to both routers there: so each port of the ring receives it once
pub once_each : times (tree_to ring 9 (root (at 0 0) (to_all 0 0x10 [])) ++ tree_to ring 9 (root (at 2 1) (to_all 0 0x10 [])))
    (at 0 0 ∷ at 0 1 ∷ at 1 0 ∷ at 1 1 ∷ at 2 0 ∷ at 2 1 ∷ [])
    ≡ 1 ∷ 1 ∷ 1 ∷ 1 ∷ 1 ∷ 1 ∷ []
unfolding header_bytes address_bytes network_bytes packet_of header_at address_at items network_at rip_of sap_of
once_each = refl

-- a packet that was forged to list 40h stays before it
pub listed : paths (tree_to diamond 9 (root (at 0 0) (to_all 1 0x10 (0x40 ∷ [])))) ≡ [] ∷ (at 1 0 ∷ []) ∷ (at 2 0 ∷ []) ∷ []
unfolding header_bytes address_bytes network_bytes packet_of header_at address_at items network_at rip_of sap_of
listed = refl
