-- What the first reception of each worked tree weighs, and what was sent on and the weights of what waits, after each step.
use Rattle.std.proofs.Common.{◌≡◌, refl, ℕ, zero, suc, ◌+◌, List, [], ◌∷◌, ◌++◌, replicate}
use Rattle.ipx_wire.specs.Address.{address_bytes, address_at}
use Rattle.ipx_wire.specs.Crossed.{network_bytes, network_at}
use Rattle.ipx_wire.specs.Items.{items}
use Rattle.ipx_wire.specs.Header.{header_bytes, header_at}
use Rattle.ipx_wire.specs.Packet.{packet_of}
use Rattle.ipx_wire.specs.Rip.{rip_of}
use Rattle.ipx_wire.specs.Sap.{sap_of}
use Rattle.ipx_router.specs.Port.{broadcast}
use Rattle.ipx_internet.specs.Tree.{Router, Copy, net_of, root, children}
use Rattle.ipx_internet.specs.Weight.{weight, weights}
use Rattle.ipx_internet.proofs.examples.Branches.{branches}
use Rattle.ipx_internet.proofs.examples.Directed.{star}
use Rattle.ipx_internet.proofs.examples.Loops.{loop}
use Rattle.ipx_internet.proofs.examples.Rings.{ring}
use Rattle.ipx_internet.proofs.examples.Words.{node, plain, to_all, at}

-- so many were sent on and some wait: both together, as they are now and after each further step, so many times at most; where none
-- waits, all that were listed
abbrev measures : List Router → ℕ → ℕ → List Copy → List ℕ
measures routers zero sent waiting = []
measures routers (suc n) sent [] = sent ∷ []
measures routers (suc n) sent (c ∷ waiting) =
    (sent + weights (net_of routers) (c ∷ waiting)) ∷ measures routers n (sent + 1) (waiting ++ children routers sent c)

-- from the first reception on, which comes to the first port
abbrev measured : List Router → List ℕ → List ℕ
measured routers bytes = measures routers 20 0 (root (at 0 0) bytes ∷ [])

-- what it weighs
abbrev of_first : List Router → List ℕ → ℕ
of_first routers bytes = weight (net_of routers) (root (at 0 0) bytes)

-- ---- a ring: two ports a router, two a network

-- a propagated packet weighs nine, as long as it goes on, but the third router sends it nowhere: three are listed
pub once_around : measured ring (to_all 0 0x10 []) ≡ 9 ∷ 9 ∷ 9 ∷ 3 ∷ []
unfolding header_bytes address_bytes network_bytes packet_of header_at address_at items network_at rip_of sap_of
once_around = refl

-- one that was forged to have the next network on its list weighs seven, and goes nowhere
pub forged : measured ring (to_all 2 0x10 (0x20 ∷ 0x20 ∷ [])) ≡ 7 ∷ 1 ∷ []
unfolding header_bytes address_bytes network_bytes packet_of header_at address_at items network_at rip_of sap_of
forged = refl

-- where the eighth network is left, the bound is met
pub the_eighth : measured ring (to_all 7 0x10 (0x91 ∷ 0x92 ∷ 0x93 ∷ 0x94 ∷ 0x95 ∷ 0x96 ∷ 0x97 ∷ [])) ≡ 2 ∷ 2 ∷ 2 ∷ []
unfolding header_bytes address_bytes network_bytes packet_of header_at address_at items network_at rip_of sap_of
the_eighth = refl

-- and where none is left
pub the_ninth : measured ring (to_all 8 0x10 []) ≡ 1 ∷ 1 ∷ []
unfolding header_bytes address_bytes network_bytes packet_of header_at address_at items network_at rip_of sap_of
the_ninth = refl

-- ---- routes that loop

-- a packet for one network weighs eighteen until it came through sixteen routers, and then one: seventeen are listed
pub around : measured loop (plain 0 0x99 (node 0xCC)) ≡ replicate 16 18 ++ 17 ∷ 17 ∷ []
unfolding header_bytes address_bytes network_bytes packet_of header_at address_at items network_at rip_of sap_of
around = refl

-- with 16, or near, or no packet: one
pub too_old : of_first loop (plain 16 0x99 (node 0xCC)) ≡ 1
unfolding header_bytes address_bytes network_bytes packet_of header_at address_at items network_at rip_of sap_of
too_old = refl

pub near : of_first loop (plain 0 0x10 (node 1)) ≡ 1
unfolding header_bytes address_bytes network_bytes packet_of header_at address_at items network_at rip_of sap_of
near = refl

pub unread : of_first loop [] ≡ 1
unfolding header_bytes address_bytes network_bytes packet_of header_at address_at items network_at rip_of sap_of
unread = refl

-- ---- a directed broadcast: once it is near for the two that receive it, each weighs one
pub directed : measured star (plain 0 0x20 broadcast) ≡ 19 ∷ 3 ∷ 3 ∷ 3 ∷ []
unfolding header_bytes address_bytes network_bytes packet_of header_at address_at items network_at rip_of sap_of
directed = refl

-- ---- a tree that branches: each step that lists fewer than four makes the whole lighter
pub branching : measured branches (to_all 0 0x10 []) ≡ 87381 ∷ 43691 ∷ 21847 ∷ 5464 ∷ 1369 ∷ 5 ∷ []
unfolding header_bytes address_bytes network_bytes packet_of header_at address_at items network_at rip_of sap_of
branching = refl
