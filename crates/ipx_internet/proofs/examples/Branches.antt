-- Five routers: from network 20h on, one is the last, and another leads to two more.
use Rattle.std.proofs.Common.{◌≡◌, refl, ap, ℕ, zero, suc, ◌+◌, List, [], ◌∷◌, length, map, None, Some, arith}
use Rattle.ipx_wire.specs.Address.{address_bytes, address_at}
use Rattle.ipx_wire.specs.Crossed.{network_bytes, network_at}
use Rattle.ipx_wire.specs.Items.{items}
use Rattle.ipx_wire.specs.Header.{header_bytes, header_at}
use Rattle.ipx_wire.specs.Packet.{packet_of}
use Rattle.ipx_wire.specs.Rip.{rip_of}
use Rattle.ipx_wire.specs.Sap.{sap_of}
use Rattle.ipx_internet.specs.Most.{most}
use Rattle.ipx_internet.specs.Tree.{Router, Copy, IsTree, net_of, root, tree_to}
use Rattle.ipx_internet.proofs.examples.Words.{port_on, running, to_all, at}

abbrev pub branches : List Router
branches =
    running (port_on 0x10 1 ∷ port_on 0x20 2 ∷ []) [] ∷ running (port_on 0x20 3 ∷ []) []
    ∷ running (port_on 0x20 4 ∷ port_on 0x40 5 ∷ port_on 0x70 6 ∷ []) [] ∷ running (port_on 0x40 7 ∷ port_on 0x50 8 ∷ []) []
    ∷ running (port_on 0x50 9 ∷ port_on 0x60 10 ∷ []) [] ∷ []

abbrev first : Copy
first = root (at 0 0) (to_all 0 0x10 [])

-- each reception is numbered behind all before it, and names its own parent
pub ports : map (λ c. c.to) (tree_to branches 6 first) ≡ at 0 0 ∷ at 1 0 ∷ at 2 0 ∷ at 3 0 ∷ at 4 0 ∷ []
unfolding header_bytes address_bytes network_bytes packet_of header_at address_at items network_at rip_of sap_of
ports = refl

pub parents : map (λ c. c.parent) (tree_to branches 6 first) ≡ None ∷ Some 0 ∷ Some 0 ∷ Some 2 ∷ Some 3 ∷ []
unfolding header_bytes address_bytes network_bytes packet_of header_at address_at items network_at rip_of sap_of
parents = refl

-- three ports a router, three on network 20h: four times as many each time
pub fourfold : most (net_of branches) 2 ≡ 21
fourfold = refl

-- a tree is whole: its first levels alone are none
pub not_cut : IsTree branches first (first ∷ []) → ⊥
unfolding header_bytes address_bytes network_bytes packet_of header_at address_at items network_at rip_of sap_of
not_cut is = by is.depth (ap (λ (copies : List Copy). length copies) is.all) (ap (λ (copies : List Copy). length copies) is.whole)
  where
    by : (depth : ℕ) → 1 ≡ length (tree_to branches depth first) → 1 ≡ length (tree_to branches (depth + 1) first) → ⊥
    by zero all whole = omega (arith, all)
    by (suc zero) all whole = omega (arith, whole)
    by (suc (suc n)) all whole = omega (arith, all)
