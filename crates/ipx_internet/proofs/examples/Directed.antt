-- Three routers on network 20h, with a directed broadcast to it from network 10h.
use Rattle.std.proofs.Common.{◌≡◌, refl, List, [], ◌∷◌, length}
use Rattle.ipx_wire.specs.Address.{address_bytes, address_at}
use Rattle.ipx_wire.specs.Crossed.{network_bytes, network_at}
use Rattle.ipx_wire.specs.Items.{items}
use Rattle.ipx_wire.specs.Header.{header_bytes, header_at}
use Rattle.ipx_wire.specs.Packet.{packet_of}
use Rattle.ipx_wire.specs.Rip.{rip_of}
use Rattle.ipx_wire.specs.Sap.{sap_of}
use Rattle.ipx_router.specs.Port.{broadcast}
use Rattle.ipx_internet.specs.Most.{most, most_ports, most_on_network}
use Rattle.ipx_internet.specs.Tree.{Router, Copy, net_of, root, forwards, levels}
use Rattle.ipx_internet.proofs.examples.Words.{port_on, running, plain, at, copy}

abbrev pub star : List Router
star =
    running (port_on 0x10 1 ∷ port_on 0x20 2 ∷ []) [] ∷ running (port_on 0x20 3 ∷ port_on 0x30 4 ∷ []) []
    ∷ running (port_on 0x40 5 ∷ port_on 0x20 6 ∷ []) [] ∷ []

abbrev first : Copy
first = root (at 0 0) (plain 0 0x20 broadcast)

-- it is forwarded once
pub one_forward : length (forwards star first) ≡ 1
unfolding header_bytes address_bytes network_bytes packet_of header_at address_at items network_at rip_of sap_of
one_forward = refl

-- two routers receive it, and it is near for both
pub two_receive : levels star 3 0 (first ∷ [])
    ≡ (first ∷ []) ∷ (copy 0 (at 1 0) (plain 1 0x20 broadcast) ∷ copy 0 (at 2 1) (plain 1 0x20 broadcast) ∷ []) ∷ [] ∷ []
unfolding header_bytes address_bytes network_bytes packet_of header_at address_at items network_at rip_of sap_of
two_receive = refl

-- two ports a router, three on network 20h
pub ports : most_ports (net_of star) ≡ 2
ports = refl

pub on_20 : most_on_network (net_of star) ≡ 3
on_20 = refl

pub doubling : most (net_of star) 3 ≡ 15
doubling = refl
