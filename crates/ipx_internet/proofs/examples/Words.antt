-- Routers and packets, in few words.
use Rattle.std.proofs.Common.{ℕ, ◌-◌, ◌*◌, true, List, [], ◌∷◌, ◌++◌, length, flat_map, replicate, Some}
use Rattle.ipx_wire.specs.Crossed.{network_bytes}
use Rattle.ipx_wire.specs.Packet.{Parts}
use Rattle.ipx_wire.specs.Write.{packet_bytes}
use Rattle.ipx_wire.specs.declared.network.Network.{Network}
use Rattle.ipx_wire.specs.declared.node.Node.{Node}
use Rattle.ipx_router.specs.Port.{Port, broadcast, numbers}
use Rattle.ipx_router.specs.declared.route_offer.RouteOffer.{RouteOffer}
use Rattle.ipx_internet.specs.Internet.{Place}
use Rattle.ipx_internet.specs.Tree.{Router, Copy}

abbrev pub network : ℕ → Network
network n = record { 0 = n }

abbrev pub node : ℕ → Node
node n = record { 0 = 0 ∷ 0 ∷ 0 ∷ 0 ∷ 0 ∷ n ∷ [] }

abbrev pub port_on : ℕ → ℕ → Port
port_on n k = record { network = network n; node = node k; cost = 1; longest = 576; route_share = 65535; service_share = 65535 }

-- a route by a port and a neighbour
abbrev pub route : ℕ → ℕ → ℕ → RouteOffer
route n port k = record { network = network n; hops = 1; ticks = 2; port = port; node = node k }

-- a router that runs, all ports up
abbrev pub running : List Port → List RouteOffer → Router
running ports routes = record { ports = ports; running = true; up = numbers (length ports); routes = routes }

-- a packet without data from node AAh on network 10h, with so much transport control
abbrev pub plain_parts : ℕ → ℕ → Node → Parts
plain_parts control to link =
    record {
      header = record {
        checksum = 65535;
        length = 30;
        control = control;
        kind = 0;
        destination = record { network = network to; node = link; socket = record { 0 = 0x4003 } };
        source = record { network = network 16; node = node 0xAA; socket = record { 0 = 0x4003 } };
      };
      payload = [];
    }

abbrev pub plain : ℕ → ℕ → Node → List ℕ
plain control to link = packet_bytes (plain_parts control to link)

-- a propagated packet from there, on the way to a network, with so much transport control and these networks listed
abbrev pub to_all : ℕ → ℕ → List ℕ → List ℕ
to_all control to crossed =
    packet_bytes (record {
      header = record {
        checksum = 65535;
        length = 62;
        control = control;
        kind = 20;
        destination = record { network = network to; node = broadcast; socket = record { 0 = 0x455 } };
        source = record { network = network 16; node = node 0xAA; socket = record { 0 = 0x455 } };
      };
      payload = flat_map (λ n. network_bytes (network n)) crossed ++ replicate (32 - 4 * length crossed) 0;
    })

abbrev pub at : ℕ → ℕ → Place
at router port = record { router = router; port = port }

-- a reception that came of the one with a number
abbrev pub copy : ℕ → Place → List ℕ → Copy
copy parent to bytes = record { parent = Some parent; to = to; bytes = bytes }
