-- What two routers on one segment weigh, from their start until they are quiet.
use Rattle.std.proofs.Common.{◌≡◌, refl, List, [], ◌∷◌, map, true, false}
use Rattle.ipx_wire.specs.Address.{address_bytes, address_at}
use Rattle.ipx_wire.specs.Crossed.{network_bytes, network_at}
use Rattle.ipx_wire.specs.Items.{items}
use Rattle.ipx_wire.specs.Header.{header_bytes, header_at}
use Rattle.ipx_wire.specs.Packet.{packet_of}
use Rattle.ipx_wire.specs.Rip.{entry_bytes, entry_at, rip_of}
use Rattle.ipx_wire.specs.Sap.{sap_of}
use Rattle.ipx_router.specs.Numbers.{rip_socket, sap_socket}
use Rattle.ipx_router.specs.Port.{Port}
use Rattle.ipx_router.specs.Stands.{State}
use Rattle.ipx_internet.specs.InternetWeight.{most_hearers, entry_weight, request_weight, query_weight, delivery_weight, queued_weight, internet_weight}
use Rattle.ipx_internet.proofs.examples.Directed.{star}
use Rattle.ipx_internet.proofs.examples.Waiting.{segment, after}
use Rattle.ipx_internet.proofs.examples.Words.{node, plain, at}
use Rattle.ipx_internet.specs.Tree.{net_of}

-- on all its ports but one a router of two ports says something to the one router on the other
pub hearers : most_hearers segment ≡ 1
hearers = refl

-- so an entry weighs two for each router that may still take it, a record and a packet; one that is unreachable nothing
pub entries : map (entry_weight segment) (0 ∷ 1 ∷ 14 ∷ 15 ∷ 16 ∷ 300 ∷ []) ≡ 32 ∷ 30 ∷ 4 ∷ 2 ∷ 0 ∷ 0 ∷ []
entries = refl

-- a request, and the answer: one packet of nine entries, which the process of services reads as one service, and no process at another socket
pub requests : map (request_weight segment 8) (rip_socket ∷ sap_socket ∷ 0x4000 ∷ []) ≡ 272 ∷ 32 ∷ 2 ∷ []
requests = refl

-- a query, and the answer: two packets of eight services, which the process of routes reads as forty-eight entries, at most
pub queries : map (query_weight segment 8 false) (rip_socket ∷ sap_socket ∷ 0x4000 ∷ []) ≡ 1539 ∷ 243 ∷ 3 ∷ []
queries = refl

pub nearest : map (query_weight segment 8 true) (rip_socket ∷ sap_socket ∷ 0x4000 ∷ []) ≡ 2 ∷ 2 ∷ 2 ∷ []
nearest = refl

-- each sent the other a response, a request and a query; each delivery makes it lighter; at last each has a route, which weighs one
pub falls : map (λ n. queued_weight segment 8 8 (after n)) (0 ∷ 1 ∷ 2 ∷ 3 ∷ 4 ∷ 5 ∷ 6 ∷ 7 ∷ 8 ∷ [])
    ≡ 1092 ∷ 1062 ∷ 821 ∷ 578 ∷ 548 ∷ 307 ∷ 64 ∷ 33 ∷ 2 ∷ []
unfolding header_bytes address_bytes network_bytes packet_of header_at address_at items network_at entry_bytes entry_at rip_of sap_of
falls = refl

-- so it does where they are as they are now: each holds one route, whichever that is, and nothing waits
abbrev one_route : List Port → State
one_route ports = record {
  ports = ports;
  running = true;
  up = 0 ∷ 1 ∷ [];
  seconds = 0;
  routes = record { offer = record { network = record { 0 = 0x40 }; hops = 1; ticks = 2; port = 1; node = node 1 }; age = 0 } ∷ [];
  services = [];
}

pub at_last : internet_weight 8 8 (record { routers = map one_route segment; queue = [] }) ≡ 2
at_last = refl

-- a packet of no process weighs what it may lead to: one that comes on its own network; one that goes on, sixteen routers and the two
-- others of its last network; and bytes that are no packet
pub others : map (delivery_weight (net_of star) 8 8)
    (record { to = at 0 0; bytes = plain 0 0x10 (node 1) } ∷ record { to = at 0 0; bytes = plain 0 0x20 (node 1) } ∷ record { to = at 0 0; bytes = [] } ∷ [])
    ≡ 1 ∷ 18 ∷ 1 ∷ []
unfolding header_bytes address_bytes network_bytes packet_of header_at address_at items network_at entry_bytes entry_at rip_of sap_of
others = refl
