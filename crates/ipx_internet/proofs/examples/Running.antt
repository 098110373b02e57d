-- A run of two routers on one segment: what is listed of it, and with which origin.
use Rattle.std.proofs.Common.{◌≡◌, refl, true, false, List, [], ◌∷◌, map, None, Some}
use Rattle.ipx_wire.specs.Address.{address_bytes, address_at}
use Rattle.ipx_wire.specs.Crossed.{network_bytes, network_at}
use Rattle.ipx_wire.specs.Items.{items}
use Rattle.ipx_wire.specs.Header.{header_bytes, header_at}
use Rattle.ipx_wire.specs.Packet.{packet_of}
use Rattle.ipx_wire.specs.Rip.{rip_of}
use Rattle.ipx_wire.specs.Sap.{sap_of}
use Rattle.ipx_router.specs.History.{Start, Stop, Packet}
use Rattle.ipx_router.specs.Port.{Port, broadcast}
use Rattle.ipx_internet.specs.Internet.{Internet}
use Rattle.ipx_internet.specs.Log.{Reception}
use Rattle.ipx_internet.specs.Run.{Step, Happens, Settles, begun, run_of}
use Rattle.ipx_internet.specs.Tree.{router_now}
use Rattle.ipx_internet.proofs.examples.Words.{port_on, running, plain, to_all, at}

abbrev segment : Internet
segment = (port_on 0x10 1 ∷ port_on 0x20 2 ∷ []) ∷ (port_on 0x20 3 ∷ port_on 0x30 4 ∷ []) ∷ []

-- both routers run, and nothing waits
abbrev log_of : List Step → List Reception
log_of steps = (run_of segment 8 8 (begun ((Start ∷ []) ∷ (Start ∷ []) ∷ [])) steps).log

abbrev comes : Step
comes = Happens 0 (Packet 0 (to_all 0 0x10 []))

-- a packet comes from outside, and its forward is delivered: it comes of the first reception
pub with_origins : map (λ r. r.origin) (log_of (comes ∷ Settles ∷ Settles ∷ []))
    ≡ None ∷ Some (record { place = 0; sent = record { port = 1; link = broadcast; bytes = to_all 1 0x20 (0x10 ∷ []) } }) ∷ []
unfolding header_bytes address_bytes network_bytes packet_of header_at address_at items network_at rip_of sap_of
with_origins = refl

pub at_ports : map (λ r. r.to) (log_of (comes ∷ Settles ∷ Settles ∷ [])) ≡ at 0 0 ∷ at 1 0 ∷ []
unfolding header_bytes address_bytes network_bytes packet_of header_at address_at items network_at rip_of sap_of
at_ports = refl

-- a router that was stopped in between receives it and doesn't act
pub stopped_between : map (λ r. r.acts) (log_of (comes ∷ Happens 1 Stop ∷ Settles ∷ [])) ≡ true ∷ false ∷ []
unfolding header_bytes address_bytes network_bytes packet_of header_at address_at items network_at rip_of sap_of
stopped_between = refl

-- a packet for one network that is forwarded has its forward as origin too; the router that it is near for sends nothing on
abbrev all_nodes : Step
all_nodes = Happens 0 (Packet 0 (plain 0 0x20 broadcast))

pub one_network : map (λ r. r.origin) (log_of (all_nodes ∷ Settles ∷ Settles ∷ []))
    ≡ None ∷ Some (record { place = 0; sent = record { port = 1; link = broadcast; bytes = plain 1 0x20 broadcast } }) ∷ []
unfolding header_bytes address_bytes network_bytes packet_of header_at address_at items network_at rip_of sap_of
one_network = refl

-- a router is as its history has left it
abbrev ports : List Port
ports = port_on 0x10 1 ∷ port_on 0x20 2 ∷ []

pub started : router_now ports 8 (Start ∷ []) ≡ running ports []
started = refl

pub stopped : router_now ports 8 (Start ∷ Stop ∷ []) ≡ record { ports = ports; running = false; up = []; routes = [] }
stopped = refl
