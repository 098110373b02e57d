-- What worked scripts for an internet do, byte by byte of their text.
use Rattle.std.proofs.Common.{◌≡◌, ℕ, true, false, List, [], ◌∷◌, ◌++◌, codes, refl, None, Some, Ok, Err}
use Rattle.hex.proofs.OnLiterals.{hex_on_literals}
use Rattle.hex.specs.Hex.{encode_with}
use Rattle.std.specs.Fmt.{digits}
use Rattle.ipx_wire.specs.Address.{address_bytes, address_at}
use Rattle.ipx_wire.specs.Crossed.{network_bytes, network_at}
use Rattle.ipx_wire.specs.Header.{header_bytes, header_at}
use Rattle.ipx_wire.specs.Items.{items}
use Rattle.ipx_wire.specs.Packet.{packet_of}
use Rattle.ipx_wire.specs.Rip.{entry_bytes, entry_at, rip_of}
use Rattle.ipx_wire.specs.Sap.{sap_of}
use Rattle.ipx_router.specs.Port.{Port}
use Rattle.ipx_internet.specs.Internet.{Internet}
use Rattle.ipx_internet.specs.Traced.{tree}
use Rattle.ipx_cmd.specs.InternetMachine.{Standing, acts, nothing_yet, untouched}
use Rattle.ipx_cmd.specs.InternetText.{copy_text, copy_words}
use Rattle.ipx_cmd.specs.Output.{route_words}
use Rattle.ipx_cmd.specs.Simulated.{simulated, simulated_end, sofar, judged}
use Rattle.ipx_cmd.specs.TableText.{routes_text, route_held}
use Rattle.ipx_cmd.specs.declared.ended.Ended.TheVariants.{Done, BadInput}
use Rattle.ipx_cmd.specs.declared.lines.fault.LineFault.TheVariants.{Late, None as NoPorts, Port as NoSuchPort, Router as NoSuchRouter, SameNode}

-- ---- lines

abbrev port_on : ℕ → ℕ → Port
port_on network node = record {
  network = record { 0 = network };
  node = record { 0 = 0 ∷ 0 ∷ 0 ∷ 0 ∷ 0 ∷ node ∷ [] };
  cost = 1;
  longest = 576;
  route_share = 65535;
  service_share = 65535;
}

-- two routers on network 20h, with 10h behind the one and 30h behind the other
abbrev both : Internet
both = (port_on 0x10 1 ∷ port_on 0x20 2 ∷ []) ∷ (port_on 0x20 3 ∷ port_on 0x30 4 ∷ []) ∷ []

-- before they are made
abbrev named : Internet → Standing
named net = record { net = net; past = None }

-- after, while nothing happened to them
abbrev made : Internet → Standing
made net = record { net = net; past = Some (untouched net) }

-- the next router has no port yet
pub a_router : acts (named ((port_on 0x10 1 ∷ []) ∷ [])) (codes "router") ≡ Ok (named ((port_on 0x10 1 ∷ []) ∷ [] ∷ []), [])
unfolding acts
a_router = refl

-- a port is the latest router's
pub a_port : acts (named ((port_on 0x10 1 ∷ []) ∷ [] ∷ [])) (codes "port 00000020 000000000003 1 576")
    ≡ Ok (named ((port_on 0x10 1 ∷ []) ∷ (port_on 0x20 3 ∷ []) ∷ []), [])
unfolding acts hex_on_literals
a_port = refl

-- what is made of no routers settles
pub no_routers : acts nothing_yet (codes "settle 0") ≡ Ok (made [], codes "quiet\n")
unfolding acts
no_routers = refl

-- the making comes before what the line names
pub no_ports : acts (named ((port_on 0x10 1 ∷ []) ∷ [] ∷ [])) (codes "start 9") ≡ Err NoPorts
unfolding acts
no_ports = refl

-- two routers with one node on one network
pub same_node : acts (named ((port_on 0x10 1 ∷ []) ∷ (port_on 0x10 1 ∷ []) ∷ [])) (codes "settle 0") ≡ Err SameNode
unfolding acts
same_node = refl

-- but each of them is made before their nodes are compared
pub ports_first : acts (named ((port_on 0x10 1 ∷ []) ∷ (port_on 0x10 1 ∷ []) ∷ [] ∷ [])) (codes "settle 0") ≡ Err NoPorts
unfolding acts
ports_first = refl

-- the internet lacks the router, or the router the port
pub no_such_router : acts (named both) (codes "in 2 0 -") ≡ Err NoSuchRouter
unfolding acts
no_such_router = refl

pub no_such_port : acts (named both) (codes "in 1 2 -") ≡ Err NoSuchPort
unfolding acts
no_such_port = refl

-- no router is named once the internet is made
pub late_router : acts (made both) (codes "router") ≡ Err Late
unfolding acts
late_router = refl

-- a stopped router drops the packet; a trace of it has one reception, and no event
pub stopped_router : acts (made both) (codes "trace 1 0 1 AB") ≡ Ok (made both, codes "copy 0 - 1 0 NotRunning AB\n")
unfolding acts hex_on_literals encode_with digits packet_of tree copy_text copy_words
stopped_router = refl

pub none_listed : acts (made both) (codes "trace 1 0 0 AB") ≡ Ok (made both, codes "limit\n")
unfolding acts hex_on_literals tree
none_listed = refl

-- ---- whole scripts

-- the lines that name these two
abbrev routers : List ℕ
routers =
    codes "router\nport 00000010 000000000001 1 576\nport 00000020 000000000002 1 576\n"
    ++ codes "router\nport 00000020 000000000003 1 576\nport 00000030 000000000004 1 576\n"

-- the same, and both are started
abbrev started : List ℕ
started = routers ++ codes "start 0\nstart 1\n"

-- what they send each other is handed out: each has a route to the other's network
pub both_learn : simulated (started ++ codes "settle 8\nroutes 0\nroutes 1\n")
    ≡ codes "quiet\nroute 00000030 1 2 1 000000000003 0\nroute 00000010 1 2 0 000000000002 0\n"
unfolding acts hex_on_literals encode_with digits header_bytes address_bytes network_bytes packet_of header_at address_at items network_at entry_bytes entry_at rip_of sap_of routes_text route_held route_words
both_learn = refl

-- the second one hears the first before that hears anything
pub first_delivery : simulated (started ++ codes "settle 1\nroutes 0\nroutes 1\n") ≡ codes "left 5\nroute 00000010 1 2 0 000000000002 0\n"
unfolding acts hex_on_literals encode_with digits header_bytes address_bytes network_bytes packet_of header_at address_at items network_at entry_bytes entry_at rip_of sap_of routes_text route_held route_words
first_delivery = refl

-- then a packet from 10h goes by both to 30h
abbrev traced : List ℕ
traced = started ++ codes "settle 8\ntrace 0 0 2 FFFF001E0000000000300000000000994003000000100000000000AA4003\n"

pub both_forward : simulated traced
    ≡ codes "quiet\ncopy 0 - 0 0 Forwarded FFFF001E0000000000300000000000994003000000100000000000AA4003\n"
    ++ codes "copy 1 0 1 0 Forwarded FFFF001E0100000000300000000000994003000000100000000000AA4003\n"
unfolding acts hex_on_literals encode_with digits header_bytes address_bytes network_bytes packet_of header_at address_at items network_at entry_bytes entry_at rip_of sap_of tree copy_text copy_words
both_forward = refl

-- ---- how a script ends

pub all_good : simulated_end (routers ++ codes "settle 0\n") ≡ Done
unfolding acts hex_on_literals
all_good = refl

-- a third router is started, which isn't there: its line is told, and none follows
abbrev wrong : List ℕ
wrong = routers ++ codes "settle 0\nstart 2\nsettle 0\n"

pub wrong_line : simulated wrong ≡ codes "quiet\nline 8: router\n"
unfolding acts hex_on_literals digits
wrong_line = refl

pub wrong_end : simulated_end wrong ≡ BadInput
unfolding acts hex_on_literals
wrong_end = refl

pub wrong_for_good : judged wrong ≡ true
unfolding acts hex_on_literals
wrong_for_good = refl

-- the last line needs no end, but where the script may go on it isn't judged yet
pub last_line : simulated (routers ++ codes "settle 0") ≡ codes "quiet\n"
unfolding acts hex_on_literals
last_line = refl

pub not_yet : sofar (routers ++ codes "settle 0") ≡ []
unfolding acts hex_on_literals
not_yet = refl

pub not_judged : judged (routers ++ codes "start 2") ≡ false
unfolding acts hex_on_literals
not_judged = refl
