-- The ports and the router that a script makes, and why it makes none, the first fault that holds.
use Rattle.std.specs.Prelude.{ℕ, ◌==◌, ◌||◌, nat_le, nat_lt, Bool, false, if◌then◌else◌, List, [], ◌∷◌, length, Result, Ok, Err}
use Rattle.std.specs.List.{list_any}
use Rattle.ipx_router.specs.Numbers.{local_network, default_route, least_longest}
use Rattle.ipx_router.specs.Port.{Port, broadcast, same_node}
use Rattle.ipx_router.specs.declared.port.PortFault.{PortFault}
use Rattle.ipx_router.specs.declared.port.PortFault.TheVariants.{Longest, Cost, Network as BadNetwork, Node as BadNode}
use Rattle.ipx_router.specs.declared.ports_fault.PortsFault.{PortsFault}
use Rattle.ipx_router.specs.declared.ports_fault.PortsFault.TheVariants.{NoPort, TooMany, SameNetwork}
use Rattle.ipx_cmd.specs.PortWord.{port_fault, ports_fault}
use Rattle.ipx_cmd.specs.Script.{most_ports}
use Rattle.ipx_cmd.specs.declared.lines.fault.LineFault.{LineFault}

-- a number that no port's network may have: that of the local network, of the default route or of all routes
abbrev pub is_reserved : ℕ → Bool
is_reserved network = (network == local_network) || nat_le default_route network

-- the same answer, its fault as the word of a line
abbrev pub worded : {A E : Type 0} → (E → LineFault) → Result A E → Result A LineFault
worded word (Ok made) = Ok made
worded word (Err fault) = Err (word fault)

-- ---- a port

-- the port of those values
abbrev pub port_made : Port → Result Port PortFault
port_made values =
    if nat_lt values.longest least_longest then Err Longest
    else if values.cost == 0 then Err Cost
    else if is_reserved values.network.0 then Err BadNetwork
    else if same_node values.node broadcast then Err BadNode
    else Ok values

-- the same, with the word for what is wrong with them
abbrev pub named_port : Port → Result Port LineFault
named_port values = worded port_fault (port_made values)

-- ---- a router

-- two of the ports are on one network
abbrev pub meet : List Port → Bool
meet [] = false
meet (p ∷ ports) = list_any (λ q. q.network.0 == p.network.0) ports || meet ports

-- the ports of a router
abbrev pub router_made : List Port → Result (List Port) PortsFault
router_made ports =
    if length ports == 0 then Err NoPort
    else if nat_lt most_ports (length ports) then Err TooMany
    else if meet ports then Err SameNetwork
    else Ok ports

-- the same, with the word for what is wrong with them
abbrev pub named_router : List Port → Result (List Port) LineFault
named_router ports = worded ports_fault (router_made ports)
