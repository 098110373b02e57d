-- The words of a script for what is wrong with a port, or with the ports of a router.
use Rattle.ipx_cmd.specs.declared.lines.fault.LineFault.{LineFault}
use Rattle.ipx_cmd.specs.declared.lines.fault.LineFault.TheVariants.{Network as NetworkWord, Node as NodeWord, Longest as LongestWord, Cost as CostWord, None as NoneWord, Many as ManyWord, Same as SameWord}
use Rattle.ipx_router.specs.declared.port.PortFault.{PortFault}
use Rattle.ipx_router.specs.declared.port.PortFault.TheVariants.{Longest, Cost, Network, Node}
use Rattle.ipx_router.specs.declared.ports_fault.PortsFault.{PortsFault}
use Rattle.ipx_router.specs.declared.ports_fault.PortsFault.TheVariants.{NoPort, TooMany, SameNetwork}

-- the fault of a line whose values make no port
abbrev pub port_fault : PortFault → LineFault
port_fault Longest = LongestWord
port_fault Cost = CostWord
port_fault Network = NetworkWord
port_fault Node = NodeWord

-- the fault of ports that make no router
abbrev pub ports_fault : PortsFault → LineFault
ports_fault NoPort = NoneWord
ports_fault TooMany = ManyWord
ports_fault SameNetwork = SameWord
