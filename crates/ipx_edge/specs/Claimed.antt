-- Another number for a cable, as a neighbour there claims it (own).
use Rattle.std.specs.Prelude.{ℕ, Bool, ◌==◌, ◌&&◌, ◌||◌, if◌then◌else◌, List, Option, None, Some, Result, Ok, Err}
use Rattle.ipx_wire.specs.Packet.{Parts, packet_of}
use Rattle.ipx_wire.specs.declared.header.Header.{Header}
use Rattle.ipx_wire.specs.declared.network.Network.{Network}
use Rattle.ipx_wire.specs.declared.packet.PacketFault.{PacketFault}
use Rattle.ipx_router.specs.Port.{Port, broadcast, same_node}
use Rattle.ipx_router.specs.Why.{is_far, is_for_rip, is_for_sap}

-- for all RIP processes or SAP processes of a network
abbrev pub is_for_routers : Header → Bool
is_for_routers h = same_node h.destination.node broadcast && (is_for_rip h || is_for_sap h)

-- that, of another network than the port's; no router carried it here, and it says that it comes from there: so a neighbour, on this cable,
-- has that number for it
abbrev pub is_claim : Port → Header → Bool
is_claim port h = is_far port h && is_for_routers h && (h.control == 0) && (h.source.network.0 == h.destination.network.0)

abbrev pub claimed_in : Port → Result Parts PacketFault → Option Network
claimed_in port (Ok p) = if is_claim port p.header then Some p.header.source.network else None
claimed_in port (Err fault) = None

-- the number that bytes from the port's cable claim for it, if they do
abbrev pub claimed : Port → List ℕ → Option Network
claimed port bytes = claimed_in port (packet_of bytes)
