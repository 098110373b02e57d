-- What comes in from a cable: numbered, unless only a neighbour may say it and a router carried it (own).
use Rattle.std.specs.Prelude.{ℕ, Bool, false, not, ◌==◌, ◌&&◌, ◌||◌, if◌then◌else◌, List, Option, None, Some, Result, Ok, Err}
use Rattle.ipx_wire.specs.Packet.{Parts, packet_of}
use Rattle.ipx_wire.specs.declared.header.Header.{Header}
use Rattle.ipx_wire.specs.declared.packet.PacketFault.{PacketFault}
use Rattle.ipx_router.specs.Port.{Port}
use Rattle.ipx_router.specs.Why.{is_near, is_for_rip, is_for_sap}
use Rattle.ipx_edge.specs.Numbered.{numbered}

-- near, and for the RIP process or the SAP process: what the router takes for a neighbour's word
abbrev pub is_for_neighbours : Port → Header → Bool
is_for_neighbours port h = is_near port h && (is_for_rip h || is_for_sap h)

-- that, and some router carried it here: each raises the transport control, so no neighbour sent it
abbrev pub is_from_afar : Port → Header → Bool
is_from_afar port h = is_for_neighbours port h && not (h.control == 0)

abbrev pub is_held_in : Port → Result Parts PacketFault → Bool
is_held_in port (Ok p) = is_from_afar port p.header
is_held_in port (Err fault) = false

-- bytes that are kept from the router
abbrev pub is_held : Port → List ℕ → Bool
is_held port bytes = is_held_in port (packet_of bytes)

-- the bytes that come in for those that came, if any do
abbrev pub entered : Port → List ℕ → Option (List ℕ)
entered port bytes = if is_held port bytes then None else Some (numbered port bytes)
