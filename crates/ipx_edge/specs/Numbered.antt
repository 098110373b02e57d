-- Packets that say 0 for the network on which they were sent, with its number in that place (own).
use Rattle.std.specs.Prelude.{ℕ, zero, suc, Bool, ◌==◌, ◌&&◌, nat_lt, if◌then◌else◌, List, length, Result, Ok, Err}
use Rattle.std.specs.Int.{to_be_bytes, from_be_bytes, w16, w32}
use Rattle.ipx_wire.specs.Numbers.{no_checksum, local_network}
use Rattle.ipx_wire.specs.Packet.{Parts, packet_of}
use Rattle.ipx_wire.specs.Piece.{piece}
use Rattle.ipx_wire.specs.Sap.{sap_of}
use Rattle.ipx_wire.specs.declared.network.Network.{Network}
use Rattle.ipx_wire.specs.declared.packet.PacketFault.{PacketFault}
use Rattle.ipx_wire.specs.declared.sap.Sap.{Sap}
use Rattle.ipx_wire.specs.declared.sap.Sap.TheVariants.{Query, Response}
use Rattle.ipx_wire.specs.declared.sap.SapFault.{SapFault}
use Rattle.ipx_router.specs.Port.{Port}
use Rattle.ipx_router.specs.Why.{is_near, is_for_sap}
use Rattle.ipx_edge.specs.Places.{checksum_place, source_place, service_place, hops_place, retold, with_at}

-- ---- one number

-- the four bytes from a place on say 0
abbrev pub is_unnumbered : ℕ → List ℕ → Bool
is_unnumbered place bytes = from_be_bytes w32 (piece bytes place 4) == local_network

-- a network's number in that place, and no checksum, since none is computed
abbrev pub with_number : Network → ℕ → List ℕ → List ℕ
with_number network place bytes =
    with_at checksum_place (to_be_bytes w16 no_checksum) (with_at place (to_be_bytes w32 network.0) bytes)

-- ---- the source, and services

-- the source's network, where it is 0
abbrev pub with_source : Port → List ℕ → List ℕ
with_source port bytes = if is_unnumbered source_place bytes then with_number port.network source_place bytes else bytes

-- service number k says 0, and that no router lies before it: then 0 means the network at hand. What is further off was retold by a router
-- that didn't fill it in, and nobody knows which network it meant
abbrev pub is_own_service : ℕ → List ℕ → Bool
is_own_service k bytes =
    is_unnumbered (service_place k) bytes && nat_lt (from_be_bytes w16 (piece bytes (hops_place k) 2)) retold

-- its network, where it is such a service
abbrev pub with_service : Port → ℕ → List ℕ → List ℕ
with_service port k bytes = if is_own_service k bytes then with_number port.network (service_place k) bytes else bytes

-- those of the first n services
abbrev pub with_services : Port → ℕ → List ℕ → List ℕ
with_services port zero bytes = bytes
with_services port (suc n) bytes = with_service port n (with_services port n bytes)

-- ---- a packet

-- how many services data advertise
abbrev pub services_in : Result Sap SapFault → ℕ
services_in (Ok (Query nearest kind)) = 0
services_in (Ok (Response nearest entries)) = length entries
services_in (Err fault) = 0

-- how many a packet advertises to the port's network
abbrev pub services_told : Port → Parts → ℕ
services_told port p = if is_near port p.header && is_for_sap p.header then services_in (sap_of p.payload) else 0

abbrev pub numbered_in : Port → Result Parts PacketFault → List ℕ → List ℕ
numbered_in port (Ok p) bytes = with_services port (services_told port p) (with_source port bytes)
numbered_in port (Err fault) bytes = bytes

-- bytes that came from the port's network, with its number wherever a packet there says 0 for it: as the network of the source, and as that
-- of a service which is advertised there. All other bytes are as they came
unfoldable pub numbered : Port → List ℕ → List ℕ
numbered port bytes = numbered_in port (packet_of bytes) bytes
