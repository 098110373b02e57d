-- What a router hears (IPX Router Specification, RIP and SAP packets): near packets that no check drops.
use Rattle.std.specs.Prelude.{ℕ, Bool, if◌then◌else◌, List, [], Option, None, Some, Ok, Err}
use Rattle.ipx_wire.specs.Packet.{Parts, packet_of}
use Rattle.ipx_wire.specs.Rip.{RipParts, rip_of}
use Rattle.ipx_wire.specs.Sap.{sap_of}
use Rattle.ipx_wire.specs.declared.address.Address.{Address}
use Rattle.ipx_wire.specs.declared.sap.Sap.{Sap}
use Rattle.ipx_router.specs.Port.{Port, port_at}
use Rattle.ipx_router.specs.Why.{is_near, is_for_rip, why}

-- routing information or service advertising, and who sent it
pub data Heard : Type 0 where
  HeardRip : (source : Address) (rip : RipParts) → Heard
  HeardSap : (source : Address) (sap : Sap) → Heard

-- what the data say, by the socket that they are for
abbrev pub heard_in : Parts → Option Heard
heard_in p =
    if is_for_rip p.header then elim (rip_of p.payload) [ Ok rip ↦ Some (HeardRip p.header.source rip) | Err fault ↦ None ]
    else elim (sap_of p.payload) [ Ok sap ↦ Some (HeardSap p.header.source sap) | Err fault ↦ None ]

-- what a packet says, if it is near
abbrev pub heard_near : Port → Parts → Option Heard
heard_near port p = if is_near port p.header then heard_in p else None

-- what is heard on a port: what a near packet says that no check drops; no check asks a near packet about routes, so it is
-- judged as with none
abbrev pub heard : List Port → List ℕ → Bool → ℕ → List ℕ → Option Heard
heard ports up running number bytes =
    elim (why ports up [] running number bytes) [
      | Some reason ↦ None
      | None ↦ elim (packet_of bytes) [ Ok p ↦ heard_near (port_at ports number) p | Err fault ↦ None ]
    ]
