-- Answers to queries for the nearest service that name none that is nearer than one on the asker's cable (own).
use Rattle.std.specs.Prelude.{ℕ, Bool, false, ◌&&◌, nat_le, List, Result, Ok, Err}
use Rattle.std.specs.List.{list_all}
use Rattle.ipx_wire.specs.Packet.{Parts, packet_of}
use Rattle.ipx_wire.specs.Sap.{sap_of}
use Rattle.ipx_wire.specs.declared.packet.PacketFault.{PacketFault}
use Rattle.ipx_wire.specs.declared.sap.Sap.{Sap}
use Rattle.ipx_wire.specs.declared.sap.Sap.TheVariants.{Query, Response}
use Rattle.ipx_wire.specs.declared.sap.SapFault.{SapFault}
use Rattle.ipx_router.specs.Port.{Port}
use Rattle.ipx_edge.specs.Filtered.{is_advertising}
use Rattle.ipx_edge.specs.declared.rule.Way.TheVariants.{Out}

-- an answer to such a query, of which each service is this many hops away or more
abbrev pub is_no_nearer : ℕ → Result Sap SapFault → Bool
is_no_nearer hops (Ok (Query nearest kind)) = false
is_no_nearer hops (Ok (Response nearest entries)) = nearest && list_all (λ e. nat_le hops e.hops) entries
is_no_nearer hops (Err fault) = false

abbrev pub is_needless_in : Port → ℕ → Result Parts PacketFault → Bool
is_needless_in port hops (Ok p) = is_advertising Out port p.header && is_no_nearer hops (sap_of p.payload)
is_needless_in port hops (Err fault) = false

-- one that the router sends on the port
abbrev pub is_needless : Port → ℕ → List ℕ → Bool
is_needless port hops bytes = is_needless_in port hops (packet_of bytes)
