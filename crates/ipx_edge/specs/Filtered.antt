-- What passes a filter: a packet as it came, or without the routes or services that are denied, or nothing (own).
use Rattle.std.specs.Prelude.{ℕ, Bool, true, false, ◌+◌, ◌-◌, ◌/◌, ◌==◌, ◌&&◌, if◌then◌else◌, List, [], ◌∷◌, ◌++◌, length, take, drop, Option, None, Some, Result, Ok, Err}
use Rattle.std.specs.Int.{to_be_bytes, w16}
use Rattle.std.specs.List.{filter, concat}
use Rattle.ipx_wire.specs.Items.{items}
use Rattle.ipx_wire.specs.Numbers.{no_checksum, rip_socket, sap_socket, header_size, operation_size, entry_size, service_size}
use Rattle.ipx_wire.specs.Packet.{Parts, packet_of}
use Rattle.ipx_wire.specs.Rip.{RipParts, entry_at, rip_of}
use Rattle.ipx_wire.specs.Sap.{sap_of}
use Rattle.ipx_wire.specs.SapEntries.{sap_entry_at}
use Rattle.ipx_wire.specs.declared.header.Header.{Header}
use Rattle.ipx_wire.specs.declared.packet.PacketFault.{PacketFault}
use Rattle.ipx_wire.specs.declared.rip.Operation.TheVariants.{Request, Response as RipResponse}
use Rattle.ipx_wire.specs.declared.rip.RipFault.{RipFault}
use Rattle.ipx_wire.specs.declared.sap.Sap.{Sap}
use Rattle.ipx_wire.specs.declared.sap.Sap.TheVariants.{Query, Response}
use Rattle.ipx_wire.specs.declared.sap.SapFault.{SapFault}
use Rattle.ipx_router.specs.Port.{Port}
use Rattle.ipx_router.specs.Why.{is_near, is_for_rip, is_for_sap, is_own_echo}
use Rattle.ipx_edge.specs.Places.{checksum_place, length_place, with_at}
use Rattle.ipx_edge.specs.Rules.{names_packet, names_route, names_service, permits}
use Rattle.ipx_edge.specs.declared.rule.Rule.{Rule}
use Rattle.ipx_edge.specs.declared.rule.Way.{Way}
use Rattle.ipx_edge.specs.declared.rule.Way.TheVariants.{In, Out}

-- ---- packets with routes or services

-- to the router's RIP process on the cable, or from it
abbrev pub is_routing : Way → Port → Header → Bool
is_routing In port h = is_near port h && is_for_rip h
is_routing Out port h = is_own_echo port h && (h.source.socket.0 == rip_socket)

-- to its SAP process, or from it
abbrev pub is_advertising : Way → Port → Header → Bool
is_advertising In port h = is_near port h && is_for_sap h
is_advertising Out port h = is_own_echo port h && (h.source.socket.0 == sap_socket)

abbrev pub lists_routes : Result RipParts RipFault → Bool
lists_routes (Ok r) = elim r.operation [ RipResponse ↦ true | Request ↦ false ]
lists_routes (Err fault) = false

abbrev pub lists_services : Result Sap SapFault → Bool
lists_services (Ok (Query nearest kind)) = false
lists_services (Ok (Response nearest entries)) = true
lists_services (Err fault) = false

-- ---- entries

-- the entries of data, each as its bytes
abbrev pub pieces : ℕ → List ℕ → List (List ℕ)
pieces size payload = items (take size) size ((length payload - operation_size) / size) (drop operation_size payload)

-- a packet with these entries in the place of its own: header and operation as they came, but for the length, and no checksum
abbrev pub with_entries : List (List ℕ) → List ℕ → List ℕ
with_entries entries bytes =
    with_at checksum_place (to_be_bytes w16 no_checksum)
    (with_at length_place (to_be_bytes w16 (header_size + operation_size + length (concat entries))) (take (header_size + operation_size) bytes ++ concat entries))

-- a response without entries isn't sent
abbrev pub with_some : List (List ℕ) → List ℕ → Option (List ℕ)
with_some [] bytes = None
with_some (e ∷ es) bytes = Some (with_entries (e ∷ es) bytes)

-- one that loses none stays as it is
abbrev pub with_kept : ℕ → List (List ℕ) → List ℕ → Option (List ℕ)
with_kept all kept bytes = if length kept == all then Some bytes else with_some kept bytes

abbrev pub without : (List ℕ → Bool) → ℕ → List ℕ → List ℕ → Option (List ℕ)
without passes size payload bytes = with_kept (length (pieces size payload)) (filter passes (pieces size payload)) bytes

-- ---- a packet

abbrev pub route_passes : Way → List Rule → List ℕ → Bool
route_passes way rules e = permits (names_route way (entry_at e 0)) rules

abbrev pub service_passes : Way → List Rule → List ℕ → Bool
service_passes way rules e = permits (names_service way (sap_entry_at e)) rules

abbrev pub filtered_in : Way → Port → List Rule → Result Parts PacketFault → List ℕ → Option (List ℕ)
filtered_in way port rules (Err fault) bytes = Some bytes
filtered_in way port rules (Ok p) bytes =
    if permits (names_packet port p) rules then
    if is_routing way port p.header && lists_routes (rip_of p.payload) then without (route_passes way rules) entry_size p.payload bytes
    else if is_advertising way port p.header && lists_services (sap_of p.payload) then without (service_passes way rules) service_size p.payload bytes
    else Some bytes
    else None

-- the bytes that pass for those that come in from the port's cable or go out to it, if any do; what is no packet passes
unfoldable pub filtered : Way → Port → List Rule → List ℕ → Option (List ℕ)
filtered way port rules bytes = filtered_in way port rules (packet_of bytes) bytes
