-- The bytes of a packet are bytes, where its nodes, its names and its data are; and the parts of a packet that came are.
use Rattle.std.proofs.Common.{arith}
use Rattle.std.proofs.Common.{rules}
use Rattle.std.proofs.Common.{subst, ℕ, ◌-◌, ◌<◌, List, [], ◌∷◌, ◌++◌, length, replicate, Bool, Option, None, Some, IfSome, lit<}
use Rattle.std.specs.Int.{to_be_bytes, w16, w32}
use Rattle.std.specs.List.{AllByRecursion, flat_map}
use Rattle.ipx_wire.specs.Address.{IsAddress, address_bytes}
use Rattle.ipx_wire.specs.Crossed.{network_bytes}
use Rattle.ipx_wire.specs.Forward.{crossing}
use Rattle.ipx_wire.specs.Header.{header_bytes}
use Rattle.ipx_wire.specs.Name.{name_field}
use Rattle.ipx_wire.specs.Packet.{Parts, IsPacket}
use Rattle.ipx_wire.specs.Piece.{IsBytes}
use Rattle.ipx_wire.specs.Rip.{IsEntry, entry_bytes, operation_number}
use Rattle.ipx_wire.specs.Sap.{response_number}
use Rattle.ipx_wire.specs.SapEntries.{Stored, IsNamed, stored_bytes}
use Rattle.ipx_wire.specs.Write.{packet_bytes, rip_packet, rip_packet_parts, query_packet, query_packet_parts, query_number}
use Rattle.ipx_wire.specs.WriteServices.{IsService, service_bytes, sap_packet, sap_packet_parts}
use Rattle.ipx_wire.specs.declared.address.Address.{Address}
use Rattle.ipx_wire.specs.declared.header.Header.{Header}
use Rattle.ipx_wire.specs.declared.network.Network.{Network}
use Rattle.ipx_wire.specs.declared.rip.Operation.{Operation}
use Rattle.ipx_wire.specs.declared.rip.RipEntry.{RipEntry}
use Rattle.ipx_wire.specs.declared.service.Service.{Service}
use Rattle.ipx_router.proofs.bytes.ListsOfBytes.{bytes_before, bytes_behind, bytes_taken, bytes_dropped, one_byte, bytes_both, bytes_same, bytes_16, bytes_32, bytes_all}

-- an address in its ranges, whose node is bytes
pub record IsPlace (a : Address) : Type 0 where
  pub ranges : IsAddress a
  pub node : IsBytes a.node.0

-- a service in its ranges, whose name and node are bytes
pub record IsTellable (s : Service) : Type 0 where
  pub ranges : IsService s
  pub name : IsBytes s.name
  pub node : IsBytes s.address.node.0

-- ---- parts of a packet that came

-- the node in the bytes of an address
address_node : (a : Address) → IsBytes (address_bytes a) → IsBytes a.node.0
unfolding address_bytes
address_node a are =
    bytes_behind (to_be_bytes w32 a.network.0) a.node.0
    (bytes_before (to_be_bytes w32 a.network.0 ++ a.node.0) (to_be_bytes w16 a.socket.0) are)

-- a packet's nodes and its data are bytes
pub record ArePartsBytes (p : Parts) : Type 0 where
  pub destination : IsBytes p.header.destination.node.0
  pub source : IsBytes p.header.source.node.0
  pub payload : IsBytes p.payload

-- so they are where the packet came as bytes
pub parts_bytes : (bytes : List ℕ) (p : Parts) → IsBytes bytes → IsPacket bytes p → ArePartsBytes p
unfolding header_bytes
parts_bytes bytes p are is =
    let h = p.header in
    let all : IsBytes (header_bytes h ++ p.payload ++ is.padding) = subst IsBytes is.layout are in
    let own : IsBytes (header_bytes h ++ p.payload) = bytes_before (header_bytes h ++ p.payload) is.padding all in
    let front = to_be_bytes w16 h.checksum ++ to_be_bytes w16 h.length ++ (h.control ∷ []) ++ (h.kind ∷ []) in
    let head : IsBytes (front ++ address_bytes h.destination ++ address_bytes h.source) = bytes_before (header_bytes h) p.payload own in
    record {
      destination =
          address_node h.destination (bytes_behind front (address_bytes h.destination)
          (bytes_before (front ++ address_bytes h.destination) (address_bytes h.source) head));
      source = address_node h.source (bytes_behind (front ++ address_bytes h.destination) (address_bytes h.source) head);
      payload = bytes_behind (header_bytes h) p.payload own;
    }

-- the field of the name, and the node, in the bytes of an entry
pub stored_field : (s : Stored) → IsBytes (stored_bytes s) → IsBytes s.field
unfolding stored_bytes
stored_field s are =
    let kind = to_be_bytes w16 s.entry.kind in
    let address = address_bytes s.entry.address in
    bytes_behind kind s.field (bytes_before (kind ++ s.field) address (bytes_before (kind ++ s.field ++ address) (to_be_bytes w16 s.entry.hops) are))

pub stored_node : (s : Stored) → IsBytes (stored_bytes s) → IsBytes s.entry.address.node.0
unfolding stored_bytes
stored_node s are =
    let front = to_be_bytes w16 s.entry.kind ++ s.field in
    let address = address_bytes s.entry.address in
    address_node s.entry.address (bytes_behind front address (bytes_before (front ++ address) (to_be_bytes w16 s.entry.hops) are))

-- the name, if the field has one
pub name_bytes : (field : List ℕ) (name : Option (List ℕ)) → IsNamed field name → IsBytes field → IfSome name IsBytes
name_bytes field None is are = tt
name_bytes field (Some name) is are =
    let all : IsBytes (name ++ 0 ∷ is.rest) = subst IsBytes is.layout are in
    bytes_before name (0 ∷ is.rest) all

-- ---- a packet, of any nodes and data that are bytes

address_are_bytes : (a : Address) → IsBytes a.node.0 → IsBytes (address_bytes a)
unfolding address_bytes
address_are_bytes a node = grind (arith, bytes_both, bytes_32, bytes_16)

header_are_bytes : (h : Header) → h.control < 256 → h.kind < 256 → IsBytes h.destination.node.0 → IsBytes h.source.node.0 → IsBytes (header_bytes h)
unfolding header_bytes
header_are_bytes h control kind to from = grind (arith, bytes_both, bytes_16, one_byte, address_are_bytes)

pub packet_are_bytes : (p : Parts) → p.header.control < 256 → p.header.kind < 256 → ArePartsBytes p → IsBytes (packet_bytes p)
packet_are_bytes p control kind are = grind (arith, bytes_both, header_are_bytes)

-- data with a network written into them
pub crossing_bytes : (control : ℕ) (network : Network) (payload : List ℕ) → IsBytes payload → IsBytes (crossing control network payload)
unfolding network_bytes
crossing_bytes control network payload are = search (rules, bytes_both, bytes_taken, bytes_32, bytes_dropped)

-- ---- a packet of the router's own

entry_are_bytes : (e : RipEntry) → IsEntry e → IsBytes (entry_bytes e)
unfolding entry_bytes
entry_are_bytes e is = search (rules, bytes_both, bytes_32, bytes_16)

pub rip_are_bytes : (from to : Address) (operation : Operation) (entries : List RipEntry) → IsBytes from.node.0 → IsBytes to.node.0
    → AllByRecursion IsEntry entries → IsBytes (rip_packet from to operation entries)
rip_are_bytes from to operation entries from_is to_is all =
    packet_are_bytes (rip_packet_parts from to operation entries) (lit< tt) (lit< tt) (record {
      destination = to_is;
      source = from_is;
      payload =
          bytes_both (to_be_bytes w16 (operation_number operation)) (flat_map entry_bytes entries) (bytes_16 (operation_number operation))
          (bytes_all entry_bytes IsEntry entry_are_bytes entries all);
    })

pub query_are_bytes : (from to : Address) (nearest : Bool) (kind : ℕ) → IsBytes from.node.0 → IsBytes to.node.0
    → IsBytes (query_packet from to nearest kind)
query_are_bytes from to nearest kind from_is to_is =
    packet_are_bytes (query_packet_parts from to nearest kind) (lit< tt) (lit< tt) (record {
      destination = to_is;
      source = from_is;
      payload =
          bytes_both (to_be_bytes w16 (query_number nearest)) (to_be_bytes w16 kind) (bytes_16 (query_number nearest)) (bytes_16 kind);
    })

field_bytes : (name : List ℕ) → IsBytes name → IsBytes (name_field name)
unfolding name_field
field_bytes name are = bytes_both name (replicate (48 - length name) 0) are (bytes_same (48 - length name) 0 (lit< tt))

service_are_bytes : (s : Service) → IsTellable s → IsBytes (service_bytes s)
unfolding service_bytes
service_are_bytes s is =
    let front = to_be_bytes w16 s.kind ++ name_field s.name in
    bytes_both (front ++ address_bytes s.address) (to_be_bytes w16 s.hops)
    (bytes_both front (address_bytes s.address)
    (bytes_both (to_be_bytes w16 s.kind) (name_field s.name) (bytes_16 s.kind) (field_bytes s.name is.name))
    (address_are_bytes s.address is.node))
    (bytes_16 s.hops)

pub sap_are_bytes : (from to : Address) (nearest : Bool) (services : List Service) → IsBytes from.node.0 → IsBytes to.node.0
    → AllByRecursion IsTellable services → IsBytes (sap_packet from to nearest services)
sap_are_bytes from to nearest services from_is to_is all =
    packet_are_bytes (sap_packet_parts from to nearest services) (lit< tt) (lit< tt) (record {
      destination = to_is;
      source = from_is;
      payload =
          bytes_both (to_be_bytes w16 (response_number nearest)) (flat_map service_bytes services) (bytes_16 (response_number nearest))
          (bytes_all service_bytes IsTellable service_are_bytes services all);
    })
