-- The packets that a router sends of its own.
use Rattle.std.specs.Prelude.{ℕ, ◌+◌, ◌*◌, Bool, if◌then◌else◌, List, ◌++◌, length}
use Rattle.std.specs.Int.{to_be_bytes, w16}
use Rattle.std.specs.List.{flat_map}
use Rattle.ipx_wire.specs.Header.{header_bytes}
use Rattle.ipx_wire.specs.Numbers.{no_checksum, rip_type, sap_type}
use Rattle.ipx_wire.specs.Packet.{Parts}
use Rattle.ipx_wire.specs.Rip.{entry_bytes, operation_number}
use Rattle.ipx_wire.specs.declared.address.Address.{Address}
use Rattle.ipx_wire.specs.declared.header.Header.{Header}
use Rattle.ipx_wire.specs.declared.rip.Operation.{Operation}
use Rattle.ipx_wire.specs.declared.rip.RipEntry.{RipEntry}

-- the header of a router's own packet: no checksum (own), transport control 0, and that many bytes of data
abbrev pub own_header : ℕ → Address → Address → ℕ → Header
own_header kind from to size = record {
  checksum = no_checksum;
  length = 30 + size;
  control = 0;
  kind = kind;
  destination = to;
  source = from;
}

-- the data of a routing information packet: the operation and the entries, and nothing behind them
abbrev pub rip_payload : Operation → List RipEntry → List ℕ
rip_payload operation entries = to_be_bytes w16 (operation_number operation) ++ flat_map entry_bytes entries

-- a routing information packet
abbrev pub rip_packet_parts : Address → Address → Operation → List RipEntry → Parts
rip_packet_parts from to operation entries = record {
  header = own_header rip_type from to (2 + 8 * length entries);
  payload = rip_payload operation entries;
}

-- the number of a query's operation: 1 general, 3 nearest
abbrev pub query_number : Bool → ℕ
query_number nearest = if nearest then 3 else 1

-- the data of a service query: the operation and the type that is asked for
abbrev pub query_payload : Bool → ℕ → List ℕ
query_payload nearest kind = to_be_bytes w16 (query_number nearest) ++ to_be_bytes w16 kind

-- a service query
abbrev pub query_packet_parts : Address → Address → Bool → ℕ → Parts
query_packet_parts from to nearest kind = record {
  header = own_header sap_type from to 4;
  payload = query_payload nearest kind;
}

-- the bytes of a packet without padding
abbrev pub packet_bytes : Parts → List ℕ
packet_bytes p = header_bytes p.header ++ p.payload

-- the bytes of a routing information packet
abbrev pub rip_packet : Address → Address → Operation → List RipEntry → List ℕ
rip_packet from to operation entries = packet_bytes (rip_packet_parts from to operation entries)

-- the bytes of a service query
abbrev pub query_packet : Address → Address → Bool → ℕ → List ℕ
query_packet from to nearest kind = packet_bytes (query_packet_parts from to nearest kind)
