-- The responses that a router sends of its own.
use Rattle.std.specs.Prelude.{ℕ, ◌+◌, ◌*◌, ◌<◌, ◌^◌, Bool, List, ◌++◌, length, Some}
use Rattle.std.specs.Int.{to_be_bytes, w16}
use Rattle.std.specs.List.{flat_map}
use Rattle.ipx_wire.specs.Address.{IsAddress, address_bytes}
use Rattle.ipx_wire.specs.Header.{header_bytes}
use Rattle.ipx_wire.specs.Name.{IsServiceName, name_field}
use Rattle.ipx_wire.specs.Numbers.{sap_type}
use Rattle.ipx_wire.specs.Packet.{Parts}
use Rattle.ipx_wire.specs.Sap.{response_number}
use Rattle.ipx_wire.specs.Write.{own_header, packet_bytes}
use Rattle.ipx_wire.specs.declared.address.Address.{Address}
use Rattle.ipx_wire.specs.declared.sap_entries.SapEntry.{SapEntry}
use Rattle.ipx_wire.specs.declared.service.Service.{Service}

-- each field is a number of its width, and the name is one
pub record IsService (s : Service) : Type 0 where
  pub kind : s.kind < 2 ^ 16
  pub named : IsServiceName s.name
  pub address : IsAddress s.address
  pub hops : s.hops < 2 ^ 16

-- the 64 bytes of a service: type 2, name 48 with zeros behind it, address 12, hops 2
unfoldable pub service_bytes : Service → List ℕ
service_bytes s = to_be_bytes w16 s.kind ++ name_field s.name ++ address_bytes s.address ++ to_be_bytes w16 s.hops

-- the entry that a service is read as
abbrev pub entry_of : Service → SapEntry
entry_of s = record { kind = s.kind; name = Some s.name; address = s.address; hops = s.hops }

-- the data of a response: the operation and the services, and nothing behind them
abbrev pub sap_payload : Bool → List Service → List ℕ
sap_payload nearest services = to_be_bytes w16 (response_number nearest) ++ flat_map service_bytes services

-- what stands before the services of a response of that many: the header and the operation, 32 bytes
abbrev pub sap_front : Address → Address → Bool → ℕ → List ℕ
sap_front from to nearest count =
    header_bytes (own_header sap_type from to (2 + 64 * count)) ++ to_be_bytes w16 (response_number nearest)

-- a response
abbrev pub sap_packet_parts : Address → Address → Bool → List Service → Parts
sap_packet_parts from to nearest services = record {
  header = own_header sap_type from to (2 + 64 * length services);
  payload = sap_payload nearest services;
}

-- the bytes of a response
abbrev pub sap_packet : Address → Address → Bool → List Service → List ℕ
sap_packet from to nearest services = packet_bytes (sap_packet_parts from to nearest services)
