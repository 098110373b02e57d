-- Packets that C writes: by the definitions of `ipx_wire`, over the values that C gives.
use Rattle.std.specs.Prelude.{ℕ, ◌+◌, ◌*◌, ◌==◌, nat_le, nat_lt, not, Bool, if◌then◌else◌, List, ◌++◌, length, drop, map, Option, None, Some, is_some, Result, Ok, Err}
use Rattle.std.specs.List.{list_all}
use Rattle.ipx_wire.specs.Name.{before_zero, name_of}
use Rattle.ipx_wire.specs.Numbers.{most_entries, most_services}
use Rattle.ipx_wire.specs.Packet.{Parts}
use Rattle.ipx_wire.specs.Rip.{operation_of}
use Rattle.ipx_wire.specs.Write.{own_header, packet_bytes, rip_packet, query_packet}
use Rattle.ipx_wire.specs.WriteServices.{sap_packet}
use Rattle.ipx_wire.specs.declared.address.Address.{Address}
use Rattle.ipx_wire.specs.declared.rip.RipEntry.{RipEntry}
use Rattle.ipx_wire.specs.declared.service.Service.{Service}
use Rattle.ipx_c.specs.declared.fault.Fault.{Fault}
use Rattle.ipx_c.specs.declared.fault.Fault.TheVariants.{ShortBuffer, Operation, NoEntries, ManyEntries, Name, LongPacket}
use Rattle.ipx_c.specs.declared.values.AddressValues.{AddressValues}
use Rattle.ipx_c.specs.declared.values.RouteEntry.{RouteEntry}
use Rattle.ipx_c.specs.declared.values.ServiceEntry.{ServiceEntry}

-- ---- values

abbrev pub address_with : ℕ → List ℕ → ℕ → Address
address_with network node socket = record {
  network = record { 0 = network };
  node = record { 0 = node };
  socket = record { 0 = socket };
}

abbrev pub address_of : AddressValues → Address
address_of v = address_with v.network v.node v.socket

abbrev pub entry_of : RouteEntry → RipEntry
entry_of v = record { network = record { 0 = v.network }; hops = v.hops; ticks = v.ticks }

-- whether the field has a name: 1 to 47 bytes before its first zero
abbrev pub is_named : ServiceEntry → Bool
is_named v = is_some (name_of v.name)

-- the service of a field that has a name
abbrev pub service_of : ServiceEntry → Service
service_of v = record {
  kind = v.kind;
  name = before_zero v.name;
  address = address_with v.network v.node v.socket;
  hops = v.hops;
}

-- the services, where every field has a name
abbrev pub services_of : List ServiceEntry → Option (List Service)
services_of values = if list_all is_named values then Some (map service_of values) else None

-- yes or no: 0 is no
abbrev pub is_yes : ℕ → Bool
is_yes number = not (number == 0)

-- the most bytes that a packet counts
abbrev pub most_length : ℕ
most_length = 65535

-- ---- what is written, or why nothing is: the first reason that holds

-- so many entries, of at least one and at most so many, and then the rest
abbrev pub counted : ℕ → ℕ → Result (List ℕ) Fault → Result (List ℕ) Fault
counted count most rest =
    if count == 0 then Err NoEntries else if nat_lt most count then Err ManyEntries else rest

-- a packet of that size, where the buffer has room for it
abbrev pub fitted : ℕ → List ℕ → ℕ → Result (List ℕ) Fault
fitted size packet room = if nat_le size room then Ok packet else Err ShortBuffer

-- routing information: 32 bytes, and 8 for each route
abbrev pub rip_written : AddressValues → AddressValues → ℕ → List RouteEntry → ℕ → Result (List ℕ) Fault
rip_written from to number values room = elim (operation_of number) [
  | None ↦ Err Operation
  | Some operation ↦
      counted (length values) most_entries
      (fitted (32 + 8 * length values) (rip_packet (address_of from) (address_of to) operation (map entry_of values)) room)
]

-- a query for services, all or the nearest: 34 bytes
abbrev pub query_written : AddressValues → AddressValues → Bool → ℕ → ℕ → Result (List ℕ) Fault
query_written from to nearest kind room = fitted 34 (query_packet (address_of from) (address_of to) nearest kind) room

-- a response of services, general or to a query for the nearest: 32 bytes, and 64 for each service
abbrev pub sap_written : AddressValues → AddressValues → Bool → List ServiceEntry → ℕ → Result (List ℕ) Fault
sap_written from to nearest values room =
    counted (length values) most_services (elim (services_of values) [
      | None ↦ Err Name
      | Some services ↦ fitted (32 + 64 * length values) (sap_packet (address_of from) (address_of to) nearest services) room
    ])

-- a packet of any type and data, without a checksum: 30 bytes, and the data
abbrev pub parts_of : AddressValues → AddressValues → ℕ → ℕ → List ℕ → Parts
parts_of from to kind control payload = record {
  header = record (own_header kind (address_of from) (address_of to) (length payload)) { control = control };
  payload = payload;
}

abbrev pub packet_written : AddressValues → AddressValues → ℕ → ℕ → List ℕ → ℕ → Result (List ℕ) Fault
packet_written from to kind control payload room =
    if nat_lt most_length (30 + length payload) then Err LongPacket
    else fitted (30 + length payload) (packet_bytes (parts_of from to kind control payload)) room

-- ---- what C has of it

-- the buffer: the packet, and behind it what it had
abbrev pub buffer_written : Result (List ℕ) Fault → List ℕ → List ℕ
buffer_written (Ok packet) buffer = packet ++ drop (length packet) buffer
buffer_written (Err fault) buffer = buffer

-- how many bytes were written
abbrev pub count_written : Result (List ℕ) Fault → Result ℕ Fault
count_written (Ok packet) = Ok (length packet)
count_written (Err fault) = Err fault
