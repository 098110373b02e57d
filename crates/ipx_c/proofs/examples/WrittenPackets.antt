-- What C writes, and why it writes nothing.
use Rattle.std.proofs.Common.{◌≡◌, ℕ, List, [], ◌∷◌, ◌++◌, Ok, Err, true, false, refl, codes, replicate}
use Rattle.ipx_wire.specs.Address.{address_bytes}
use Rattle.ipx_wire.specs.Header.{header_bytes}
use Rattle.ipx_wire.specs.Name.{name_of, name_field}
use Rattle.ipx_wire.specs.Rip.{entry_bytes}
use Rattle.ipx_wire.specs.WriteServices.{service_bytes}
use Rattle.ipx_c.specs.Writes.{rip_written, query_written, sap_written, packet_written, buffer_written}
use Rattle.ipx_c.specs.declared.fault.Fault.TheVariants.{ShortBuffer, Operation, NoEntries, ManyEntries, Name}
use Rattle.ipx_c.specs.declared.values.AddressValues.{AddressValues}
use Rattle.ipx_c.specs.declared.values.RouteEntry.{RouteEntry}
use Rattle.ipx_c.specs.declared.values.ServiceEntry.{ServiceEntry}

-- node 2 of network 10h, and all nodes there
abbrev from : ℕ → AddressValues
from socket = record { network = 0x10; node = 0 ∷ 0 ∷ 0 ∷ 0 ∷ 0 ∷ 2 ∷ []; socket = socket }

abbrev to : ℕ → AddressValues
to socket = record { network = 0x10; node = replicate 6 0xff; socket = socket }

-- the header of a packet of that length and type from node 2 to all, to a socket from a socket
abbrev headed : ℕ → ℕ → List ℕ → List ℕ → List ℕ
headed length kind to_socket from_socket =
    (0xff ∷ 0xff ∷ 0 ∷ length ∷ 0 ∷ kind ∷ []) ++ (0 ∷ 0 ∷ 0 ∷ 0x10 ∷ []) ++ replicate 6 0xff ++ to_socket
    ++ (0 ∷ 0 ∷ 0 ∷ 0x10 ∷ []) ++ (0 ∷ 0 ∷ 0 ∷ 0 ∷ 0 ∷ 2 ∷ []) ++ from_socket

-- the sockets 453h, 452h, 455h and 4003h
abbrev rip : List ℕ
rip = 4 ∷ 0x53 ∷ []

abbrev sap : List ℕ
sap = 4 ∷ 0x52 ∷ []

abbrev netbios : List ℕ
netbios = 4 ∷ 0x55 ∷ []

abbrev own : List ℕ
own = 0x40 ∷ 3 ∷ []

-- one router away, two ticks
abbrev near : ℕ → RouteEntry
near network = record { network = network; hops = 1; ticks = 2 }

-- a file server of that name, on node 1 of network 20h
abbrev server : List ℕ → ServiceEntry
server name = record { name = name; network = 0x20; node = 0 ∷ 0 ∷ 0 ∷ 0 ∷ 0 ∷ 1 ∷ []; socket = 0x451; kind = 4; hops = 1 }

-- a response of one route
advertises : rip_written (from 0x453) (to 0x453) 2 (near 0x20 ∷ []) 40
    ≡ Ok (headed 40 1 rip rip ++ (0 ∷ 2 ∷ []) ++ (0 ∷ 0 ∷ 0 ∷ 0x20 ∷ 0 ∷ 1 ∷ 0 ∷ 2 ∷ []))
unfolding header_bytes address_bytes entry_bytes
advertises = refl

-- a buffer of 39 bytes has no room for it
too_short : rip_written (from 0x453) (to 0x453) 2 (near 0x20 ∷ []) 39 ≡ Err ShortBuffer
too_short = refl

-- 3 is neither a request nor a response
unknown : rip_written (from 0x453) (to 0x453) 3 (near 0x20 ∷ []) 40 ≡ Err Operation
unknown = refl

-- of several reasons the first is told
nothing : rip_written (from 0x453) (to 0x453) 2 [] 0 ≡ Err NoEntries
nothing = refl

-- 51 routes
too_many : rip_written (from 0x453) (to 0x453) 2 (replicate 51 (near 0x20)) 1000 ≡ Err ManyEntries
too_many = refl

-- a query for the nearest file server
asks : query_written (from 0x4003) (to 0x452) true 4 576
    ≡ Ok (headed 34 4 sap own ++ (0 ∷ 3 ∷ 0 ∷ 4 ∷ []))
unfolding header_bytes address_bytes
asks = refl

-- a name ends at its first zero, and what comes behind isn't written
offers : sap_written (from 0x452) (to 0x452) false (server (codes "FILES" ++ 0 ∷ replicate 42 0x2a) ∷ []) 96
    ≡ Ok (headed 96 4 sap sap ++ (0 ∷ 2 ∷ []) ++ (0 ∷ 4 ∷ []) ++ codes "FILES" ++ replicate 43 0
    ++ (0 ∷ 0 ∷ 0 ∷ 0x20 ∷ 0 ∷ 0 ∷ 0 ∷ 0 ∷ 0 ∷ 1 ∷ 4 ∷ 0x51 ∷ []) ++ (0 ∷ 1 ∷ []))
unfolding header_bytes address_bytes service_bytes name_of name_field
offers = refl

-- a field that begins with a zero has no name
nameless : sap_written (from 0x452) (to 0x452) false (server (replicate 48 0) ∷ []) 96 ≡ Err Name
unfolding name_of
nameless = refl

-- nor has one without a zero
unended : sap_written (from 0x452) (to 0x452) false (server (replicate 48 0x2a) ∷ []) 96 ≡ Err Name
unfolding name_of
unended = refl

-- two bytes of data, in a packet of type 20 that has crossed no network; the rest of the buffer is as it was
data_behind : buffer_written (packet_written (from 0x4003) (to 0x455) 20 0 (1 ∷ 2 ∷ []) 33) (replicate 33 9)
    ≡ headed 32 20 netbios own ++ (1 ∷ 2 ∷ []) ++ (9 ∷ [])
unfolding header_bytes address_bytes
data_behind = refl
