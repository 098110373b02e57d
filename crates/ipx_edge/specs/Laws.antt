-- The words of the laws.
use Rattle.std.specs.Prelude.{◌≡◌, ℕ, ◌+◌, ◌<◌, ◌≤◌, ◌⊎◌, ◌==◌, ◌&&◌, nat_lt, Bool, true, false, if◌then◌else◌, List, map, Result, Ok, Err}
use Rattle.std.specs.List.{filter, AllByRecursion}
use Rattle.ipx_wire.specs.Numbers.{no_checksum, local_network, entry_size, service_size}
use Rattle.ipx_wire.specs.Packet.{Parts, packet_of}
use Rattle.ipx_wire.specs.Rip.{RipParts, entry_at, rip_of}
use Rattle.ipx_wire.specs.Sap.{sap_of}
use Rattle.ipx_wire.specs.SapEntries.{sap_entry_at}
use Rattle.ipx_wire.specs.declared.network.Network.{Network}
use Rattle.ipx_wire.specs.declared.sap.Sap.{Sap}
use Rattle.ipx_wire.specs.declared.sap.Sap.TheVariants.{Query, Response}
use Rattle.ipx_wire.specs.declared.sap.SapFault.{SapFault}
use Rattle.ipx_wire.specs.declared.sap_entries.SapEntry.{SapEntry}
use Rattle.ipx_router.specs.Heard.{Heard, HeardRip, HeardSap}
use Rattle.ipx_router.specs.Port.{Port}
use Rattle.ipx_router.specs.Why.{is_near, is_for_sap}
use Rattle.ipx_edge.specs.Places.{source_place, service_place, retold}
use Rattle.ipx_edge.specs.Numbered.{services_told, numbered}
use Rattle.ipx_edge.specs.Rules.{names_packet, names_route, names_service, permits}
use Rattle.ipx_edge.specs.Filtered.{pieces}
use Rattle.ipx_edge.specs.declared.rule.Rule.{Rule}
use Rattle.ipx_edge.specs.declared.rule.Way.{Way}

-- ---- what a numbered packet says

-- the port's network for 0, and any other as it is
abbrev pub own_network : Port → Network → Network
own_network port network = if network.0 == local_network then port.network else network

-- a service of network 0 with no router before it is one of the port's network
abbrev pub own_service : Port → SapEntry → SapEntry
own_service port e =
    if (e.address.network.0 == local_network) && nat_lt e.hops retold then record e { address = record e.address { network = port.network } } else e

abbrev pub own_sap : Port → Sap → Sap
own_sap port (Query nearest kind) = Query nearest kind
own_sap port (Response nearest entries) = Response nearest (map (own_service port) entries)

abbrev pub own_services : Port → Result Sap SapFault → Result Sap SapFault
own_services port (Ok sap) = Ok (own_sap port sap)
own_services port (Err fault) = Err fault

-- a packet advertises services, or asks for them, on the port's network
abbrev pub is_for_services : Port → Parts → Bool
is_for_services port p = is_near port p.header && is_for_sap p.header

-- q is p with the port's number in the place of 0: in its source, and in services that are for the port's network. Where there is a
-- checksum it is p's
pub record IsNumbered (port : Port) (p q : Parts) : Type 0 where
  pub header : q.header ≡ record p.header { checksum = q.header.checksum; source = record p.header.source { network = own_network port p.header.source.network } }
  pub checksum : (q.header.checksum ≡ no_checksum) ⊎ (q.header.checksum ≡ p.header.checksum)
  pub services : is_for_services port p ≡ true → sap_of q.payload ≡ own_services port (sap_of p.payload)
  pub other : is_for_services port p ≡ false → q.payload ≡ p.payload

-- ---- places

-- the bytes from a place on end before those four, or begin behind them
abbrev pub IsApart : ℕ → ℕ → ℕ → Type 0
IsApart place count four = (place + count ≤ four) ⊎ (four + 4 ≤ place)

-- the bytes are neither the checksum's nor those of a network's number that is filled in
pub record IsElsewhere (port : Port) (p : Parts) (place count : ℕ) : Type 0 where
  pub checksum : 2 ≤ place
  pub source : IsApart place count source_place
  pub services : (k : ℕ) → k < services_told port p → IsApart place count (service_place k)

-- what was read is read again, with the port's number in the place of 0
pub record IsReadAgain (port : Port) (bytes : List ℕ) (p : Parts) : Type 0 where
  pub packet : Parts
  pub read : packet_of (numbered port bytes) ≡ Ok packet
  pub is : IsNumbered port p packet

-- ---- who is heard

-- what is heard, with the port's number in the place of 0: in its source, and in services
abbrev pub own_words : Port → Heard → Heard
own_words port (HeardRip source rip) = HeardRip (record source { network = own_network port source.network }) rip
own_words port (HeardSap source sap) = HeardSap (record source { network = own_network port source.network }) (own_sap port sap)

-- the bytes are a packet with transport control 0, which each router raises: none carried it
pub record IsDirect (bytes : List ℕ) : Type 0 where
  pub packet : Parts
  pub read : packet_of bytes ≡ Ok packet
  pub control : packet.header.control ≡ 0

-- ---- what passes a filter

-- q is p with another checksum and another length
abbrev pub SameButLength : Parts → Parts → Type 0
SameButLength p q = q.header ≡ record p.header { checksum = q.header.checksum; length = q.header.length }

-- what passes of routes is a packet, and its routes are those that are permitted, in their order
pub record RoutesLeft (way : Way) (rules : List Rule) (p : Parts) (r : RipParts) (new : List ℕ) : Type 0 where
  pub packet : Parts
  pub read : packet_of new ≡ Ok packet
  pub same : SameButLength p packet
  pub routes : rip_of packet.payload ≡ Ok (record { operation = r.operation; entries = filter (λ e. permits (names_route way e) rules) r.entries })

-- the same of services
pub record ServicesLeft (way : Way) (rules : List Rule) (p : Parts) (nearest : Bool) (entries : List SapEntry) (new : List ℕ) : Type 0 where
  pub packet : Parts
  pub read : packet_of new ≡ Ok packet
  pub same : SameButLength p packet
  pub services : sap_of packet.payload ≡ Ok (Response nearest (filter (λ e. permits (names_service way e) rules) entries))

-- no rule names the packet, nor any route or service of it
pub record NamesNothing (way : Way) (port : Port) (rules : List Rule) (p : Parts) : Type 0 where
  pub packet : AllByRecursion (λ rule. names_packet port p rule.what ≡ false) rules
  pub routes : AllByRecursion (λ e. AllByRecursion (λ rule. names_route way (entry_at e 0) rule.what ≡ false) rules) (pieces entry_size p.payload)
  pub services : AllByRecursion (λ e. AllByRecursion (λ rule. names_service way (sap_entry_at e) rule.what ≡ false) rules) (pieces service_size p.payload)
