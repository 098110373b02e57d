-- What each packet is that an event sends: one of the router's own, or the one that came, sent on.
use Rattle.std.specs.Prelude.{◌≡◌, ℕ, ◌+◌, ◌*◌, ◌⊎◌, Bool, true, List, length, Option, None, Some}
use Rattle.std.specs.List.{AllByRecursion}
use Rattle.ipx_wire.specs.Numbers.{rip_type, sap_type}
use Rattle.ipx_wire.specs.Packet.{Parts, IsPacket}
use Rattle.ipx_wire.specs.Rip.{RipParts, IsRip}
use Rattle.ipx_wire.specs.Sap.{IsSap}
use Rattle.ipx_wire.specs.Write.{own_header}
use Rattle.ipx_wire.specs.declared.address.Address.{Address}
use Rattle.ipx_wire.specs.declared.rip.Operation.{Operation}
use Rattle.ipx_wire.specs.declared.rip.Operation.TheVariants.{Request, Response}
use Rattle.ipx_wire.specs.declared.rip.RipEntry.{RipEntry}
use Rattle.ipx_wire.specs.declared.sap.Sap.{Sap}
use Rattle.ipx_wire.specs.declared.sap.Sap.TheVariants.{Query, Response as SapResponse}
use Rattle.ipx_router.specs.Heard.{Heard, HeardRip, HeardSap, heard}
use Rattle.ipx_router.specs.History.{Event, Packet}
use Rattle.ipx_router.specs.Numbers.{operation_size, type_size, entry_size, service_size}
use Rattle.ipx_router.specs.Port.{Port, port_at, is_up, own_address, everyone, own_services, every_server, reply_to}
use Rattle.ipx_router.specs.Relays.{Sent, IsForwarded, IsPropagated}
use Rattle.ipx_router.specs.declared.route_offer.RouteOffer.{RouteOffer}

-- a packet of that type from an address of the port on which it leaves to an address on that port's network, whose node is the next
-- hop: the header of an own packet and data, without padding
pub record IsOwnPacket (up : List ℕ) (kind : ℕ) (from to : Address) (s : Sent) (packet : Parts) : Type 0 where
  pub on : is_up up s.port ≡ true
  pub link : s.link ≡ to.node
  pub is : IsPacket s.bytes packet
  pub whole : length s.bytes ≡ packet.header.length
  pub header : packet.header ≡ own_header kind from to (length packet.payload)

-- routing information, from the RIP process; nothing follows its last entry
pub record IsRouting (ports : List Port) (up : List ℕ) (to : Address) (s : Sent) : Type 0 where
  pub packet : Parts
  pub own : IsOwnPacket up rip_type (own_address (port_at ports s.port)) to s packet
  pub said : RipParts
  pub says : IsRip packet.payload said
  pub ends : length packet.payload ≡ operation_size + entry_size * length said.entries

-- the entries that are read from a packet, where it is routing information of the router's own, are all such
abbrev pub EachEntryIs : (RipEntry → Type 0) → List Port → List ℕ → Sent → Type 0
EachEntryIs P ports up s = (to : Address) (is : IsRouting ports up to s) → AllByRecursion P is.said.entries

-- the bytes of service advertising that nothing follows: an operation and a type, or an operation and services
abbrev pub bytes_said : Sap → ℕ
bytes_said (Query nearest kind) = operation_size + type_size
bytes_said (SapResponse nearest entries) = operation_size + service_size * length entries

-- service advertising, from the SAP process; nothing follows the type that it asks for, or its last service
pub record IsAdvertising (ports : List Port) (up : List ℕ) (to : Address) (s : Sent) : Type 0 where
  pub packet : Parts
  pub own : IsOwnPacket up sap_type (own_services (port_at ports s.port)) to s packet
  pub said : Sap
  pub says : IsSap packet.payload said
  pub ends : length packet.payload ≡ bytes_said said

-- a packet to all RIP processes, or to all SAP processes, on the port's network
abbrev pub IsBroadcast : List Port → List ℕ → Sent → Type 0
IsBroadcast ports up s =
    IsRouting ports up (everyone (port_at ports s.port)) s ⊎ IsAdvertising ports up (every_server (port_at ports s.port)) s

-- such a packet to the one that sent the packet that came, on the port on which it came
pub record IsAnswer (Own : Address → Sent → Type 0) (ports : List Port) (number : ℕ) (bytes : List ℕ) (s : Sent) : Type 0 where
  pub port : s.port ≡ number
  pub asked : Parts
  pub came : IsPacket bytes asked
  pub answers : Own (reply_to (port_at ports number) asked.header.source) s

-- what is sent for routing information that was heard: broadcasts for a response, answers for a request
abbrev pub IsForRip : List Port → List ℕ → ℕ → List ℕ → Operation → Sent → Type 0
IsForRip ports up number bytes Response s = IsBroadcast ports up s
IsForRip ports up number bytes Request s = IsAnswer (IsRouting ports up) ports number bytes s

-- what is sent for what was heard
abbrev pub IsForHeard : List Port → List ℕ → ℕ → List ℕ → Heard → Sent → Type 0
IsForHeard ports up number bytes (HeardRip source rip) s = IsForRip ports up number bytes rip.operation s
IsForHeard ports up number bytes (HeardSap source (SapResponse nearest entries)) s = IsBroadcast ports up s
IsForHeard ports up number bytes (HeardSap source (Query nearest kind)) s = IsAnswer (IsAdvertising ports up) ports number bytes s

-- the packet that came on a port, sent on
abbrev pub IsRelayed : List Port → List ℕ → List RouteOffer → ℕ → List ℕ → Sent → Type 0
IsRelayed ports up routes number bytes s = IsForwarded ports up routes number bytes s ⊎ IsPropagated ports up number bytes s

-- what is sent for a packet: for what was heard, or, where nothing was, the packet itself
abbrev pub IsForPacket : List Port → List ℕ → List RouteOffer → ℕ → List ℕ → Option Heard → Sent → Type 0
IsForPacket ports up routes number bytes (Some message) s = IsForHeard ports up number bytes message s
IsForPacket ports up routes number bytes None s = IsRelayed ports up routes number bytes s

-- what an event may send, over the ports that are up and the routes that are held, in a router that runs or not
abbrev pub IsSentFor : List Port → List ℕ → List RouteOffer → Bool → Event → Sent → Type 0
IsSentFor ports up routes runs (Packet number bytes) s = IsForPacket ports up routes number bytes (heard ports up runs number bytes) s
IsSentFor ports up routes runs event s = IsBroadcast ports up s
