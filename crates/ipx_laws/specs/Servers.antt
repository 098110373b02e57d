-- A service that hosts announce again and again: who announces it, what hosts say of it, what a router may know of it, and how far away it is.
use Rattle.std.specs.Prelude.{◌≡◌, ◌≢◌, ◌⊎◌, ℕ, suc, ◌<◌, ◌≤◌, true, List, length, Option, Ok, Some, slice_get}
use Rattle.std.specs.List.{AllByRecursion, find}
use Rattle.std.specs.Option.{option_map}
use Rattle.std.specs.Ordering.{is_eq}
use Rattle.ipx_wire.specs.Packet.{Parts, packet_of}
use Rattle.ipx_wire.specs.declared.address.Address.{Address}
use Rattle.ipx_wire.specs.declared.network.Network.{Network}
use Rattle.ipx_wire.specs.declared.node.Node.{Node}
use Rattle.ipx_wire.specs.declared.sap.Sap.TheVariants.{Query, Response}
use Rattle.ipx_wire.specs.declared.service.Service.{Service}
use Rattle.ipx_router.specs.Heard.{Heard, HeardRip, HeardSap}
use Rattle.ipx_router.specs.History.{Packet}
use Rattle.ipx_router.specs.Numbers.{unreachable}
use Rattle.ipx_router.specs.Port.{Port, is_local, is_up}
use Rattle.ipx_router.specs.Services.{service_order}
use Rattle.ipx_router.specs.Told.{farther}
use Rattle.ipx_router.specs.declared.service_offer.ServiceOffer.{ServiceOffer}
use Rattle.ipx_internet.specs.Internet.{Internet, Place, port_of, network_of}
use Rattle.ipx_internet.specs.Run.{Step, Happens, Settles}
use Rattle.ipx_laws.specs.Announces.{service_of, AsksApart}
use Rattle.ipx_laws.specs.Meanwhile.{message_of}

-- who announces a service: a host of that node on that network, always with as many hops
pub record Announcer : Type 0 where
  pub network : Network
  pub node : Node
  pub hops : ℕ

-- a service by its type and its name, where it is, and all who announce it
pub record Server : Type 0 where
  pub kind : ℕ
  pub name : List ℕ
  pub address : Address
  pub announcers : List Announcer

-- ---- what is said of it

-- of that type and that name
abbrev pub IsOf : Server → Service → Type 0
IsOf server s = (s.kind ≡ server.kind) × (s.name ≡ server.name)

-- the service at its address, that many hops away
abbrev pub at_hops : Server → ℕ → Service
at_hops server hops = record { kind = server.kind; name = server.name; address = server.address; hops = hops }

-- what a router has of it, if anything
abbrev pub known_of : Server → List ServiceOffer → Option Service
known_of server services =
    option_map (λ s. s.service) (find (λ s. is_eq (service_order (s.service.kind, s.service.name) (server.kind, server.name))) services)

-- so it is announced by that node on that network: with its address, and with the hops that this host says
pub record IsAnnouncedOn (server : Server) (network : Network) (node : Node) (s : Service) : Type 0 where
  pub which : ℕ
  pub listed : slice_get server.announcers which ≡ Some (record { network = network; node = node; hops = s.hops })
  pub addressed : s ≡ at_hops server s.hops

-- no entry of a response names it
abbrev pub IsSilentOf : Server → Heard → Type 0
IsSilentOf server (HeardRip source rip) = Unit
IsSilentOf server (HeardSap source (Query nearest kind)) = Unit
IsSilentOf server (HeardSap source (Response nearest entries)) =
    AllByRecursion (λ e. (name : List ℕ) → e.name ≡ Some name → IsOf server (service_of e name) → ⊥) entries

-- each entry of a response that names it says what is announced there by the node that sends it
abbrev pub SaysAsAnnounced : Server → Network → Heard → Type 0
SaysAsAnnounced server network (HeardRip source rip) = Unit
SaysAsAnnounced server network (HeardSap source (Query nearest kind)) = Unit
SaysAsAnnounced server network (HeardSap source (Response nearest entries)) =
    AllByRecursion
    (λ e. (name : List ℕ) → e.name ≡ Some name → IsOf server (service_of e name) → IsAnnouncedOn server network source.node (service_of e name)) entries

-- the destination is the port's own network, by its number or as 0
abbrev pub IsForHere : Port → List ℕ → Type 0
IsForHere port bytes = (p : Parts) → packet_of bytes ≡ Ok p → is_local port p.header.destination.network ≡ true

-- what a host may say where a packet comes: it asks apart, and doesn't name the service, or says there what is announced there
abbrev pub MaySay : Internet → Server → Place → List ℕ → Type 0
MaySay net server place bytes =
    (m : Heard) → message_of bytes ≡ Some m
    → AsksApart m × (IsSilentOf server m ⊎ (IsForHere (port_of net place) bytes × SaysAsAnnounced server (network_of net place) m))

-- no packet that comes from outside in a step says anything else
abbrev pub SaysNoFalse : Internet → Server → Step → Type 0
SaysNoFalse net server (Happens router (Packet number bytes)) = MaySay net server (record { router = router; port = number }) bytes
SaysNoFalse net server (Happens router event) = Unit
SaysNoFalse net server Settles = Unit

-- what is heard names no service but listed ones
abbrev pub NamesOnly : (ℕ × List ℕ → Type 0) → Heard → Type 0
NamesOnly Listed (HeardRip source rip) = Unit
NamesOnly Listed (HeardSap source (Query nearest kind)) = Unit
NamesOnly Listed (HeardSap source (Response nearest entries)) = AllByRecursion (λ e. (name : List ℕ) → e.name ≡ Some name → Listed (e.kind, name)) entries

-- ---- what a router may know of it

module _ (net : Internet) (up : ℕ → List ℕ) (server : Server) where
  -- a service of a router is so announced on a network where the router has a port up, or a port of another router says it there, one hop
  -- farther than that router may know it
  pub data IsServed : ℕ → ServiceOffer → Type 0 where
    announced : {router : ℕ} {s : ServiceOffer} → is_up (up router) s.port ≡ true
        → IsAnnouncedOn server (network_of net (record { router = router; port = s.port })) s.node s.service → IsServed router s
    passed_on : {router : ℕ} {s : ServiceOffer} (from : Place) (other : ServiceOffer) → router ≢ from.router → is_up (up router) s.port ≡ true
        → is_up (up from.router) from.port ≡ true → network_of net (record { router = router; port = s.port }) ≡ network_of net from
        → s.node ≡ (port_of net from).node → s.service ≡ farther other.service → s.service.hops < unreachable
        → IsServed from.router other → IsServed router s

  -- the lengths of the ways to it: what an announcer says on a network where the router has a port up, and one hop more for each router between
  pub data IsAway : ℕ → ℕ → Type 0 where
    beside : {router : ℕ} (port which : ℕ) (host : Announcer) → is_up (up router) port ≡ true → slice_get server.announcers which ≡ Some host
        → network_of net (record { router = router; port = port }) ≡ host.network → IsAway router host.hops
    beyond : {router hops : ℕ} (port : ℕ) (from : Place) → router ≢ from.router → is_up (up router) port ≡ true
        → is_up (up from.router) from.port ≡ true → network_of net (record { router = router; port = port }) ≡ network_of net from
        → IsAway from.router hops → IsAway router (suc hops)

  -- a router is beside the nearest of the hosts that announce it, with fewer than 16 hops: that port of it is up on this host's network
  abbrev pub IsBeside : Place → ℕ → Announcer → Type 0
  IsBeside place which host =
      (place.router < length net) × (is_up (up place.router) place.port ≡ true) × (slice_get server.announcers which ≡ Some host)
      × (network_of net place ≡ host.network) × (host.hops < unreachable)
      × ((number : ℕ) (other : Announcer) → slice_get server.announcers number ≡ Some other → host.hops ≤ other.hops)

  -- the fewest hops of all its ways there
  abbrev pub IsFewest : ℕ → ℕ → Type 0
  IsFewest router hops = IsAway router hops × ((others : ℕ) → IsAway router others → hops ≤ others)
