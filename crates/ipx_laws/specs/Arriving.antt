-- A packet that arrives: it comes through one router after the other, a stated number of them, and leaves on the network that it is for.
use Rattle.std.specs.Prelude.{◌≡◌, ◌≢◌, ℕ, zero, suc, ◌+◌, ◌<◌, ◌≤◌, true, false, List, [], ◌∷◌, ◌++◌, length, Some}
use Rattle.std.specs.List.{AllByRecursion}
use Rattle.ipx_wire.specs.Forward.{forwarded}
use Rattle.ipx_wire.specs.Packet.{Parts, IsPacket}
use Rattle.ipx_wire.specs.Piece.{IsBytes}
use Rattle.ipx_wire.specs.Write.{packet_bytes}
use Rattle.ipx_wire.specs.declared.address.Address.{Address}
use Rattle.ipx_wire.specs.declared.network.Network.{Network}
use Rattle.ipx_router.specs.Numbers.{most_routers}
use Rattle.ipx_router.specs.Outgoing.{is_own_port}
use Rattle.ipx_router.specs.Port.{port_at, is_up}
use Rattle.ipx_router.specs.Relays.{Sent}
use Rattle.ipx_router.specs.Why.{is_propagated, is_own_echo, is_bad_source}
use Rattle.ipx_internet.specs.Internet.{Internet, Place, IsPlace, ports_of, port_of, network_of}
use Rattle.ipx_internet.specs.Tree.{Router, Copy, IsTree, router_at, forwards, children}
use Rattle.ipx_laws.specs.Least.{Way, is_up_on, most_hops, neighbours, way_by, ways_within, least}

-- a packet of a host for one network: its source isn't the broadcast node, no port of a router sent it, and it is for no port of a router
pub record IsOfHost (net : Internet) (p : Parts) : Type 0 where
  pub for_one : is_propagated p.header ≡ false
  pub source : is_bad_source p.header ≡ false
  pub no_echo : (place : Place) → IsPlace net place → is_own_echo (port_of net place) p.header ≡ false
  pub elsewhere : (router : ℕ) → is_own_port (ports_of net router) p.header.destination ≡ false

-- a packet of that length, where those ports of each router are up
module _ (net : Internet) (up : ℕ → List ℕ) (size : ℕ) where
  -- it isn't too long for a router's port on a network, if that is up
  abbrev pub IsAllowed : ℕ → Network → Type 0
  IsAllowed router network =
      AllByRecursion (λ j. (port_at (ports_of net router) j).network ≡ network → size ≤ (port_at (ports_of net router) j).longest) (up router)

  -- nor for any port by which one of a router's least ways to a network leads, if these have that many hops: that to a neighbour whose
  -- least way, gone on from there, is the router's; the ports by which the neighbour's least ways lead; and at last that on the network
  abbrev pub IsShort : Network → ℕ → ℕ → Type 0
  IsShort network zero router = IsAllowed router network
  IsShort network (suc hops) router =
      AllByRecursion (λ from. way_by net (ways_within net up most_hops network) from ≡ least net up router network
      → IsAllowed router (network_of net from) × IsShort network hops from.router) (neighbours net up router)

-- where those ports of each router are up, bytes of a host's packet come to one of them, not on the network that it is for; that way is
-- the router's least, no port on it finds the packet too long, and fewer than 16 routers are behind it and before it
abbrev pub CanArrive : Internet → (ℕ → List ℕ) → Place → List ℕ → Parts → Way → Type 0
CanArrive net up place bytes p way =
    IsPlace net place × (is_up (up place.router) place.port ≡ true) × IsBytes bytes × IsPacket bytes p × IsOfHost net p
    × (network_of net place ≢ p.header.destination.network) × (least net up place.router p.header.destination.network ≡ Some way)
    × IsShort net up p.header.length p.header.destination.network way.hops place.router × (p.header.control + way.hops < most_routers)

-- bytes of a packet that came through that many routers, as its transport control says, and these are fewer than 16; and what is sent on of
-- it: the same packet but for its transport control, which is one more
abbrev pub IsSentOn : ℕ → List ℕ → List ℕ → Type 0
IsSentOn control came sent =
    (p : Parts) × IsPacket came p × (p.header.control ≡ control) × (control < most_routers) × (sent ≡ packet_bytes (forwarded p))

module _ (routers : List Router) (to : Address) where
  -- a reception with that number in the tree, of a packet that came through so many routers, sends it on once, otherwise unchanged, and one
  -- router receives that, which is then one router more; and so on for that many hops; then it leaves, unchanged too, by a port that is up
  -- on the destination's network, for its node
  abbrev pub Arrives : ℕ → ℕ → ℕ → Copy → Type 0
  Arrives control zero number c =
      (s : Sent) × IsSentOn control c.bytes s.bytes × (forwards routers c ≡ s ∷ []) × (is_up (router_at routers c.to.router).up s.port ≡ true)
      × ((port_at (router_at routers c.to.router).ports s.port).network ≡ to.network) × (s.link ≡ to.node)
  Arrives control (suc hops) number c =
      (next : Copy) × IsSentOn control c.bytes next.bytes × (children routers number c ≡ next ∷ []) × Arrives (control + 1) hops (number + 1) next

-- the whole tree of a reception is that many receptions and a last one, at a router with a port that is up on a network
pub record EndsOn (routers : List Router) (network : Network) (hops : ℕ) (c : Copy) : Type 0 where
  pub before : List Copy
  pub last : Copy
  pub tree : IsTree routers c (before ++ last ∷ [])
  pub count : length before ≡ hops
  pub there : is_up_on (router_at routers last.to.router).ports (router_at routers last.to.router).up network ≡ true
