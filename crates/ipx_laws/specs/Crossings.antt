-- The paths by which a propagated packet (type 20) is received, while nothing else happens: what is asked of the routers and networks on a
-- path, and the paths of the receptions of a tree.
use Rattle.std.specs.Prelude.{◌≡◌, ℕ, ◌+◌, ◌≤◌, ◌⊎◌, ◌==◌, ◌&&◌, Bool, true, false, List, [], ◌∷◌, ◌++◌, length, map, None, Some, slice_index_or}
use Rattle.std.specs.List.{AllByRecursion}
use Rattle.ipx_wire.specs.Crossed.{IsCrossed, is_among}
use Rattle.ipx_wire.specs.Numbers.{crossed_places}
use Rattle.ipx_wire.specs.Packet.{Parts}
use Rattle.ipx_wire.specs.declared.header.Header.{Header}
use Rattle.ipx_wire.specs.declared.network.Network.{Network}
use Rattle.ipx_router.specs.Port.{broadcast, is_up}
use Rattle.ipx_router.specs.Why.{is_own_echo, is_bad_source}
use Rattle.ipx_internet.specs.Delivery.{receives}
use Rattle.ipx_internet.specs.Different.{AreDifferent}
use Rattle.ipx_internet.specs.Internet.{Place, port_of, network_of}
use Rattle.ipx_internet.specs.Tree.{Router, Copy, net_of, router_at}

-- ---- paths: the ports that receive a packet, one after the other, behind the one where it came first

-- the last port, where a path begins at that place
abbrev pub end_of : Place → List Place → Place
end_of from [] = from
end_of from (next ∷ path) = end_of next path

module _ (routers : List Router) where
  -- a router that received a propagated packet at a port sends it on to the next one, by a port on that one's network: it runs, both of its
  -- ports are up, the packet isn't the port's own, and it isn't longer than the outgoing port allows
  pub record Crosses (h : Header) (at next : Place) : Type 0 where
    pub out : ℕ
    pub runs : (router_at routers at.router).running ≡ true
    pub comes_up : is_up (router_at routers at.router).up at.port ≡ true
    pub leaves_up : is_up (router_at routers at.router).up out ≡ true
    pub no_echo : is_own_echo (port_of (net_of routers) at) h ≡ false
    pub short : h.length ≤ (port_of (net_of routers) (record { router = at.router; port = out })).longest
    pub received : receives (net_of routers) (record { router = at.router; port = out }) broadcast next ≡ true

  -- so it goes from each port to the next
  abbrev pub Leads : Header → Place → List Place → Type 0
  Leads h at [] = Unit
  Leads h at (next ∷ path) = Crosses h at next × Leads h next path

  -- a path on which a propagated packet is sent on: it visits no network twice, and none that the packet lists when it comes first. The
  -- packet has room for its list, and there are places in it for as many networks as there are forwards. Its source isn't a broadcast
  pub record IsForwardedAlong (p : Parts) (from : Place) (path : List Place) : Type 0 where
    pub leads : Leads p.header from path
    pub once : AreDifferent (map (network_of (net_of routers)) (from ∷ path))
    pub networks : List Network
    pub crossed : IsCrossed p.header.control p.payload networks
    pub new : AllByRecursion (λ place. is_among (network_of (net_of routers) place) networks ≡ false) (from ∷ path)
    pub few : p.header.control + length path ≤ crossed_places
    pub source : is_bad_source p.header ≡ false

  -- the paths of a propagated packet that comes to a port: the one without a forward, and those
  abbrev pub IsCrossing : Parts → Place → List Place → Type 0
  IsCrossing p from path = (path ≡ []) ⊎ IsForwardedAlong p from path

-- ---- the paths of receptions

-- the path of a reception, by those of the receptions before it: its port behind the path of its parent
abbrev pub path_by : List (List Place) → Copy → List Place
path_by known c = elim c.parent [ None ↦ [] | Some number ↦ slice_index_or known number [] ++ c.to ∷ [] ]

-- of several, behind those that are known
abbrev pub paths_behind : List (List Place) → List Copy → List (List Place)
paths_behind known [] = known
paths_behind known (c ∷ copies) = paths_behind (known ++ path_by known c ∷ []) copies

-- of all receptions of a tree, in its order
abbrev pub paths : List Copy → List (List Place)
paths copies = paths_behind [] copies

-- the same port
abbrev pub is_at : Place → Place → Bool
is_at place other = (other.router == place.router) && (other.port == place.port)
