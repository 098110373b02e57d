-- Where a packet gets to while nothing else happens: the tree of its receptions, level by level.
use Rattle.std.specs.Prelude.{◌≡◌, ℕ, zero, suc, ◌+◌, ◌<◌, Bool, true, false, List, [], ◌∷◌, ◌++◌, length, map, Option, None, Some, Ok, Err, slice_index_or}
use Rattle.std.specs.List.{AllByRecursion, flat_map}
use Rattle.std.specs.List.Sorted.{IsStrictlyIncreasing}
use Rattle.ipx_wire.specs.Packet.{packet_of}
use Rattle.ipx_router.specs.Facts.{routes_held, offers}
use Rattle.ipx_router.specs.History.{History, running, ports_up}
use Rattle.ipx_router.specs.Port.{Port, is_up}
use Rattle.ipx_router.specs.Relays.{Sent, IsTableRoute, relayed}
use Rattle.ipx_router.specs.Why.{why}
use Rattle.ipx_router.specs.declared.route_offer.RouteOffer.{RouteOffer}
use Rattle.ipx_internet.specs.Delivery.{delivered}
use Rattle.ipx_internet.specs.Internet.{Internet, Place}

-- a router as it is now: its ports, whether it runs, which of its ports are up, and the routes that it holds
pub record Router : Type 0 where
  pub ports : List Port
  pub running : Bool
  pub up : List ℕ
  pub routes : List RouteOffer

-- a router as it is after a history, where it holds that many routes
abbrev pub router_now : List Port → ℕ → History → Router
router_now ports most_routes history = record {
  ports = ports;
  running = running history;
  up = ports_up ports history;
  routes = offers (routes_held ports most_routes history);
}

-- its ports that are up are some of its ports, in order, and its routes are such as a table may have, by ports that are up
pub record IsRouter (r : Router) : Type 0 where
  pub rising : IsStrictlyIncreasing r.up
  pub within : AllByRecursion (λ j. j < length r.ports) r.up
  pub table : AllByRecursion (IsTableRoute r.ports) r.routes
  pub routes_up : AllByRecursion (λ route. is_up r.up route.port ≡ true) r.routes

-- the internet of some routers
abbrev pub net_of : List Router → Internet
net_of routers = map (λ r. r.ports) routers

-- what a router sends on of bytes that come on a port: what leaves of a packet that no check drops
abbrev pub sent_on : Router → ℕ → List ℕ → List Sent
sent_on r number bytes =
    elim (why r.ports r.up r.routes r.running number bytes) [
      | Some reason ↦ []
      | None ↦ elim (packet_of bytes) [ Ok p ↦ relayed r.ports r.up r.routes number p | Err fault ↦ [] ]
    ]

-- one reception of a tree: the number of the one whose forward it received, the port, and the bytes
pub record Copy : Type 0 where
  pub parent : Option ℕ
  pub to : Place
  pub bytes : List ℕ

-- the reception that a tree begins with
abbrev pub root : Place → List ℕ → Copy
root to bytes = record { parent = None; to = to; bytes = bytes }

-- the receptions of levels, in order
abbrev pub joined : List (List Copy) → List Copy
joined pieces = flat_map (λ level. level) pieces

module _ (routers : List Router) where
  -- the router with that number; behind the last, one that is stopped
  abbrev pub router_at : ℕ → Router
  router_at number = slice_index_or routers number (record { ports = []; running = false; up = []; routes = [] })

  -- what a reception sends on
  abbrev pub forwards : Copy → List Sent
  forwards c = sent_on (router_at c.to.router) c.to.port c.bytes

  -- those that receive one forward of a reception, by router and port
  abbrev pub receivers : ℕ → Copy → Sent → List Copy
  receivers number c s =
      map (λ to. record { parent = Some number; to = to; bytes = s.bytes })
      (delivered (net_of routers) (record { router = c.to.router; port = s.port }) s.link)

  -- those that receive the forwards of a reception, in order
  abbrev pub children : ℕ → Copy → List Copy
  children number c = flat_map (receivers number c) (forwards c)

  -- the next level: the children of a level whose first reception has a number
  abbrev pub next_level : ℕ → List Copy → List Copy
  next_level first [] = []
  next_level first (c ∷ level) = children first c ++ next_level (first + 1) level

  -- that many levels, one after the other, from one whose first reception has a number
  abbrev pub levels : ℕ → ℕ → List Copy → List (List Copy)
  levels zero first level = []
  levels (suc n) first level = level ∷ levels n (first + length level) (next_level first level)

  -- the first levels of a tree, from the root on
  abbrev pub tree_to : ℕ → Copy → List Copy
  tree_to n c = joined (levels n 0 (c ∷ []))

  -- the tree: its first levels, where there is none behind them
  pub record IsTree (c : Copy) (copies : List Copy) : Type 0 where
    pub depth : ℕ
    pub all : copies ≡ tree_to depth c
    pub whole : copies ≡ tree_to (depth + 1) c
