-- What a trace tells: the tree of a packet, and what becomes of it at each reception.
use Rattle.std.specs.Prelude.{ℕ, ◌+◌, if◌then◌else◌, List, length, map, Ok, Err}
use Rattle.ipx_wire.specs.Packet.{packet_of}
use Rattle.ipx_router.specs.Facts.{offers}
use Rattle.ipx_router.specs.History.{History}
use Rattle.ipx_router.specs.Numbers.{most_routers}
use Rattle.ipx_router.specs.Port.{numbers}
use Rattle.ipx_router.specs.Relay.{relay_outcome}
use Rattle.ipx_router.specs.Stands.{State}
use Rattle.ipx_router.specs.declared.outcome.Outcome.{Outcome}
use Rattle.ipx_router.specs.declared.outcome.Outcome.TheVariants.{Dropped}
use Rattle.ipx_router.specs.declared.why.Why.TheVariants.{NotRunning, Malformed}
use Rattle.ipx_internet.specs.Internet.{Internet, ports_of}
use Rattle.ipx_internet.specs.Queue.{history_of}
use Rattle.ipx_internet.specs.TraceRoom.{Memory}
use Rattle.ipx_internet.specs.Tree.{Router, Copy, router_now, router_at, tree_to}
use Rattle.ipx_internet.specs.declared.trace.Reception.{Reception}

-- a reception of the tree, and what becomes of the packet there
pub record Traced : Type 0 where
  pub copy : Copy
  pub outcome : Outcome

-- a trace: its receptions, and the memory that they take
pub record TracedTree : Type 0 where
  pub receptions : List Traced
  pub memory : Memory

-- a reception as it is told
abbrev pub traced : Reception → Traced
traced r = record {
  copy = record { parent = r.parent; to = record { router = r.router; port = r.port }; bytes = r.bytes.now };
  outcome = r.outcome;
}

-- a router, as the tree sees it
abbrev pub router_of : State → Router
router_of s = record { ports = s.ports; running = s.running; up = s.up; routes = offers s.routes }

abbrev pub routers_of : List State → List Router
routers_of routers = map router_of routers

-- each router as it is after its history, by its number
abbrev pub routers_after : Internet → ℕ → List History → List Router
routers_after net most_routes histories =
    map (λ number. router_now (ports_of net number) most_routes (history_of histories number)) (numbers (length net))

-- what becomes of bytes that come to a port of a router while only the forwarding process hears them
abbrev pub outcome_of : Router → ℕ → List ℕ → Outcome
outcome_of r number bytes =
    elim (packet_of bytes) [
      | Ok p ↦ relay_outcome r.ports r.up r.routes r.running number p
      | Err fault ↦ if r.running then Dropped (Malformed fault) else Dropped NotRunning
    ]

-- the most levels that a tree has: that of the first reception, and one for each router that may send a packet on
abbrev pub most_levels : ℕ
most_levels = most_routers + 1

module _ (routers : List Router) where
  -- the whole tree
  unfoldable pub tree : Copy → List Copy
  tree c = tree_to routers most_levels c

  -- what becomes of the packet at a reception
  abbrev pub outcome_at : Copy → Outcome
  outcome_at c = outcome_of (router_at routers c.to.router) c.to.port c.bytes
