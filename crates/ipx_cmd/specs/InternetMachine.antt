-- What the lines of a script for an internet do, over the routers that were named, what happened to them and what waits.
use Rattle.std.specs.Prelude.{ℕ, ◌&&◌, ◌||◌, ◌==◌, nat_lt, Bool, false, if◌then◌else◌, List, [], ◌∷◌, ◌++◌, length, map, replicate, Option, None, Some, Result, Ok, Err}
use Rattle.std.specs.List.{flat_map, list_any}
use Rattle.std.specs.Option.{is_some}
use Rattle.ipx_router.specs.History.{Event, Start, Stop, Second, Packet, PortDown, PortUp}
use Rattle.ipx_router.specs.Outcomes.{outcome}
use Rattle.ipx_router.specs.Port.{Port, numbers, same_node}
use Rattle.ipx_internet.specs.Internet.{Internet, ports_of}
use Rattle.ipx_internet.specs.Queue.{Queued, history_of, queued, settled}
use Rattle.ipx_internet.specs.Traced.{Traced, outcome_at, tree}
use Rattle.ipx_internet.specs.Tree.{Router, root, router_now}
use Rattle.ipx_cmd.specs.EventText.{most_routes, most_services, reason}
use Rattle.ipx_cmd.specs.InternetText.{dropped_text, settled_text, trace_text}
use Rattle.ipx_cmd.specs.Line.{◌>>=◌}
use Rattle.ipx_cmd.specs.Making.{named_port, named_router}
use Rattle.ipx_cmd.specs.OrderLine.{order_meaning}
use Rattle.ipx_cmd.specs.OrderMeaning.{OrderMeaning, NextRouter, NextPort, Starts, Stops, SecondsPass, PacketComes, PortGoesDown, PortComesUp, Settles, Traces, ShowsRoutes, ShowsServices}
use Rattle.ipx_cmd.specs.TableText.{routes_text, services_text}
use Rattle.ipx_cmd.specs.declared.lines.fault.LineFault.{LineFault}
use Rattle.ipx_cmd.specs.declared.lines.fault.LineFault.TheVariants.{SameNode, Router as RouterWord, Port as PortWord}
use Rattle.ipx_cmd.specs.declared.lines.order.OrderStage.{OrderStage}

-- what stands between two lines: the routers by the ports that were named, and what happened to them and waits since they were
-- made, if they were
pub record Standing : Type 0 where
  pub net : Internet
  pub past : Option Queued

-- before the first line
abbrev pub nothing_yet : Standing
nothing_yet = record { net = []; past = None }

-- what a line leads to: what stands then and the text of the line, or what is wrong with it
abbrev pub Led : Type 0
Led = Result (Standing × List ℕ) LineFault

-- ---- naming

-- the ports of the latest router
abbrev pub latest : Internet → List Port
latest [] = []
latest (ports ∷ []) = ports
latest (ports ∷ other ∷ more) = latest (other ∷ more)

-- the latest router has one port more
abbrev pub with_port : Internet → Port → Internet
with_port [] port = []
with_port (ports ∷ []) port = (ports ++ port ∷ []) ∷ []
with_port (ports ∷ other ∷ more) port = ports ∷ with_port (other ∷ more) port

-- the next router
abbrev pub name_router : Standing → Led
name_router standing = Ok (record { net = standing.net ++ [] ∷ []; past = standing.past }, [])

-- the next port of the latest router
abbrev pub name_port : Standing → Port → Led
name_port standing values = do
  port ← named_port values
  Ok (record { net = with_port standing.net port; past = standing.past }, [])

-- ---- making

-- each router is made, the first that isn't says why
abbrev pub named_routers : Internet → Result (Unit {0}) LineFault
named_routers [] = Ok tt
named_routers (ports ∷ more) = do
  _ ← named_router ports
  named_routers more

-- a port of one router has network and node of one of another
abbrev pub is_same : Port → Port → Bool
is_same p q = (p.network.0 == q.network.0) && same_node p.node q.node

abbrev pub share_node : List Port → List Port → Bool
share_node ports others = list_any (λ p. list_any (is_same p) others) ports

-- that holds of two of the routers
abbrev pub nodes_meet : Internet → Bool
nodes_meet [] = false
nodes_meet (ports ∷ more) = list_any (share_node ports) more || nodes_meet more

-- an internet to which nothing happened, and where nothing waits
abbrev pub untouched : Internet → Queued
untouched net = record { histories = map (λ ports. []) net; queue = [] }

-- the internet of some routers
abbrev pub internet_made : Internet → Result Queued LineFault
internet_made net = do
  _ ← named_routers net
  if nodes_meet net then Err SameNode else Ok (untouched net)

-- what happened to the routers, and what waits; where they aren't made yet they are made now
abbrev pub past_of : Standing → Result Queued LineFault
past_of standing = elim standing.past [ Some past ↦ Ok past | None ↦ internet_made standing.net ]

-- ---- what an order asks of the internet

-- one second of each router, in order
abbrev pub every_second : ℕ → List (ℕ × Event)
every_second count = map (λ router. (router, Second)) (numbers count)

-- the events that happen to the routers, in order, where there are this many routers
abbrev pub events_of : ℕ → OrderMeaning → List (ℕ × Event)
events_of count (Starts router) = (router, Start) ∷ []
events_of count (Stops router) = (router, Stop) ∷ []
events_of count (SecondsPass seconds) = flat_map (λ second. second) (replicate seconds (every_second count))
events_of count (PacketComes router port bytes) = (router, Packet port bytes) ∷ []
events_of count (PortGoesDown router port) = (router, PortDown port) ∷ []
events_of count (PortComesUp router port) = (router, PortUp port) ∷ []
events_of count order = []

-- the router that an order names, and the port, if it names them, are there
abbrev pub router_fault : Internet → ℕ → Option LineFault
router_fault net router = if nat_lt router (length net) then None else Some RouterWord

abbrev pub port_fault : Internet → ℕ → ℕ → Option LineFault
port_fault net router port =
    if nat_lt router (length net) then if nat_lt port (length (ports_of net router)) then None else Some PortWord else Some RouterWord

abbrev pub order_fault : Internet → OrderMeaning → Option LineFault
order_fault net NextRouter = None
order_fault net (NextPort values) = None
order_fault net (Starts router) = router_fault net router
order_fault net (Stops router) = router_fault net router
order_fault net (SecondsPass seconds) = None
order_fault net (PacketComes router port bytes) = port_fault net router port
order_fault net (PortGoesDown router port) = port_fault net router port
order_fault net (PortComesUp router port) = port_fault net router port
order_fault net (Settles limit) = None
order_fault net (Traces router port limit bytes) = port_fault net router port
order_fault net (ShowsRoutes router) = router_fault net router
order_fault net (ShowsServices router) = router_fault net router

module _ (net : Internet) where
  -- events happen, one after the other
  abbrev pub happens : Queued → List (ℕ × Event) → Queued
  happens q [] = q
  happens q (event ∷ events) = happens (queued net most_routes most_services q event.0 event.1) events

  -- why an event is dropped, if it is, as a line
  abbrev pub event_said : Queued → ℕ → Event → List ℕ
  event_said q router event = dropped_text (reason (outcome (ports_of net router) most_routes (history_of q.histories router) event))

  -- that many deliveries are handed out
  abbrev pub settles : Queued → ℕ → Queued
  settles q limit = settled net most_routes most_services limit q

  -- the routers as they are now
  abbrev pub routers_now : Queued → List Router
  routers_now q =
      map (λ router. router_now (ports_of net router) most_routes (history_of q.histories router)) (numbers (length net))

  -- the receptions of a packet that comes to a port, in order, each with what becomes of the packet there
  abbrev pub traced_all : Queued → ℕ → ℕ → List ℕ → List Traced
  traced_all q router port bytes =
      map (λ copy. record { copy = copy; outcome = outcome_at (routers_now q) copy })
      (tree (routers_now q) (root (record { router = router; port = port }) bytes))

  -- what an order makes of the internet
  abbrev pub ordered : Queued → OrderMeaning → Queued
  ordered q (Settles limit) = settles q limit
  ordered q order = happens q (events_of (length net) order)

  -- and its text
  abbrev pub order_text : Queued → OrderMeaning → List ℕ
  order_text q NextRouter = []
  order_text q (NextPort values) = []
  order_text q (Starts router) = event_said q router Start
  order_text q (Stops router) = event_said q router Stop
  order_text q (SecondsPass seconds) = []
  order_text q (PacketComes router port bytes) = event_said q router (Packet port bytes)
  order_text q (PortGoesDown router port) = event_said q router (PortDown port)
  order_text q (PortComesUp router port) = event_said q router (PortUp port)
  order_text q (Settles limit) = settled_text (settles q limit).queue
  order_text q (Traces router port limit bytes) = trace_text limit (traced_all q router port bytes)
  order_text q (ShowsRoutes router) = routes_text (ports_of net router) (history_of q.histories router)
  order_text q (ShowsServices router) = services_text (ports_of net router) (history_of q.histories router)

  -- both, if what the order names is there
  abbrev pub obeys : Queued → OrderMeaning → Led
  obeys q order = elim (order_fault net order) [
    | None ↦ Ok (record { net = net; past = Some (ordered q order) }, order_text q order)
    | Some fault ↦ Err fault
  ]

-- ---- lines

-- what is done that a line asks for; a line that is skipped does nothing
abbrev pub does : Standing → Option OrderMeaning → Led
does standing None = Ok (standing, [])
does standing (Some NextRouter) = name_router standing
does standing (Some (NextPort values)) = name_port standing values
does standing (Some order) = do
  past ← past_of standing
  obeys standing.net past order

-- how far the script has come
abbrev pub stage_of : Standing → OrderStage
stage_of standing = record { made = is_some standing.past; routers = length standing.net; ports = length (latest standing.net) }

-- what a line does, without its end
unfoldable pub acts : Standing → List ℕ → Led
acts standing line = do
  meaning ← order_meaning (stage_of standing) line
  does standing meaning
