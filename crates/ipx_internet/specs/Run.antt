-- What is received in a run of an internet: the packets among its events and its settled deliveries, in order, each with
-- the forward that it came of.
use Rattle.std.specs.Prelude.{◌≡◌, ℕ, ◌<◌, ◌||◌, Bool, false, if◌then◌else◌, List, [], ◌∷◌, ◌++◌, length, map, Option, None, Some, Ok, Err}
use Rattle.std.specs.List.{AllByRecursion, flat_map}
use Rattle.ipx_wire.specs.Packet.{packet_of}
use Rattle.ipx_router.specs.Facts.{routes_held, offers}
use Rattle.ipx_router.specs.History.{Event, History, Start, Stop, Second, Packet, PortDown, PortUp, IsOnPort, IsOfBytes, running, ports_up}
use Rattle.ipx_router.specs.Relays.{Sent}
use Rattle.ipx_router.specs.Why.{is_propagated, is_far}
use Rattle.ipx_internet.specs.Internet.{Internet, Place, ports_of, port_of}
use Rattle.ipx_internet.specs.Log.{Sending, Reception}
use Rattle.ipx_internet.specs.Queue.{Delivery, Queued, deliveries_of, history_of, with_event, sends_at}

-- one step of a run: an event that comes from outside, or the first delivery that waits
pub data Step : Type 0 where
  Happens : (router : ℕ) (event : Event) → Step
  Settles : Step

-- the event is one of bytes that come to a port that there is, or of none
abbrev pub IsStep : Internet → Step → Type 0
IsStep net (Happens router event) = (router < length net) × IsOnPort (ports_of net router) event × IsOfBytes event
IsStep net Settles = Unit

-- one history for each router, of such events
pub record AreHistories (net : Internet) (histories : List History) : Type 0 where
  pub each : length histories ≡ length net
  pub on_ports : (router : ℕ) → AllByRecursion (IsOnPort (ports_of net router)) (history_of histories router)
  pub of_bytes : (router : ℕ) → AllByRecursion IsOfBytes (history_of histories router)

-- a delivery, and the forward that it is of, if it is of one
pub record Waiting : Type 0 where
  pub delivery : Delivery
  pub origin : Option Sending

-- what happened to each router, what waits, and what was received
pub record Run : Type 0 where
  pub histories : List History
  pub waiting : List Waiting
  pub log : List Reception

-- a run begins with any histories and an empty queue
abbrev pub begun : List History → Run
begun histories = record { histories = histories; waiting = []; log = [] }

-- a run without its log, and without the forwards that its deliveries are of
abbrev pub forgotten : Run → Queued
forgotten run = record { histories = run.histories; queue = map (λ w. w.delivery) run.waiting }

module _ (net : Internet) where
  -- what comes is a packet that isn't for the router itself, so what is sent for it are forwards
  abbrev pub is_for_others : Place → List ℕ → Bool
  is_for_others to bytes = elim (packet_of bytes) [ Ok p ↦ is_propagated p.header || is_far (port_of net to) p.header | Err fault ↦ false ]

  -- the forward that a packet sent for an event is, where the event is received at a place of the log
  abbrev pub forward_of : ℕ → ℕ → Event → Sent → Option Sending
  forward_of place router Start s = None
  forward_of place router Stop s = None
  forward_of place router Second s = None
  forward_of place router (Packet number bytes) s =
      if is_for_others (record { router = router; port = number }) bytes then Some (record { place = place; sent = s }) else None
  forward_of place router (PortDown number) s = None
  forward_of place router (PortUp number) s = None

  -- the deliveries of what is sent for an event, each with the forward that it is of
  abbrev pub waits_of : ℕ → ℕ → Event → Sent → List Waiting
  waits_of place router event s = map (λ d. record { delivery = d; origin = forward_of place router event s }) (deliveries_of net router s)

module _ (net : Internet) (most_routes most_services : ℕ) where
  -- what an event is received as: a packet, by a router that acts if it runs, with the ports that are up and the routes that
  -- it holds
  abbrev pub received : History → ℕ → Event → Option Sending → List Reception
  received history router Start origin = []
  received history router Stop origin = []
  received history router Second origin = []
  received history router (Packet number bytes) origin = record {
    to = record { router = router; port = number };
    bytes = bytes;
    acts = running history;
    up = ports_up (ports_of net router) history;
    routes = offers (routes_held (ports_of net router) most_routes history);
    origin = origin;
  } ∷ []
  received history router (PortDown number) origin = []
  received history router (PortUp number) origin = []

  -- an event happens, of that origin
  abbrev pub happens : Run → ℕ → Event → Option Sending → Run
  happens run router event origin = record {
    histories = with_event run.histories router event;
    waiting = run.waiting ++ flat_map (waits_of net (length run.log) router event) (sends_at net most_routes most_services run.histories router event);
    log = run.log ++ received (history_of run.histories router) router event origin;
  }

  -- one step
  abbrev pub stepped : Run → Step → Run
  stepped run (Happens router event) = happens run router event None
  stepped run Settles = elim run.waiting [
    | [] ↦ run
    | ◌∷◌ w waiting ↦ happens (record run { waiting = waiting }) w.delivery.to.router (Packet w.delivery.to.port w.delivery.bytes) w.origin
  ]

  -- one step after the other
  abbrev pub run_of : Run → List Step → Run
  run_of run [] = run
  run_of run (step ∷ steps) = run_of (stepped run step) steps
