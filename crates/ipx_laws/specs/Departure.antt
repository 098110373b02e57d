-- What the routers of an internet send in a run, and what each holds when it sends it.
use Rattle.std.specs.Prelude.{ℕ, List, [], ◌∷◌, ◌++◌, map}
use Rattle.ipx_router.specs.Facts.{routes_held, offers}
use Rattle.ipx_router.specs.History.{Event, History, Packet}
use Rattle.ipx_router.specs.Horizon.{EachEntryReadIs, IsFromElsewhere}
use Rattle.ipx_router.specs.Relays.{Sent}
use Rattle.ipx_router.specs.declared.route_offer.RouteOffer.{RouteOffer}
use Rattle.ipx_internet.specs.Internet.{Internet, ports_of}
use Rattle.ipx_internet.specs.Queue.{Delivery, deliveries_of, history_of, sends_at}
use Rattle.ipx_internet.specs.Run.{Step, Happens, Settles, Run, stepped}

-- a packet that a router sent for an event, and the routes that it held after that event
pub record Departure : Type 0 where
  pub router : ℕ
  pub sent : Sent
  pub routes : List RouteOffer

-- split horizon: no route to a network that an entry of it names was learned on the port on which it left
abbrev pub ObservesHorizon : Departure → Type 0
ObservesHorizon d = EachEntryReadIs (IsFromElsewhere d.routes d.sent.port) d.sent.bytes

module _ (net : Internet) (most_routes most_services : ℕ) where
  -- the routes that a router holds after one event more
  abbrev pub routes_then : List History → ℕ → Event → List RouteOffer
  routes_then histories router event = offers (routes_held (ports_of net router) most_routes (history_of histories router ++ event ∷ []))

  -- what a router sends for an event
  abbrev pub departures_at : List History → ℕ → Event → List Departure
  departures_at histories router event =
      map (λ s. record { router = router; sent = s; routes = routes_then histories router event }) (sends_at net most_routes most_services histories router event)

  -- what is sent in one step
  abbrev pub departures_in : Run → Step → List Departure
  departures_in run (Happens router event) = departures_at run.histories router event
  departures_in run Settles = elim run.waiting [
    | [] ↦ []
    | ◌∷◌ w waiting ↦ departures_at run.histories w.delivery.to.router (Packet w.delivery.to.port w.delivery.bytes)
  ]

  -- what is sent in steps, in order
  abbrev pub departures : Run → List Step → List Departure
  departures run [] = []
  departures run (step ∷ steps) = departures_in run step ++ departures (stepped net most_routes most_services run step) steps

  -- the delivery that is handed out in one step, if one is
  abbrev pub handed_in : Run → Step → List Delivery
  handed_in run (Happens router event) = []
  handed_in run Settles = elim run.waiting [ [] ↦ [] | ◌∷◌ w waiting ↦ w.delivery ∷ [] ]

  -- those that are handed out in steps, in order
  abbrev pub handed : Run → List Step → List Delivery
  handed run [] = []
  handed run (step ∷ steps) = handed_in run step ++ handed (stepped net most_routes most_services run step) steps

-- the deliveries of a packet that was sent
abbrev pub deliveries_from : Internet → Departure → List Delivery
deliveries_from net d = deliveries_of net d.router d.sent
