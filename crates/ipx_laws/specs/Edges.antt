-- An internet of routers with edges: whatever comes to a port passes its edge before its router hears it.
use Rattle.std.specs.Prelude.{◌≡◌, ℕ, List, [], ◌∷◌, Option, None, Some}
use Rattle.std.specs.Option.{option_map}
use Rattle.ipx_router.specs.Facts.{routes_held, services_held}
use Rattle.ipx_router.specs.Heard.{Heard, heard}
use Rattle.ipx_router.specs.History.{Event, Start, Stop, Second, Packet, PortDown, PortUp}
use Rattle.ipx_edge.specs.Entered.{entered}
use Rattle.ipx_internet.specs.Internet.{Internet, ports_of, port_of}
use Rattle.ipx_internet.specs.Log.{Reception}
use Rattle.ipx_internet.specs.Queue.{history_of}
use Rattle.ipx_internet.specs.Run.{Step, Happens, Settles, Waiting, Run, stepped}

-- ---- what comes in

-- an event of a router, as it comes in by the edges of its ports, if it does: of a packet what the edge lets in, and everything else
abbrev pub lets_in : Internet → ℕ → Event → Option Event
lets_in net router Start = Some Start
lets_in net router Stop = Some Stop
lets_in net router Second = Some Second
lets_in net router (Packet number bytes) = option_map (λ new. Packet number new) (entered (port_of net (record { router = router; port = number })) bytes)
lets_in net router (PortDown number) = Some (PortDown number)
lets_in net router (PortUp number) = Some (PortUp number)

-- bytes on the way to a port, as they come in by its edge, if they do
abbrev pub lets_through : Internet → Waiting → Option Waiting
lets_through net w =
    option_map (λ new. record { delivery = record { to = w.delivery.to; bytes = new }; origin = w.origin }) (entered (port_of net w.delivery.to) w.delivery.bytes)

-- ---- a run

module _ (net : Internet) (most_routes most_services : ℕ) where
  -- one step as in any internet, of what comes in; what an edge holds is gone
  abbrev pub edge_stepped : Run → Step → Run
  edge_stepped run (Happens router event) =
      elim (lets_in net router event) [ Some new ↦ stepped net most_routes most_services run (Happens router new) | None ↦ run ]
  edge_stepped run Settles = elim run.waiting [
    | [] ↦ run
    | ◌∷◌ w waiting ↦ elim (lets_through net w) [
      | Some new ↦ stepped net most_routes most_services (record run { waiting = new ∷ waiting }) Settles
      | None ↦ record run { waiting = waiting }
    ]
  ]

  -- one step after the other
  abbrev pub edge_run : Run → List Step → Run
  edge_run run [] = run
  edge_run run (step ∷ steps) = edge_run (edge_stepped run step) steps

  -- what comes next comes in as it is: an event that is no packet always does
  abbrev pub ComesAsItIs : Run → Step → Type 0
  ComesAsItIs run (Happens router Start) = Unit
  ComesAsItIs run (Happens router Stop) = Unit
  ComesAsItIs run (Happens router Second) = Unit
  ComesAsItIs run (Happens router (Packet number bytes)) = entered (port_of net (record { router = router; port = number })) bytes ≡ Some bytes
  ComesAsItIs run (Happens router (PortDown number)) = Unit
  ComesAsItIs run (Happens router (PortUp number)) = Unit
  ComesAsItIs run Settles = elim run.waiting [
    | [] ↦ Unit
    | ◌∷◌ w waiting ↦ entered (port_of net w.delivery.to) w.delivery.bytes ≡ Some w.delivery.bytes
  ]

  -- and so does all that comes in some steps
  abbrev pub AllComeAsTheyAre : Run → List Step → Type 0
  AllComeAsTheyAre run [] = Unit
  AllComeAsTheyAre run (step ∷ steps) = ComesAsItIs run step × AllComeAsTheyAre (stepped net most_routes most_services run step) steps

  -- every router has the routes and services after one run that it had after another
  abbrev pub HoldTheSame : Run → Run → Type 0
  HoldTheSame old new =
      (router : ℕ)
      → (routes_held (ports_of net router) most_routes (history_of new.histories router) ≡ routes_held (ports_of net router) most_routes (history_of old.histories router))
      × (services_held (ports_of net router) most_services (history_of new.histories router)
      ≡ services_held (ports_of net router) most_services (history_of old.histories router))

-- what the router that received a packet heard of it: routes, services or a question for them
abbrev pub words_of : Internet → Reception → Option Heard
words_of net r = heard (ports_of net r.to.router) r.up r.acts r.to.port r.bytes
