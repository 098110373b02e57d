-- Where all that comes is let in as it is, a run with edges is one without.
use Rattle.std.proofs.Common.{◌≡◌, refl, ap, ◌∙◌, ℕ, List, [], ◌∷◌, Option, None, Some}
use Rattle.std.specs.Option.{option_map}
use Rattle.ipx_router.specs.History.{Event, History, Start, Stop, Second, Packet, PortDown, PortUp}
use Rattle.ipx_edge.specs.Entered.{entered}
use Rattle.ipx_internet.specs.Internet.{Internet, port_of}
use Rattle.ipx_internet.specs.Log.{Reception}
use Rattle.ipx_internet.specs.Run.{Step, Happens, Settles, Waiting, Run, stepped, run_of}
use Rattle.ipx_laws.specs.Edges.{edge_stepped, edge_run, ComesAsItIs, AllComeAsTheyAre}

module _ (net : Internet) (most_routes most_services : ℕ) where
  abbrev in_any : Run → Step → Run
  in_any = stepped net most_routes most_services

  abbrev by_edges : Run → Step → Run
  by_edges = edge_stepped net most_routes most_services

  -- what an event does that comes in, if it does
  abbrev of_event : Run → ℕ → ℕ → Option (List ℕ) → Run
  of_event run router number o = elim (option_map (λ new. Packet number new) o) [ Some new ↦ in_any run (Happens router new) | None ↦ run ]

  event_as_it_is : (run : Run) (router : ℕ) (event : Event) → ComesAsItIs net most_routes most_services run (Happens router event)
      → by_edges run (Happens router event) ≡ in_any run (Happens router event)
  event_as_it_is run router Start as_it_is = refl
  event_as_it_is run router Stop as_it_is = refl
  event_as_it_is run router Second as_it_is = refl
  event_as_it_is run router (Packet number bytes) as_it_is = ap (of_event run router number) as_it_is
  event_as_it_is run router (PortDown number) as_it_is = refl
  event_as_it_is run router (PortUp number) as_it_is = refl

  -- and what a delivery does
  abbrev of_delivery : List History → List Reception → Waiting → List Waiting → Option (List ℕ) → Run
  of_delivery histories log w waiting o = elim (option_map (λ new. record { delivery = record { to = w.delivery.to; bytes = new }; origin = w.origin }) o) [
    | Some next ↦ in_any (record { histories = histories; waiting = next ∷ waiting; log = log }) Settles
    | None ↦ record { histories = histories; waiting = waiting; log = log }
  ]

  delivery_as_it_is : (histories : List History) (log : List Reception) (waiting : List Waiting)
      → ComesAsItIs net most_routes most_services (record { histories = histories; waiting = waiting; log = log }) Settles
      → by_edges (record { histories = histories; waiting = waiting; log = log }) Settles ≡ in_any (record { histories = histories; waiting = waiting; log = log }) Settles
  delivery_as_it_is histories log [] as_it_is = refl
  delivery_as_it_is histories log (w ∷ waiting) as_it_is = ap (of_delivery histories log w waiting) as_it_is

  as_it_is : (run : Run) (step : Step) → ComesAsItIs net most_routes most_services run step → by_edges run step ≡ in_any run step
  as_it_is run (Happens router event) so = event_as_it_is run router event so
  as_it_is run Settles so = delivery_as_it_is run.histories run.log run.waiting so

  pub same_run : (run : Run) (steps : List Step) → AllComeAsTheyAre net most_routes most_services run steps
      → edge_run net most_routes most_services run steps ≡ run_of net most_routes most_services run steps
  same_run run [] all = refl
  same_run run (step ∷ steps) all =
      ap (λ (next : Run). edge_run net most_routes most_services next steps) (as_it_is run step all.0) ∙ same_run (in_any run step) steps all.1

  -- what an edge holds is gone
  pub gone : (run : Run) (w : Waiting) (waiting : List Waiting) → run.waiting ≡ w ∷ waiting → entered (port_of net w.delivery.to) w.delivery.bytes ≡ None
      → by_edges run Settles ≡ record run { waiting = waiting }
  gone run w waiting is_first none =
      ap (λ (ws : List Waiting). by_edges (record { histories = run.histories; waiting = ws; log = run.log }) Settles) is_first
      ∙ ap (of_delivery run.histories run.log w waiting) none
