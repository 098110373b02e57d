-- In every run, what a router sends says nothing of a route where it was learned, and nothing else is delivered than what is sent.
use Rattle.std.proofs.Common.{◌≡◌, refl, sym, ap, ◌∙◌, ℕ, List, [], ◌∷◌, ◌++◌, map, flat_map, append_assoc, append-nil, Option, None}
use Rattle.std.specs.List.{AllByRecursion}
use Rattle.std.proofs.lemmas.Grind.{flat_map-append}
use Rattle.ipx_router.specs.Facts.{routes_held, offers}
use Rattle.ipx_router.specs.History.{Event, History, Packet, IsOnPort, IsOfBytes}
use Rattle.ipx_router.specs.Horizon.{EachEntryReadIs, IsFromElsewhere}
use Rattle.ipx_router.specs.Port.{Port, IsPort}
use Rattle.ipx_router.specs.Relays.{Sent}
use Rattle.ipx_router.specs.Sends.{sends}
use Rattle.ipx_router.specs.declared.route_offer.RouteOffer.{RouteOffer}
use Rattle.ipx_internet.specs.Internet.{Internet, ports_of, IsInternet}
use Rattle.ipx_internet.specs.Log.{Sending, Reception}
use Rattle.ipx_internet.specs.Queue.{Delivery, Queued, deliveries_of, history_of, sends_at}
use Rattle.ipx_internet.specs.Run.{Step, Happens, Settles, IsStep, AreHistories, Waiting, Run, begun, happens, stepped, run_of}
use Rattle.ipx_internet.proofs.deliveries.QueueOfARun.{events}
use Rattle.ipx_internet.proofs.lists.EachElement.{all-append, all-map}
use Rattle.ipx_internet.proofs.packets.ForwardsDiffer.{Routing}
use Rattle.ipx_internet.proofs.places.OneReceiverOfANode.{ports_at}
use Rattle.ipx_internet.proofs.trees.RunIsALog.{IsWaiting, Good, step_well, begun_well}
use Rattle.ipx_laws.specs.Departure.{Departure, ObservesHorizon, routes_then, departures_at, departures_in, departures, handed_in, handed, deliveries_from}

-- the law of one router
abbrev pub IsLawOfRouters : Type 0
IsLawOfRouters =
    (ports : List Port) (most_routes most_services : ℕ) (history : History) (event : Event)
    → AllByRecursion IsPort ports → AllByRecursion (IsOnPort ports) (history ++ event ∷ []) → AllByRecursion IsOfBytes (history ++ event ∷ [])
    → AllByRecursion (λ s. EachEntryReadIs (IsFromElsewhere (offers (routes_held ports most_routes (history ++ event ∷ []))) s.port) s.bytes)
    (sends ports most_routes most_services history event)

module _ (net : Internet) (laws : Routing) (none_back : IsLawOfRouters) (is : IsInternet net) (most_routes most_services : ℕ) where
  -- what one router sends for one event
  at_observes : (histories : List History) → AreHistories net histories → (router : ℕ) (event : Event) → IsOnPort (ports_of net router) event → IsOfBytes event
      → AllByRecursion ObservesHorizon (departures_at net most_routes most_services histories router event)
  at_observes histories are router event on bytes =
      let ports = ports_of net router in
      let history = history_of histories router in
      let routes = routes_then net most_routes most_services histories router event in
      all-map (λ s. EachEntryReadIs (IsFromElsewhere routes s.port) s.bytes) ObservesHorizon (λ s. record { router = router; sent = s; routes = routes })
      (λ s is. is) (sends_at net most_routes most_services histories router event)
      (none_back ports most_routes most_services history event (ports_at net is router)
      (all-append (IsOnPort ports) history (event ∷ []) (are.on_ports router) (on, tt))
      (all-append IsOfBytes history (event ∷ []) (are.of_bytes router) (bytes, tt)))

  -- what is sent in one step
  in_observes : (run : Run) → Good net run → (step : Step) → IsStep net step → AllByRecursion ObservesHorizon (departures_in net most_routes most_services run step)
  in_observes run good (Happens router event) is_step = at_observes run.histories good.histories router event is_step.1 is_step.2
  in_observes run good Settles is_step = by run.waiting good.waiting
    where
      by : (waiting : List Waiting) → AllByRecursion (IsWaiting net run.log) waiting → AllByRecursion ObservesHorizon (elim waiting [
        | [] ↦ []
        | ◌∷◌ w rest ↦ departures_at net most_routes most_services run.histories w.delivery.to.router (Packet w.delivery.to.port w.delivery.bytes)
      ])
      by [] all = tt
      by (w ∷ waiting) all =
          at_observes run.histories good.histories w.delivery.to.router (Packet w.delivery.to.port w.delivery.bytes) all.0.within all.0.bytes

  all_observe : (run : Run) → Good net run → (steps : List Step) → AllByRecursion (IsStep net) steps
      → AllByRecursion ObservesHorizon (departures net most_routes most_services run steps)
  all_observe run good [] are = tt
  all_observe run good (step ∷ steps) are =
      let next = stepped net most_routes most_services run step in
      all-append ObservesHorizon (departures_in net most_routes most_services run step) (departures net most_routes most_services next steps)
      (in_observes run good step are.0) (all_observe next (step_well net laws is most_routes most_services run good step are.0) steps are.1)

  pub run_observes : (histories : List History) (steps : List Step) → AreHistories net histories → AllByRecursion (IsStep net) steps
      → AllByRecursion ObservesHorizon (departures net most_routes most_services (begun histories) steps)
  run_observes histories steps are all = all_observe (begun histories) (begun_well net laws is most_routes most_services histories are) steps all

-- ---- what is delivered

module _ (net : Internet) (most_routes most_services : ℕ) where
  -- the deliveries that wait
  abbrev queue : Run → List Delivery
  queue run = map (λ w. w.delivery) run.waiting

  -- the deliveries of what one router sends for one event
  of_event : (router : ℕ) (routes : List RouteOffer) (sents : List Sent)
      → flat_map (deliveries_from net) (map (λ s. record { router = router; sent = s; routes = routes }) sents) ≡ flat_map (deliveries_of net router) sents
  of_event router routes [] = refl
  of_event router routes (s ∷ sents) = ap (λ (ds : List Delivery). deliveries_of net router s ++ ds) (of_event router routes sents)

  happened : (run : Run) (router : ℕ) (event : Event) (origin : Option Sending)
      → queue (happens net most_routes most_services run router event origin)
      ≡ queue run ++ flat_map (deliveries_from net) (departures_at net most_routes most_services run.histories router event)
  happened run router event origin =
      ap (λ (q : Queued). q.queue) (events net most_routes most_services run router event origin)
      ∙ ap (λ (ds : List Delivery). queue run ++ ds)
      (sym (of_event router (routes_then net most_routes most_services run.histories router event)
      (sends_at net most_routes most_services run.histories router event)))

  -- in one step
  in_order : (run : Run) (step : Step)
      → handed_in net most_routes most_services run step ++ queue (stepped net most_routes most_services run step)
      ≡ queue run ++ flat_map (deliveries_from net) (departures_in net most_routes most_services run step)
  in_order run (Happens router event) = happened run router event None
  in_order run Settles = by run.histories run.log run.waiting
    where
      by : (histories : List History) (log : List Reception) (waiting : List Waiting)
          → let before : Run = record { histories = histories; waiting = waiting; log = log } in
          handed_in net most_routes most_services before Settles ++ queue (stepped net most_routes most_services before Settles)
          ≡ queue before ++ flat_map (deliveries_from net) (departures_in net most_routes most_services before Settles)
      by histories log [] = refl
      by histories log (w ∷ waiting) =
          ap (λ (ds : List Delivery). w.delivery ∷ ds)
          (happened (record { histories = histories; waiting = waiting; log = log }) w.delivery.to.router (Packet w.delivery.to.port w.delivery.bytes) w.origin)

  pub all_delivered : (run : Run) (steps : List Step)
      → handed net most_routes most_services run steps ++ queue (run_of net most_routes most_services run steps)
      ≡ queue run ++ flat_map (deliveries_from net) (departures net most_routes most_services run steps)
  all_delivered run [] = sym (append-nil (queue run))
  all_delivered run (step ∷ steps) =
      let next = stepped net most_routes most_services run step in
      let here = handed_in net most_routes most_services run step in
      let later = handed net most_routes most_services next steps in
      let end = queue (run_of net most_routes most_services next steps) in
      let sent = departures_in net most_routes most_services run step in
      let sent_later = departures net most_routes most_services next steps in
      let deliveries : List Departure → List Delivery = flat_map (deliveries_from net) in
      append_assoc here later end ∙ ap (λ (ds : List Delivery). here ++ ds) (all_delivered next steps)
      ∙ sym (append_assoc here (queue next) (deliveries sent_later))
      ∙ ap (λ (ds : List Delivery). ds ++ deliveries sent_later) (in_order run step)
      ∙ append_assoc (queue run) (deliveries sent) (deliveries sent_later)
      ∙ ap (λ (ds : List Delivery). queue run ++ ds) (sym (flat_map-append (deliveries_from net) sent sent_later))
