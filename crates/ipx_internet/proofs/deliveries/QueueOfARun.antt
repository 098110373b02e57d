-- A run does with its queue what the queue of an internet says.
use Rattle.std.proofs.Common.{◌≡◌, refl, ap, ◌∙◌, ℕ, zero, suc, List, [], ◌∷◌, ◌++◌, length, map, flat_map, replicate, Option, rules}
use Rattle.std.proofs.lemmas.List.{map-append}
use Rattle.ipx_router.specs.History.{Event, History, Packet}
use Rattle.ipx_router.specs.Relays.{Sent}
use Rattle.ipx_internet.specs.Internet.{Internet}
use Rattle.ipx_internet.specs.Log.{Sending, Reception}
use Rattle.ipx_internet.specs.Queue.{Delivery, Queued, deliveries_of, with_event, sends_at, queued, settled_one, settled}
use Rattle.ipx_internet.specs.Run.{Waiting, Run, Settles, forgotten, forward_of, waits_of, happens, stepped, run_of}

-- deliveries with forwards, without them
without : (origin : Option Sending) (ds : List Delivery) → map (λ (w : Waiting). w.delivery) (map (λ d. record { delivery = d; origin = origin }) ds) ≡ ds
without origin [] = refl
without origin (d ∷ ds) = ap (λ (rest : List Delivery). d ∷ rest) (without origin ds)

module _ (net : Internet) (most_routes most_services : ℕ) where
  without_all : (place router : ℕ) (event : Event) (origin_of : Sent → Option Sending) (sents : List Sent)
      → map (λ (w : Waiting). w.delivery) (flat_map (λ s. map (λ d. record { delivery = d; origin = origin_of s }) (deliveries_of net router s)) sents)
      ≡ flat_map (deliveries_of net router) sents
  without_all place router event origin_of [] = refl
  without_all place router event origin_of (s ∷ sents) =
      let here : List Waiting = map (λ d. record { delivery = d; origin = origin_of s }) (deliveries_of net router s) in
      let behind : List Waiting = flat_map (λ t. map (λ d. record { delivery = d; origin = origin_of t }) (deliveries_of net router t)) sents in
      map-append (λ (w : Waiting). w.delivery) here behind
      ∙ ap (λ (ds : List Delivery). ds ++ map (λ (w : Waiting). w.delivery) behind) (without (origin_of s) (deliveries_of net router s))
      ∙ ap (λ (ds : List Delivery). deliveries_of net router s ++ ds) (without_all place router event origin_of sents)

  pub events : (run : Run) (router : ℕ) (event : Event) (origin : Option Sending)
      → forgotten (happens net most_routes most_services run router event origin) ≡ queued net most_routes most_services (forgotten run) router event
  events run router event origin =
      let sents = sends_at net most_routes most_services run.histories router event in
      let with_queue : List Delivery → Queued = λ queue. record { histories = with_event run.histories router event; queue = queue } in
      ap with_queue
      (map-append (λ (w : Waiting). w.delivery) run.waiting (flat_map (waits_of net (length run.log) router event) sents)
      ∙ ap (λ (ds : List Delivery). map (λ (w : Waiting). w.delivery) run.waiting ++ ds)
      (without_all (length run.log) router event (forward_of net (length run.log) router event) sents))

  pub deliveries : (run : Run) → forgotten (stepped net most_routes most_services run Settles) ≡ settled_one net most_routes most_services (forgotten run)
  deliveries run = by run.histories run.log run.waiting
    where
      by : (histories : List History) (log : List Reception) (waiting : List Waiting)
          → forgotten (stepped net most_routes most_services (record { histories = histories; waiting = waiting; log = log }) Settles)
          ≡ settled_one net most_routes most_services (forgotten (record { histories = histories; waiting = waiting; log = log }))
      by histories log [] = refl
      by histories log (w ∷ waiting) =
          events (record { histories = histories; waiting = waiting; log = log }) w.delivery.to.router (Packet w.delivery.to.port w.delivery.bytes) w.origin

  pub many_deliveries : (run : Run) (n : ℕ)
      → forgotten (run_of net most_routes most_services run (replicate n Settles)) ≡ settled net most_routes most_services n (forgotten run)
  many_deliveries run zero = refl
  many_deliveries run (suc n) = search (rules, many_deliveries (stepped net most_routes most_services run Settles) n, deliveries)
