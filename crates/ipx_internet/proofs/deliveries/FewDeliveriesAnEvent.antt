-- How many deliveries an event of a router makes.
use Rattle.std.proofs.Common.{◌≡◌, ℕ, ◌-◌, ◌*◌, ◌<◌, ◌≤◌, true, List, [], ◌∷◌, ◌++◌, length, flat_map, inl, inr, arith, mul-le-mul_right}
use Rattle.std.specs.List.{AllByRecursion}
use Rattle.std.proofs.lemmas.Bool.{cases_Bool}
use Rattle.std.proofs.lemmas.List.{length-map}
use Rattle.ipx_router.specs.Bounds.{most_packets}
use Rattle.ipx_router.specs.Facts.{routes_held, services_held}
use Rattle.ipx_router.specs.History.{Event, History, IsOnPort, IsOfBytes, is_stop, ports_up}
use Rattle.ipx_router.specs.Port.{Port, IsPort, is_up}
use Rattle.ipx_router.specs.Sends.{sends, ports_sending}
use Rattle.ipx_internet.specs.Delivery.{delivered}
use Rattle.ipx_internet.specs.Internet.{Internet, Place, ports_of, IsInternet}
use Rattle.ipx_internet.specs.Most.{most_on_network}
use Rattle.ipx_internet.specs.Queue.{Delivery, deliveries_of}
use Rattle.ipx_internet.proofs.lists.EachElement.{all_then, holds_of}
use Rattle.ipx_internet.proofs.lists.HowManyPass.{flat_map_few}
use Rattle.ipx_internet.proofs.places.FewOnANetwork.{delivered_few}
use Rattle.ipx_internet.proofs.places.OneReceiverOfANode.{ports_at}

-- the laws of routers on what an event sends
pub record Sending : Type 0 where
  pub few : (ports : List Port) (most_routes most_services : ℕ) (history : History) (event : Event) → length ports ≤ 32 → IsOnPort ports event
      → length (sends ports most_routes most_services history event)
      ≤ most_packets (length ports) (length (routes_held ports most_routes history)) (length (services_held ports most_services history)) event
  pub silent : (ports : List Port) (most_routes most_services : ℕ) (history : History) (event : Event)
      → AllByRecursion IsPort ports → AllByRecursion (IsOnPort ports) (history ++ event ∷ []) → AllByRecursion IsOfBytes (history ++ event ∷ [])
      → AllByRecursion (λ s. is_up (ports_sending ports history event) s.port ≡ true) (sends ports most_routes most_services history event)
  pub within : (ports : List Port) (history : History) → AllByRecursion (λ j. j < length ports) (ports_up ports history)

module _ (laws : Sending) (net : Internet) (router most_routes most_services : ℕ) (history : History) (event : Event) where
  abbrev ports : List Port
  ports = ports_of net router

  -- the event itself is on a port
  last_of : (events : List Event) → AllByRecursion (IsOnPort ports) (events ++ event ∷ []) → IsOnPort ports event
  last_of [] all = all.0
  last_of (e ∷ events) all = last_of events all.1

  sending_within : AllByRecursion (λ j. j < length ports) (ports_sending ports history event)
  sending_within = elim (cases_Bool (is_stop event)) [
    | inl e ↦ rw e (laws.within ports history)
    | inr e ↦ rw e (laws.within ports (history ++ event ∷ []))
  ]

  pub few_deliveries : IsInternet net → length ports ≤ 32 → AllByRecursion (IsOnPort ports) (history ++ event ∷ [])
      → AllByRecursion IsOfBytes (history ++ event ∷ [])
      → length (flat_map (deliveries_of net router) (sends ports most_routes most_services history event))
      ≤ most_packets (length ports) (length (routes_held ports most_routes history)) (length (services_held ports most_services history)) event
      * (most_on_network net - 1)
  few_deliveries is small on bytes =
      let sent = sends ports most_routes most_services history event in
      let each =
      flat_map_few (deliveries_of net router) (most_on_network net - 1) sent
      (all_then (λ s. is_up (ports_sending ports history event) s.port ≡ true) (λ s. length (deliveries_of net router s) ≤ most_on_network net - 1)
      (λ s up.
      let from : Place = record { router = router; port = s.port } in
      let to_delivery : Place → Delivery = λ to. record { to = to; bytes = s.bytes } in
      let same = length-map (delivered net from s.link) to_delivery in
      let few = delivered_few net from s.link (holds_of (λ j. j < length ports) s.port (ports_sending ports history event) sending_within up) in
      omega (arith, same, few))
      sent (laws.silent ports most_routes most_services history event (ports_at net is router) on bytes)) in
      let all = mul-le-mul_right (most_on_network net - 1) (laws.few ports most_routes most_services history event small (last_of history on)) in
      omega (arith, each, all)
