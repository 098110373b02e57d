-- How many deliveries rounds have: each causes a bounded number of others, so each round has at most so many times as many as the one
-- before it.
use Rattle.std.proofs.Common.{◌≡◌, refl, sym, ap, subst, ℕ, zero, suc, ◌+◌, ◌-◌, ◌*◌, ◌≤◌, max, List, [], ◌∷◌, ◌++◌, length, append_assoc, append-nil, length-append, arith, mul-le-mul_right}
use Rattle.std.specs.List.{AllByRecursion}
use Rattle.ipx_router.specs.Bounds.{route_sheets, service_sheets, most_packets}
use Rattle.ipx_router.specs.Facts.{routes_held, services_held}
use Rattle.ipx_router.specs.History.{History, Packet, IsOnPort, IsOfBytes}
use Rattle.ipx_router.specs.Port.{Port}
use Rattle.ipx_internet.specs.Internet.{Internet, IsInternet, ports_of}
use Rattle.ipx_internet.specs.Most.{most_ports, most_on_network, most_of}
use Rattle.ipx_internet.specs.Queue.{Delivery, Queued, history_of, settled}
use Rattle.ipx_internet.specs.Rounds.{IsDelivery, round, rounds, handed_out, most_caused, most_rounds}
use Rattle.ipx_internet.specs.Run.{AreHistories}
use Rattle.ipx_internet.proofs.deliveries.FewDeliveriesAnEvent.{Sending, few_deliveries}
use Rattle.ipx_internet.proofs.deliveries.WaitsAfterDelivery.{keeps_histories}
use Rattle.ipx_internet.proofs.lists.EachElement.{all_then, all-append}
use Rattle.ipx_internet.proofs.packets.SentOnOrReply.{Layouts}
use Rattle.ipx_internet.proofs.places.FewOnANetwork.{router_small}
use Rattle.ipx_internet.proofs.rounds.OneRound.{happened, sent_for}
use Rattle.ipx_internet.proofs.rounds.SentOnRunsOut.{SpentAt, spent}
use Rattle.ipx_internet.proofs.trees.NextLevelIsBounded.{grown}

-- no table has more than there is room for
pub record Rooms : Type 0 where
  pub routes : (ports : List Port) (capacity : ℕ) (history : History) → length (routes_held ports capacity history) ≤ capacity
  pub services : (ports : List Port) (capacity : ℕ) (history : History) → length (services_held ports capacity history) ≤ capacity

module _ (net : Internet) (laws : Layouts) (sending : Sending) (rooms : Rooms) (is : IsInternet net) (most_routes most_services : ℕ) (small : most_ports net ≤ 32) where
  abbrev caused : ℕ
  caused = most_caused net most_routes most_services

  -- ---- one delivery

  few_packets : (ports routes services number : ℕ) (bytes : List ℕ) → ports ≤ most_ports net → routes ≤ most_routes → services ≤ most_services
      → most_packets ports routes services (Packet number bytes) ≤ max (most_ports net) (max (route_sheets (most_ports net) most_routes) (service_sheets most_services))
  few_packets ports routes services number bytes few_ports few_routes few_services = grind arith

  few_caused : (histories : List History) → AreHistories net histories → (d : Delivery) → IsDelivery net d
      → length (sent_for net most_routes most_services histories d) ≤ caused
  few_caused histories are d delivery =
      let router = d.to.router in
      let ports = ports_of net router in
      let history = history_of histories router in
      let event = Packet d.to.port d.bytes in
      let few_ports = router_small net router in
      let few = few_deliveries sending net router most_routes most_services history event is (omega (arith, few_ports, small))
      (all-append (IsOnPort ports) history (event ∷ []) (are.on_ports router) (delivery.place, tt))
      (all-append IsOfBytes history (event ∷ []) (are.of_bytes router) (delivery.bytes, tt)) in
      let packets = few_packets (length ports) (length (routes_held ports most_routes history)) (length (services_held ports most_services history)) d.to.port d.bytes
      few_ports (rooms.routes ports most_routes history) (rooms.services ports most_services history) in
      let all = mul-le-mul_right (most_on_network net - 1) packets in
      omega (arith, few, all)

  -- ---- one round

  part_few : (front back : List Delivery) (histories : List History) → AreHistories net histories → AllByRecursion (IsDelivery net) front
      → length (settled net most_routes most_services (length front) (record { histories = histories; queue = front ++ back })).queue ≤ length back + length front * caused
  part_few [] back histories are all = omega arith
  part_few (d ∷ front) back histories are all =
      let after = happened net most_routes most_services histories d in
      let sent = sent_for net most_routes most_services histories d in
      let few = few_caused histories are d all.0 in
      let longer = length-append back sent in
      let rest = part_few front (back ++ sent) after (keeps_histories net laws is most_routes most_services histories are d all.0) all.1 in
      let Few : List Delivery → Type 0 = λ ds.
      length (settled net most_routes most_services (length front) (record { histories = after; queue = ds })).queue ≤ length (back ++ sent) + length front * caused in
      let here = subst Few (sym (append_assoc front back sent)) rest in
      omega (arith, here, few, longer)

  round_few : (q : Queued) → AreHistories net q.histories → AllByRecursion (IsDelivery net) q.queue
      → length (round net most_routes most_services q).queue ≤ length q.queue * caused
  round_few q are all =
      let Few : List Delivery → Type 0 = λ ds.
      length (settled net most_routes most_services (length q.queue) (record { histories = q.histories; queue = ds })).queue ≤ length q.queue * caused in
      let part = part_few q.queue [] q.histories are all in
      subst Few (append-nil q.queue) (omega (arith, part))

  -- ---- several

  -- a round more may stand in front as well
  rounds_first : (n : ℕ) (q : Queued) → rounds net most_routes most_services n (round net most_routes most_services q) ≡ rounds net most_routes most_services (suc n) q
  rounds_first zero q = refl
  rounds_first (suc n) q = ap (round net most_routes most_services) (rounds_first n q)

  handed_first : (n : ℕ) (q : Queued) → handed_out net most_routes most_services (suc n) q ≡ length q.queue + handed_out net most_routes most_services n (round net most_routes most_services q)
  handed_first zero q = omega arith
  handed_first (suc n) q = grind (arith, handed_first n q, rounds_first)

  handed_few : (n : ℕ) (q : Queued) → AreHistories net q.histories → AllByRecursion (IsDelivery net) q.queue
      → handed_out net most_routes most_services (suc n) q ≤ length q.queue * most_of caused n
  handed_few zero q are all = grind arith
  handed_few (suc n) q are all =
      let next = round net most_routes most_services q in
      let after = spent net laws is most_routes most_services 1 q are all in
      let deliveries = all_then (SpentAt net laws is most_routes most_services 1) (IsDelivery net) (λ d both. both.0) next.queue after.queue in
      let rest = handed_few n next after.histories deliveries in
      let split = handed_first (suc n) q in
      let few = mul-le-mul_right (most_of caused n) (round_few q are all) in
      let whole = grown (length q.queue) caused (most_of caused n) (handed_out net most_routes most_services (suc n) next) (omega (arith, rest, few)) in
      omega (arith, split, whole)

  pub all_few : (q : Queued) → AreHistories net q.histories → AllByRecursion (IsDelivery net) q.queue
      → handed_out net most_routes most_services (most_rounds net) q ≤ length q.queue * most_of caused (33 + length net)
  all_few q are all =
      let same : most_rounds net ≡ suc (33 + length net) = omega arith in
      subst (λ (n : ℕ). handed_out net most_routes most_services n q ≤ length q.queue * most_of caused (33 + length net)) (sym same)
      (handed_few (33 + length net) q are all)
