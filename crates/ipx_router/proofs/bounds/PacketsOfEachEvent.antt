-- How many packets an event sends after a history.
use Rattle.std.proofs.Common.{◌≡◌, refl, sym, ap, ◌∙◌, subst, ℕ, ◌+◌, ◌<◌, ◌≤◌, ◌&&◌, not, if◌then◌else◌, Bool, true, false, List, [], ◌∷◌, ◌++◌, map, length, inl, inr, arith, append-nil}
use Rattle.std.specs.List.{flat_map}
use Rattle.std.specs.Cmp.{IsTotalOrder}
use Rattle.std.proofs.lemmas.Bool.{cases_Bool}
use Rattle.std.proofs.lemmas.Cmp.{nat_cmp_total, nat_list_cmp_total, on_total, then_total}
use Rattle.std.proofs.lemmas.List.{length-map}
use Rattle.ipx_table.specs.Facts.{Fact, Second as SecondPassed, PortEnd}
use Rattle.ipx_table.specs.Reading.{Rules}
use Rattle.ipx_table.specs.Stands.{held, second_later, ended, without_port, ended_with_port}
use Rattle.ipx_table.specs.declared.held.Held.{Held}
use Rattle.ipx_wire.specs.declared.network.Network.{Network}
use Rattle.ipx_router.specs.Bounds.{most_packets}
use Rattle.ipx_router.specs.Facts.{heard_after, routes_heard, services_heard, route_facts_of, service_facts_of, route_facts, service_facts, routes_held, services_held, offers}
use Rattle.ipx_router.specs.History.{Event, History, Start, Stop, Second, Packet, PortDown, PortUp, IsOnPort, running, is_down, ports_up}
use Rattle.ipx_router.specs.News.{same_route, same_service}
use Rattle.ipx_router.specs.Port.{Port, numbers, is_up}
use Rattle.ipx_router.specs.Routes.{network_order, route_reading, route_rules}
use Rattle.ipx_router.specs.Sends.{Holding, stop_on, port_down_on, port_up_on, holding, is_periodic, sends}
use Rattle.ipx_router.specs.Services.{service_order, service_reading, service_rules}
use Rattle.ipx_router.specs.declared.route_offer.RouteOffer.{RouteOffer}
use Rattle.ipx_router.specs.declared.service_offer.ServiceOffer.{ServiceOffer}
use Rattle.ipx_router.proofs.changes.DiffersByOneFact.{length-ended, OthersStay, few_come, few_end, few_end_with, few_with_port}
use Rattle.ipx_router.proofs.histories.OneEventMore.{ports_stay, down_port}
use Rattle.ipx_router.proofs.bounds.ItemsOfEachList.{length-filter, length-numbers, length-left_out}
use Rattle.ipx_router.proofs.bounds.PacketsOfLocalEvents.{RoutesChange, ServicesChange, length-start, length-stop, length-second, length-port_down, length-port_up}
use Rattle.ipx_router.proofs.bounds.PacketsOfAPacket.{length-packet}
use Rattle.ipx_router.proofs.tables.OffersOfAMessage.{FewOffers, facts_from-more}
use Rattle.ipx_router.proofs.relays.PortsRise.{rising_ups}
use Rattle.ipx_router.proofs.telling.LawsOfTold.{route-same, service-same}

-- ---- keys are in a total order

pub network_total : IsTotalOrder network_order
network_total = on_total (λ (n : Network). n.0) nat_cmp_total

pub service_total : IsTotalOrder service_order
service_total = then_total (on_total (λ (key : ℕ × List ℕ). key.0) nat_cmp_total) (on_total (λ (key : ℕ × List ℕ). key.1) nat_list_cmp_total)

-- ---- what a table does with one fact more

-- with a second those records go that are in their last second, and the rest are a second older
abbrev pub SecondPasses : {O : Type 0} → Rules O → Type 0
SecondPasses {O} rules = (facts : List (Fact O)) → held rules (facts ++ SecondPassed ∷ []) ≡ second_later (held rules facts)

-- with the end of a port the records go that came by it, and the rest stay
abbrev pub PortEnds : {O : Type 0} → Rules O → Type 0
PortEnds {O} rules = (facts : List (Fact O)) (port : ℕ) → held rules (facts ++ PortEnd port ∷ []) ≡ without_port rules.port port (held rules facts)

-- what the tables of a router do
pub record TablesDo (ports : List Port) (most_routes most_services : ℕ) : Type 0 where
  pub route_offered : OthersStay route_reading network_order same_route network_total route-same most_routes (map (λ p. p.route_share) ports)
  pub route_second : SecondPasses (route_rules ports most_routes)
  pub route_port_end : PortEnds (route_rules ports most_routes)
  pub service_offered : OthersStay service_reading service_order same_service service_total service-same most_services (map (λ p. p.service_share) ports)
  pub service_second : SecondPasses (service_rules ports most_services)
  pub service_port_end : PortEnds (service_rules ports most_services)

module _ (ports : List Port) (most_routes most_services : ℕ) (tables : TablesDo ports most_routes most_services) (history : History) where
  abbrev before : Holding
  before = holding ports most_routes most_services history

  abbrev after : Event → Holding
  after event = holding ports most_routes most_services (history ++ event ∷ [])

  abbrev routes : List (Held RouteOffer)
  routes = routes_held ports most_routes history

  abbrev services : List (Held ServiceOffer)
  services = services_held ports most_services history

  as_many : {O : Type 0} (records : List (Held O)) → length (offers records) ≤ length records
  as_many records = omega (arith, length-map records (λ h. h.offer))

  -- ports that are up are ports
  ups : (history : History) → length (ports_up ports history) ≤ length ports
  ups history = omega (arith, length-numbers (length ports), length-filter (λ port. running history && not (is_down history port)) (numbers (length ports)))

  -- what is held after an event more
  routes_then : (event : Event) → routes_held ports most_routes (history ++ event ∷ []) ≡ held (route_rules ports most_routes) (route_facts ports history ++ route_facts_of ports history event)
  routes_then event = ap (held (route_rules ports most_routes)) (facts_from-more (route_facts_of ports) [] history event)

  services_then : (event : Event) → services_held ports most_services (history ++ event ∷ []) ≡ held (service_rules ports most_services) (service_facts ports history ++ service_facts_of ports history event)
  services_then event = ap (held (service_rules ports most_services)) (facts_from-more (service_facts_of ports) [] history event)

  -- ---- a second

  module _ (runs : running history ≡ true) where
    routes_later : routes_held ports most_routes (history ++ Second ∷ []) ≡ second_later routes
    routes_later = grind (arith, routes_then)

    services_later : services_held ports most_services (history ++ Second ∷ []) ≡ second_later services
    services_later = grind (arith, services_then)

    routes_end : RoutesChange ports before (after Second) (length (ended routes))
    routes_end =
        subst (λ records. RoutesChange ports before (record { up = []; routes = offers records; services = [] }) (length (ended routes))) (sym routes_later)
        (few_end route_reading network_order same_route network_total route-same routes)

    services_end : ServicesChange ports before (after Second) (length (ended services))
    services_end =
        subst (λ records. ServicesChange ports before (record { up = []; routes = []; services = offers records }) (length (ended services))) (sym services_later)
        (few_end service_reading service_order same_service service_total service-same services)

    routes_left : length (after Second).routes + length (ended routes) ≤ length routes
    routes_left = grind (arith, as_many, routes_later, length-ended)

    services_left : length (after Second).services + length (ended services) ≤ length services
    services_left = grind (arith, as_many, services_later, length-ended)

  -- ---- a packet

  module _ (number : ℕ) (bytes : List ℕ) where
    routes_come : (came : ℕ) → FewOffers came (routes_heard ports number (heard_after ports history number bytes))
        → RoutesChange ports before (after (Packet number bytes)) came
    routes_come came few = grind (arith, routes_then, few_come, network_total, route-same, RoutesChange)

    services_come : (came : ℕ) → FewOffers came (services_heard number (heard_after ports history number bytes))
        → ServicesChange ports before (after (Packet number bytes)) came
    services_come came few = grind (arith, services_then, few_come, service_total, service-same, ServicesChange)

  -- ---- a port goes down

  module _ (port : ℕ) (up : is_up (ports_up ports history) port ≡ true) where
    routes_without : routes_held ports most_routes (history ++ PortDown port ∷ []) ≡ without_port (λ r. r.port) port routes
    routes_without = grind (arith, routes_then)

    services_without : services_held ports most_services (history ++ PortDown port ∷ []) ≡ without_port (λ s. s.port) port services
    services_without = grind (arith, services_then)

    routes_go : RoutesChange ports before (after (PortDown port)) (length (ended_with_port (λ r. r.port) port routes))
    routes_go =
        subst (λ records. RoutesChange ports before (record { up = []; routes = offers records; services = [] }) (length (ended_with_port (λ r. r.port) port routes)))
        (sym routes_without) (few_end_with route_reading network_order same_route network_total route-same (λ r. r.port) port routes)

    services_go : ServicesChange ports before (after (PortDown port)) (length (ended_with_port (λ s. s.port) port services))
    services_go =
        subst (λ records. ServicesChange ports before (record { up = []; routes = []; services = offers records }) (length (ended_with_port (λ s. s.port) port services)))
        (sym services_without) (few_end_with service_reading service_order same_service service_total service-same (λ s. s.port) port services)

  -- where a port goes down, one less is up
  fewer_ups : (port : ℕ) → port < length ports → length (ports_up ports (history ++ PortDown port ∷ [])) + 1 ≤ length ports
  fewer_ups port exists =
      length-left_out (λ j. running (history ++ PortDown port ∷ []) && not (is_down (history ++ PortDown port ∷ []) j)) (length ports) port exists
      (down_port ports history port)

  -- a port that comes up ends nothing and offers nothing
  same_routes : (port : ℕ) → routes_held ports most_routes (history ++ PortUp port ∷ []) ≡ routes
  same_routes port = routes_then (PortUp port) ∙ ap (held (route_rules ports most_routes)) (append-nil (route_facts ports history))

  same_services : (port : ℕ) → services_held ports most_services (history ++ PortUp port ∷ []) ≡ services
  same_services port = services_then (PortUp port) ∙ ap (held (service_rules ports most_services)) (append-nil (service_facts ports history))

  -- ---- each event

  few_stop : (runs : Bool) → length (if runs then flat_map (stop_on ports before) before.up else []) ≤ most_packets (length ports) (length routes) (length services) Stop
  few_stop true = length-stop ports before (length routes) (length services) (ups history) (as_many routes) (as_many services)
  few_stop false = omega arith

  few_down : (port : ℕ) → port < length ports → (runs up : Bool) → is_up (ports_up ports history) port ≡ up
      → length (if runs && up then flat_map (port_down_on ports before (after (PortDown port)) port) (after (PortDown port)).up else [])
      ≤ most_packets (length ports) (length routes) (length services) (PortDown port)
  few_down port exists false up e = omega arith
  few_down port exists true false e = omega arith
  few_down port exists true true e =
      length-port_down ports before (after (PortDown port)) port (length routes) (length services)
      (length (ended_with_port (λ r. r.port) port routes)) (length (ended_with_port (λ s. s.port) port services))
      (fewer_ups port exists) (routes_go port e) (few_with_port (λ r. r.port) port routes) (services_go port e) (few_with_port (λ s. s.port) port services)

  few_up : (port : ℕ) (runs up : Bool)
      → length (if runs && not up then flat_map (port_up_on ports (after (PortUp port)) port) (after (PortUp port)).up else [])
      ≤ most_packets (length ports) (length routes) (length services) (PortUp port)
  few_up port false up = omega arith
  few_up port true true = omega arith
  few_up port true false =
      length-port_up ports (after (PortUp port)) port (length routes) (length services) (ups (history ++ PortUp port ∷ []))
      (omega (arith, as_many (routes_held ports most_routes (history ++ PortUp port ∷ [])), ap length (same_routes port)))
      (omega (arith, as_many (services_held ports most_services (history ++ PortUp port ∷ [])), ap length (same_services port)))
      (rising_ups ports (history ++ PortUp port ∷ []))

  pub few_packets : (event : Event) → length ports ≤ 32 → IsOnPort ports event
      → length (sends ports most_routes most_services history event) ≤ most_packets (length ports) (length routes) (length services) event
  few_packets Start few on = elim (cases_Bool (running history)) [
    | inl runs ↦ rw runs (omega arith)
    | inr stopped ↦ rw stopped (length-start ports (ports_up ports (history ++ Start ∷ [])) (ups (history ++ Start ∷ [])) few)
  ]
  few_packets Stop few on = few_stop (running history)
  few_packets Second few on = elim (cases_Bool (running history)) [
    | inl runs ↦
        rw runs (length-second ports before (after Second) (is_periodic history)
        (length routes) (length services) (length (ended routes)) (length (ended services)) (ups (history ++ Second ∷ []))
        (routes_end runs) (routes_left runs) (services_end runs) (services_left runs))
    | inr stopped ↦ rw stopped (omega arith)
  ]
  few_packets (Packet number bytes) few on =
      length-packet ports before (after (Packet number bytes)) (ups history)
      (ports_stay ports history (Packet number bytes) refl refl (λ port. refl) (λ port. refl)) number on
      (length routes) (length services) (as_many routes) (as_many services) (running history) bytes
      (record { routes = routes_come number bytes; services = services_come number bytes })
  few_packets (PortDown port) few on = few_down port on (running history) (is_up (ports_up ports history) port) refl
  few_packets (PortUp port) few on = few_up port (running history) (is_up (ports_up ports history) port)
