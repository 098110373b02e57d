-- What a router holds before and after a packet comes, and what its changes cost: no more than what was heard brings.
use Rattle.std.proofs.Common.{◌≡◌, sym, ap, subst, ℕ, ◌+◌, ◌≤◌, List, [], ◌∷◌, ◌++◌, length, map, Option, IfSome, arith, append-nil}
use Rattle.std.specs.List.{sum_by}
use Rattle.ipx_table.specs.Stands.{held}
use Rattle.ipx_table.specs.declared.held.Held.{Held}
use Rattle.ipx_router.specs.Changes.{changes}
use Rattle.ipx_router.specs.Facts.{routes_heard, services_heard, heard_after, route_facts, service_facts, route_facts_of, service_facts_of, routes_held, services_held, offers}
use Rattle.ipx_router.specs.Heard.{Heard}
use Rattle.ipx_router.specs.History.{History, Packet}
use Rattle.ipx_router.specs.News.{same_route, same_service}
use Rattle.ipx_router.specs.Port.{Port}
use Rattle.ipx_router.specs.Routes.{route_reading, network_order, route_rules}
use Rattle.ipx_router.specs.Sends.{Holding, holding}
use Rattle.ipx_router.specs.Services.{service_reading, service_order, service_rules}
use Rattle.ipx_router.specs.declared.route_offer.RouteOffer.{RouteOffer}
use Rattle.ipx_router.specs.declared.service_offer.ServiceOffer.{ServiceOffer}
use Rattle.ipx_router.proofs.bounds.PacketsOfEachEvent.{network_total, service_total}
use Rattle.ipx_router.proofs.tables.OffersOfAMessage.{facts_from-more}
use Rattle.ipx_router.proofs.telling.LawsOfTold.{route-same, service-same}
use Rattle.ipx_internet.specs.Internet.{Internet}
use Rattle.ipx_internet.proofs.lists.EachElement.{all_of}
use Rattle.ipx_internet.proofs.records.HeardChangesItsKeys.{EachHeard, heard_routes, heard_services}
use Rattle.ipx_internet.proofs.weights.EntriesWeighEnough.{route_told_weight, service_told_weight, brings, service_brings}
use Rattle.ipx_internet.proofs.weights.OffersPayTheirCost.{telling, changes_cost}

-- how many routes and services a router holds
abbrev pub held_after : List Port → ℕ → ℕ → History → ℕ
held_after ports most_routes most_services history = length (routes_held ports most_routes history) + length (services_held ports most_services history)

module _ (ports : List Port) (most_routes most_services : ℕ) (history : History) (number : ℕ) (bytes : List ℕ) where
  abbrev now : History
  now = history ++ Packet number bytes ∷ []

  abbrev pub before : Holding
  before = holding ports most_routes most_services history

  abbrev pub after : Holding
  after = holding ports most_routes most_services now

  abbrev pub heard_now : Option Heard
  heard_now = heard_after ports history number bytes

  abbrev pub route_shares : List ℕ
  route_shares = map (λ p. p.route_share) ports

  abbrev pub service_shares : List ℕ
  service_shares = map (λ p. p.service_share) ports

  routes_then : routes_held ports most_routes now ≡ held (route_rules ports most_routes) (route_facts ports history ++ routes_heard ports number heard_now)
  routes_then = ap (held (route_rules ports most_routes)) (facts_from-more (route_facts_of ports) [] history (Packet number bytes))

  services_then : services_held ports most_services now ≡ held (service_rules ports most_services) (service_facts ports history ++ services_heard number heard_now)
  services_then = ap (held (service_rules ports most_services)) (facts_from-more (service_facts_of ports) [] history (Packet number bytes))

  -- how many are held
  abbrev pub held_before : ℕ
  held_before = held_after ports most_routes most_services history

  abbrev pub held_now : ℕ
  held_now = held_after ports most_routes most_services now

  -- where nothing is offered all stays
  pub all_stays : routes_heard ports number heard_now ≡ [] → services_heard number heard_now ≡ [] → held_now ≡ held_before
  all_stays no_routes no_services = grind (arith, routes_then, append-nil, services_then)

  -- ---- what changed

  anything : (o : Option Heard) → IfSome o (EachHeard (λ e. Unit {0}) (λ e. Unit {0}))
  anything o = grind (arith, all_of)

  module _ (net : Internet) where
    -- the routes that changed
    abbrev pub routes_cost : ℕ
    routes_cost = sum_by (λ c. telling (route_told_weight net) c.after) (changes route_reading.key network_order same_route before.routes after.routes)

    pub routes_paid : routes_cost + length (routes_held ports most_routes now)
        ≤ length (routes_held ports most_routes history) + sum_by (brings net most_routes route_shares) (routes_heard ports number heard_now)
    routes_paid =
        let Paid : List (Held RouteOffer) → Type 0 = λ hs.
        sum_by (λ c. telling (route_told_weight net) c.after) (changes route_reading.key network_order same_route before.routes (offers hs)) + length hs
        ≤ length (routes_held ports most_routes history) + sum_by (brings net most_routes route_shares) (routes_heard ports number heard_now) in
        subst Paid (sym routes_then)
        (changes_cost route_reading network_order same_route network_total route-same most_routes route_shares (route_told_weight net) (λ r. omega arith)
        (routes_heard ports number heard_now) (route_facts ports history)
        (heard_routes (λ e. Unit {0}) (λ e. Unit {0}) (λ r. Unit {0}) (λ s. Unit {0}) number (λ node e is. tt) (λ node e name named is. tt) ports heard_now (anything heard_now)))

    -- and the services
    abbrev pub services_cost : ℕ
    services_cost = sum_by (λ c. telling (service_told_weight net) c.after) (changes service_reading.key service_order same_service before.services after.services)

    pub services_paid : services_cost + length (services_held ports most_services now)
        ≤ length (services_held ports most_services history) + sum_by (service_brings net most_services service_shares) (services_heard number heard_now)
    services_paid =
        let Paid : List (Held ServiceOffer) → Type 0 = λ hs.
        sum_by (λ c. telling (service_told_weight net) c.after) (changes service_reading.key service_order same_service before.services (offers hs)) + length hs
        ≤ length (services_held ports most_services history) + sum_by (service_brings net most_services service_shares) (services_heard number heard_now) in
        subst Paid (sym services_then)
        (changes_cost service_reading service_order same_service service_total service-same most_services service_shares (service_told_weight net) (λ s. omega arith)
        (services_heard number heard_now) (service_facts ports history)
        (heard_services (λ e. Unit {0}) (λ e. Unit {0}) (λ r. Unit {0}) (λ s. Unit {0}) number (λ node e is. tt) (λ node e name named is. tt) heard_now (anything heard_now)))
