-- What an event does to a router, by what the router is before it and after it. Only clauses inside the crate speak of it.
use Rattle.std.specs.Prelude.{◌≡◌, ℕ, ◌+◌, ◌%◌, ◌==◌, ◌&&◌, nat_lt, Bool, true, false, not, if◌then◌else◌, List, [], ◌++◌, length}
use Rattle.std.specs.List.{filter}
use Rattle.ipx_table.specs.Facts.{Fact}
use Rattle.ipx_table.specs.Stands.{Stands}
use Rattle.ipx_router.specs.Facts.{facts_of, routes_heard, services_heard, offers}
use Rattle.ipx_router.specs.Heard.{heard}
use Rattle.ipx_router.specs.History.{Event, Start, Stop, Second, PortDown, PortUp}
use Rattle.ipx_router.specs.Numbers.{period}
use Rattle.ipx_router.specs.Outcomes.{outcome_of}
use Rattle.ipx_router.specs.Port.{numbers, is_up}
use Rattle.ipx_router.specs.Relays.{Sent}
use Rattle.ipx_router.specs.Routes.{route_rules}
use Rattle.ipx_router.specs.Sends.{Holding, sends_of}
use Rattle.ipx_router.specs.Services.{service_rules}
use Rattle.ipx_router.specs.Sorted.{put}
use Rattle.ipx_router.specs.Stands.{State}
use Rattle.ipx_router.specs.declared.outcome.Outcome.{Outcome}
use Rattle.ipx_router.specs.declared.route_offer.RouteOffer.{RouteOffer}
use Rattle.ipx_router.specs.declared.service_offer.ServiceOffer.{ServiceOffer}

-- ---- whether it runs, its ports that are up, and its count of seconds

-- a start makes it run, a stop ends that
abbrev pub runs_after : Bool → Event → Bool
runs_after runs Start = true
runs_after runs Stop = false
runs_after runs event = runs

-- of a router with this many ports, that runs or not, and has those ports up
abbrev pub up_after : ℕ → Bool → List ℕ → Event → List ℕ
up_after ports runs up Start = if runs then up else numbers ports
up_after ports runs up Stop = []
up_after ports runs up (PortDown number) = filter (λ j. not (j == number)) up
up_after ports runs up (PortUp number) = if runs && not (is_up up number) then put nat_lt number up else up
up_after ports runs up event = up

-- the seconds since the last periodic one
abbrev pub seconds_after : Bool → ℕ → Event → ℕ
seconds_after runs seconds Start = if runs then seconds else 0
seconds_after runs seconds Second = (seconds + 1) % period
seconds_after runs seconds event = seconds

-- ---- what an event says to a router, sends, and comes to

module _ (s : State) where
  -- what it says of routes
  abbrev pub route_facts_at : Event → List (Fact RouteOffer)
  route_facts_at event = facts_of s.up s.running (λ number bytes. routes_heard s.ports number (heard s.ports s.up s.running number bytes)) event

  -- what it says of services
  abbrev pub service_facts_at : Event → List (Fact ServiceOffer)
  service_facts_at event = facts_of s.up s.running (λ number bytes. services_heard number (heard s.ports s.up s.running number bytes)) event

  -- what the router has
  abbrev pub holding_of : Holding
  holding_of = record { up = s.up; routes = offers s.routes; services = offers s.services }

  -- the next second is periodic
  abbrev pub is_next_periodic : Bool
  is_next_periodic = (s.seconds + 1) % period == 0

  -- what becomes of the event
  abbrev pub outcome_at : Event → Outcome
  outcome_at event = outcome_of s.ports s.up (offers s.routes) s.running event

-- what an event sends that takes the router from one state to another
abbrev pub sends_between : State → State → Event → List Sent
sends_between s t event = sends_of s.ports (holding_of s) (holding_of t) s.running (is_next_periodic s) event

-- ---- what an event does

-- it takes a router with tables of those capacities from one state to another
pub record Follows (most_routes most_services : ℕ) (s t : State) (event : Event) : Type 0 where
  pub ports : t.ports ≡ s.ports
  pub routes : (facts : List (Fact RouteOffer)) → Stands (route_rules s.ports most_routes) s.routes facts
      → Stands (route_rules s.ports most_routes) t.routes (facts ++ route_facts_at s event)
  pub services : (facts : List (Fact ServiceOffer)) → Stands (service_rules s.ports most_services) s.services facts
      → Stands (service_rules s.ports most_services) t.services (facts ++ service_facts_at s event)
  pub runs : t.running ≡ runs_after s.running event
  pub ups : t.up ≡ up_after (length s.ports) s.running s.up event
  pub counts : t.running ≡ true → t.seconds ≡ seconds_after s.running s.seconds event
