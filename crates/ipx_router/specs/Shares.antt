-- Capacities and shares: how much of the tables the ports have, and what finds room.
use Rattle.std.specs.Prelude.{◌≡◌, ℕ, ◌<◌, ◌≤◌, ◌==◌, true, false, List, ◌∷◌, ◌++◌, map, length, slice_get, None, Some}
use Rattle.std.specs.List.{AllByRecursion, find, list_any, sum}
use Rattle.ipx_table.specs.Facts.{Fact, Offered}
use Rattle.ipx_table.specs.Reading.{Rules, count_by, same_key}
use Rattle.ipx_table.specs.Stands.{held}
use Rattle.ipx_table.specs.declared.held.Held.{Held}
use Rattle.ipx_router.specs.History.{Event, Packet}
use Rattle.ipx_router.specs.Port.{Port, port_at}
use Rattle.ipx_router.specs.Stands.{State}
use Rattle.ipx_router.specs.declared.route_offer.RouteOffer.{RouteOffer}
use Rattle.ipx_router.specs.declared.service_offer.ServiceOffer.{ServiceOffer}

-- ---- what there may be

-- a router has at most as many routes and as many services as its tables have room for
pub record IsWithinCapacity (most_routes most_services : ℕ) (s : State) : Type 0 where
  pub routes : length s.routes ≤ most_routes
  pub services : length s.services ≤ most_services

-- no port has more of the routes than its share
abbrev pub WithinRouteShares : List Port → List (Held RouteOffer) → Type 0
WithinRouteShares ports routes = (number : ℕ) → number < length ports → count_by (λ r. r.port) number routes ≤ (port_at ports number).route_share

-- nor of the services
abbrev pub WithinServiceShares : List Port → List (Held ServiceOffer) → Type 0
WithinServiceShares ports services = (number : ℕ) → number < length ports → count_by (λ s. s.port) number services ≤ (port_at ports number).service_share

-- ---- what finds room

-- the shares of all ports fit into a table of that capacity together
abbrev pub ShareOut : (Port → ℕ) → List Port → ℕ → Type 0
ShareOut share ports capacity = sum (map share ports) ≤ capacity

-- if the event is a packet, it came on one of those ports
abbrev pub CameOnOneOf : List ℕ → Event → Type 0
CameOnOneOf ports (Packet number bytes) = list_any (λ port. port == number) ports ≡ true
CameOnOneOf ports event = Unit

module _ {O : Type 0} (rules : Rules O) where
  -- an offer to which those records leave room: it isn't down, none of them is of its key, and its port is below its share
  pub record IsNew (records : List (Held O)) (offer : O) : Type 0 where
    pub up : rules.is_down offer ≡ false
    pub new : find (λ h. same_key rules.by_key h.offer offer) records ≡ None
    pub below : count_by rules.port (rules.port offer) records < rules.share (rules.port offer)

  -- where this is offered after those facts, one offer after the other: an offer that finds room when its turn comes is among the
  -- records at the end, with age 0, unless another of its key follows
  abbrev pub KeepsNew : List (Fact O) → List (Fact O) → List (Held O) → Type 0
  KeepsNew facts offered records =
      (first : List (Fact O)) (offer : O) (rest : List O) → offered ≡ first ++ Offered offer ∷ map (λ later. Offered later) rest
      → IsNew (held rules (facts ++ first)) offer → AllByRecursion (λ later. same_key rules.by_key offer later ≡ false) rest
      → (k : ℕ) × (slice_get records k ≡ Some (record { offer = offer; age = 0 }))
