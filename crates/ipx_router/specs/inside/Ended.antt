-- What ended, as it is advertised on a port (IPX Router Specification, immediate broadcasts).
use Rattle.std.specs.Prelude.{◌≡◌, ℕ, ◌==◌, Bool, true, false, if◌then◌else◌, List, [], ◌∷◌, Option, None, Some}
use Rattle.std.specs.Ordering.{is_lt}
use Rattle.std.specs.declared.cmp.Ordering.{Ordering}
use Rattle.std.specs.Borrow.{Bor}
use Rattle.ipx_table.specs.Stands.{Ascends}
use Rattle.ipx_wire.specs.declared.rip.RipEntry.{RipEntry}
use Rattle.ipx_wire.specs.declared.service.Service.{Service}
use Rattle.ipx_router.specs.Changes.{Change}
use Rattle.ipx_router.specs.Routes.{network_order}
use Rattle.ipx_router.specs.Services.{service_order}
use Rattle.ipx_router.specs.Told.{dead, dead_service, entry_of}
use Rattle.ipx_router.specs.declared.route_offer.RouteOffer.{RouteOffer}
use Rattle.ipx_router.specs.declared.service_offer.ServiceOffer.{ServiceOffer}

-- the change by which an offer ends
abbrev pub gone : {O : Type 0} → O → Change O
gone offer = record { before = Some offer; after = None }

-- ---- of either kind, by the port where an offer was learned, and by what it is once it ended

module _ {O X : Type 0} (port : O → ℕ) (read : O → X) where
  -- an offer that ended; nothing where it was learned
  abbrev pub ended_as : ℕ → O → List X
  ended_as number offer = if port offer == number then [] else read offer ∷ []

module _ {O X : Type 0} (comes_before : X → X → Bool) (read : O → X) where
  -- an offer that ended comes before the item that waits, if one does
  abbrev pub ends_before : Option X → O → Bool
  ends_before None offer = true
  ends_before (Some waiting) offer = comes_before (read offer) waiting

module _ {O X : Type 0} (by_key : O → O → Ordering) (comes_before : X → X → Bool) (read : O → X) where
  -- items have an order, and offers that ended are in it as they are by their keys
  pub record AreInOrder : Type 0 where
    pub one_way : (a b : X) → comes_before a b ≡ true → comes_before b a ≡ false
    pub through : (a b c : X) → comes_before a b ≡ false → comes_before b c ≡ false → comes_before a c ≡ false
    pub kept : (a b : O) → is_lt (by_key a b) ≡ true → comes_before (read b) (read a) ≡ false

-- what is lent, if anything is
abbrev pub lent : {X : Type 0} → Option (Bor X) → Option X
lent None = None
lent (Some item) = Some item.now

-- ---- routes

-- by their networks
abbrev pub by_route : RouteOffer → RouteOffer → Ordering
by_route a b = network_order a.network b.network

abbrev pub RoutesAscend : List RouteOffer → Type 0
RoutesAscend routes = Ascends by_route routes

-- a route that ended, dead
abbrev pub dead_route : RouteOffer → RipEntry
dead_route route = dead (entry_of route)

abbrev pub ended_on : ℕ → RouteOffer → List RipEntry
ended_on number route = if route.port == number then [] else dead_route route ∷ []

-- ---- services

-- by their types and names
abbrev pub by_service : ServiceOffer → ServiceOffer → Ordering
by_service a b = service_order (a.service.kind, a.service.name) (b.service.kind, b.service.name)

abbrev pub ServicesAscend : List ServiceOffer → Type 0
ServicesAscend services = Ascends by_service services

-- a service that ended, dead
abbrev pub dead_offer : ServiceOffer → Service
dead_offer offer = dead_service offer.service

abbrev pub service_ended_on : ℕ → ServiceOffer → List Service
service_ended_on number offer = if offer.port == number then [] else dead_offer offer ∷ []
