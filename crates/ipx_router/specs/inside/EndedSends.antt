-- What is sent where a second passes, or where a port goes down, by what ended with it.
use Rattle.std.specs.Prelude.{ℕ, Bool, if◌then◌else◌, List, ◌∷◌, ◌++◌}
use Rattle.std.specs.List.{flat_map}
use Rattle.ipx_table.specs.Stands.{second_later, without_port}
use Rattle.ipx_table.specs.declared.held.Held.{Held}
use Rattle.ipx_router.specs.inside.Ended.{ended_on, service_ended_on}
use Rattle.ipx_router.specs.Facts.{offers}
use Rattle.ipx_router.specs.Port.{Port}
use Rattle.ipx_router.specs.Relays.{Sent}
use Rattle.ipx_router.specs.Sends.{Holding, broadcasts, second_on, port_down_on}
use Rattle.ipx_router.specs.Told.{by_network, by_name, told, told_services, dead, direct_entry}
use Rattle.ipx_router.specs.declared.route_offer.RouteOffer.{RouteOffer}
use Rattle.ipx_router.specs.declared.service_offer.ServiceOffer.{ServiceOffer}

-- ---- on one port

module _ (ports : List Port) (ended : List RouteOffer) (ended_services : List ServiceOffer) where
  -- what ended, alone
  abbrev pub ended_sends : ℕ → List Sent
  ended_sends number = broadcasts ports number (flat_map (ended_on number) ended) (flat_map (service_ended_on number) ended_services)

  -- what ended, and all that is told
  abbrev pub periodic_sends : List ℕ → List RouteOffer → List ServiceOffer → ℕ → List Sent
  periodic_sends up routes services number =
      broadcasts ports number (by_network (told ports up routes number ++ flat_map (ended_on number) ended))
      (by_name (told_services services number ++ flat_map (service_ended_on number) ended_services))

  -- what ended, and the network of the port that went down
  abbrev pub down_sends : ℕ → ℕ → List Sent
  down_sends port number =
      broadcasts ports number (by_network (dead (direct_entry ports port) ∷ flat_map (ended_on number) ended)) (flat_map (service_ended_on number) ended_services)

  -- on those ports: what ended, alone or, at a periodic second, among all that is told
  abbrev pub all_sends : List ℕ → List RouteOffer → List ServiceOffer → Bool → List Sent
  all_sends up routes services periodic = flat_map (if periodic then periodic_sends up routes services else ended_sends) up

-- ---- on all ports that are up

module _ (ports : List Port) (up : List ℕ) (routes : List (Held RouteOffer)) (services : List (Held ServiceOffer)) where
  abbrev holding_before : Holding
  holding_before = record { up = up; routes = offers routes; services = offers services }

  -- a second passes
  abbrev pub second_sends : Bool → List Sent
  second_sends periodic =
      flat_map (second_on ports holding_before (record { up = up; routes = offers (second_later routes); services = offers (second_later services) }) periodic) up

  -- a port goes down, and those stay up
  abbrev pub port_down_sends : ℕ → List Sent
  port_down_sends port =
      flat_map (port_down_on ports holding_before
      (record { up = up; routes = offers (without_port (λ r. r.port) port routes); services = offers (without_port (λ s. s.port) port services) }) port) up
