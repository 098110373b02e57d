-- What a router's ports that are up are, of a router that stands for some history.
use Rattle.std.proofs.Common.{◌^◌, ◌≡◌, refl, ℕ, ◌<◌, ◌≤◌, false, List, [], length, map, lit<, arith}
use Rattle.std.specs.List.{AllByRecursion}
use Rattle.ipx_router.specs.Port.{Port, IsPort, AreApart, is_up}
use Rattle.ipx_router.specs.RouterOf.{IsRouter, made_of}
use Rattle.ipx_router.specs.Stands.{State, StandsFor}
use Rattle.ipx_router.specs.declared.route_offer.RouteOffer.{RouteOffer}
use Rattle.ipx_router.specs.declared.service_offer.ServiceOffer.{ServiceOffer}
use Rattle.ipx_table.specs.declared.held.Held.{Held}
use Rattle.ipx_router.proofs.histories.OneEventMore.{none_up}
use Rattle.ipx_router.proofs.port_values.PortOfEachNumber.{ports_up-within, one_up}

module _ (most_routes most_services : ℕ) (s : State) (route_shares service_shares : List ℕ) (is : IsRouter most_routes most_services s route_shares service_shares) where
  -- of a stopped router no port is up
  pub stopped_up : (port : ℕ) → s.running ≡ false → is_up s.up port ≡ false
  stopped_up port stopped = grind (arith, none_up)

  -- nor a port that there isn't
  pub missing_up : (port : ℕ) → length s.ports ≤ port → is_up s.up port ≡ false
  missing_up port missing = grind (arith, one_up, ports_up-within)

-- ---- a new router

pub made_stands : (most_routes most_services : ℕ) (ports : List Port) → StandsFor most_routes most_services (made_of ports) []
made_stands most_routes most_services ports = grind (arith, none_up)

pub made_then : (most_routes most_services : ℕ) (ports kept : List Port) (up : List ℕ) (routes : List (Held RouteOffer)) (services : List (Held ServiceOffer))
    → kept ≡ ports → up ≡ [] → routes ≡ [] → services ≡ []
    → StandsFor most_routes most_services (record { ports = kept; running = false; up = up; seconds = 0; routes = routes; services = services }) []
made_then most_routes most_services ports kept up routes services k u r s = rw (k, u, r, s) (made_stands most_routes most_services ports)

-- made of ports that it may have, with their shares
pub made_router : (most_routes most_services : ℕ) (ports kept : List Port) (up : List ℕ) (routes : List (Held RouteOffer)) (services : List (Held ServiceOffer)) (route_shares service_shares : List ℕ)
    → kept ≡ ports → up ≡ [] → routes ≡ [] → services ≡ [] → route_shares ≡ map (λ p. p.route_share) ports → service_shares ≡ map (λ p. p.service_share) ports
    → most_routes < 2 ^ 16 → most_services < 2 ^ 16 → 1 ≤ length ports → length ports ≤ 32 → AllByRecursion IsPort ports → AreApart ports
    → IsRouter most_routes most_services (record { ports = kept; running = false; up = up; seconds = 0; routes = routes; services = services }) route_shares service_shares
made_router most_routes most_services ports kept up routes services route_shares service_shares k u r s rs ss fit fits some few are apart =
    rw (k, u, r, s, rs, ss) (record {
      routes_fit = fit;
      services_fit = fits;
      some = some;
      few = few;
      are = are;
      apart = apart;
      minute = lit< tt;
      routes_shared = refl;
      services_shared = refl;
      past = [];
      stands = made_stands most_routes most_services ports;
      on_ports = tt;
      of_bytes = tt;
    })
