-- The text of the tables of a router that stands for a history.
use Rattle.std.proofs.Common.{◌≡◌, ℕ, List, ◌++◌, ap, ◌∙◌}
use Rattle.std.specs.List.{flat_map}
use Rattle.ipx_router.specs.History.{History}
use Rattle.ipx_router.specs.Stands.{State, StandsFor}
use Rattle.ipx_cmd.specs.EventText.{most_routes, most_services}
use Rattle.ipx_cmd.specs.TableText.{route_held, routes_text, service_held, services_text}

pub routes_written : (s : State) (h : History) (start after : List ℕ) → StandsFor most_routes most_services s h → after ≡ start ++ flat_map route_held s.routes
    → after ≡ start ++ routes_text s.ports h
unfolding routes_text
routes_written s h start after stands wrote = wrote ∙ ap (λ l. start ++ flat_map route_held l) stands.routes_stand

pub services_written : (s : State) (h : History) (start after : List ℕ) → StandsFor most_routes most_services s h → after ≡ start ++ flat_map service_held s.services
    → after ≡ start ++ services_text s.ports h
unfolding services_text
services_written s h start after stands wrote = wrote ∙ ap (λ l. start ++ flat_map service_held l) stands.services_stand
