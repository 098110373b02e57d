-- Once all tables are right, they stay so after each step of ticks: the same routes, and the services if these stay.
use Rattle.std.proofs.Common.{◌≡◌, refl, sym, ◌∙◌, ℕ, ◌≤◌, ◌<◌, ◌==◌, List, [], ◌∷◌, length, map, find, is_eq}
use Rattle.std.specs.List.{AllByRecursion}
use Rattle.std.specs.List.Sorted.{IsStrictlyIncreasing}
use Rattle.ipx_wire.specs.declared.network.Network.{Network}
use Rattle.ipx_router.specs.Facts.{routes_held, offers}
use Rattle.ipx_router.specs.History.{History}
use Rattle.ipx_router.specs.Port.{Port}
use Rattle.ipx_router.specs.Routes.{network_order}
use Rattle.ipx_router.specs.declared.route_offer.RouteOffer.{RouteOffer}
use Rattle.ipx_internet.specs.Internet.{Internet, IsInternet, NodesDiffer, ports_of}
use Rattle.ipx_internet.specs.Queue.{history_of}
use Rattle.ipx_internet.specs.Run.{Step, Run, stepped}
use Rattle.ipx_internet.proofs.packets.SentOnOrReply.{Layouts}
use Rattle.ipx_laws.specs.Apart.{HasRoomBeside}
use Rattle.ipx_laws.specs.Least.{AreCheap, FifteenSuffice, most_ticks_right}
use Rattle.ipx_laws.specs.Upkeep.{TablesStay, ServicesStay, steps_of}
use Rattle.ipx_laws.proofs.lists.SameElementsInOrder.{same_lists}
use Rattle.ipx_laws.proofs.tables.Given.{Given, given_of}
use Rattle.ipx_laws.proofs.tables.RightWithinAMinute.{AtRest, find_same, tied}
use Rattle.ipx_laws.proofs.tables.RoutesStayAtEachStep.{SameRoute, routes_stay}
use Rattle.ipx_laws.proofs.ticks.AfterEachStep.{AfterEach, each_all}
use Rattle.ipx_laws.proofs.ticks.TickAfterTick.{CalmTicks}

module _ (net : Internet) (laws : Layouts) (is : IsInternet net) (differ : NodesDiffer net) (cheap : AreCheap net) (up : ℕ → List ℕ)
    (in_ports : (router : ℕ) → AllByRecursion (λ j. j < length (ports_of net router)) (up router)) (most_routes most_services : ℕ)
    (room : HasRoomBeside net most_routes []) (suffice : (network : Network) → FifteenSuffice net up network)
    (rise : (ports : List Port) (history : History) → IsStrictlyIncreasing (map (λ r. r.network.0) (offers (routes_held ports most_routes history)))) where
  abbrev pub given_for : Network → Given
  given_for network = given_of net laws is differ cheap up in_ports most_routes most_services [] room network (suffice network) refl

  -- to every network
  abbrev SameRoutes : Run → Run → Type 0
  SameRoutes first now = (network : Network) → SameRoute (given_for network) first now

  -- then the tables are the same
  same_table : (first now : Run) → SameRoutes first now → (router : ℕ) → router < length net
      → offers (routes_held (ports_of net router) most_routes (history_of now.histories router))
      ≡ offers (routes_held (ports_of net router) most_routes (history_of first.histories router))
  same_table first now same router inside =
      same_lists (λ r. r.network.0) (held now) (held first) (rise (ports_of net router) (history_of now.histories router))
      (rise (ports_of net router) (history_of first.histories router))
      (λ n. by_number n (held now) ∙ same (record { 0 = n }) router inside ∙ sym (by_number n (held first)))
    where
      held : Run → List RouteOffer
      held run = offers (routes_held (ports_of net router) most_routes (history_of run.histories router))

      by_number : (n : ℕ) (routes : List RouteOffer) → find (λ r. r.network.0 == n) routes ≡ find (λ o. is_eq (network_order o.network (record { 0 = n }))) routes
      by_number n routes = find_same (λ r. r.network.0 == n) (λ o. is_eq (network_order o.network (record { 0 = n }))) (λ r. tied r.network.0 n) routes

  tables_stay : (first run : Run) (steps : List Step) → AfterEach net most_routes most_services (SameRoutes first) run steps
      → ServicesStay net most_routes most_services first.histories run steps → TablesStay net most_routes most_services first.histories run steps
  tables_stay first run [] same services = tt
  tables_stay first run (step ∷ steps) same services =
      let next = stepped net most_routes most_services run step in (
        λ router inside. (same_table first next same.0 router inside, services.0 router inside),
        tables_stay first next steps same.1 services.1,
      )

  pub tables_stay_in : (so_far : ℕ) → most_ticks_right ≤ so_far → (run : Run) (ticks : List (List Step))
      → ((network : Network) → AtRest (given_for network) so_far run)
      → CalmTicks net most_routes most_services [] run ticks → ServicesStay net most_routes most_services run.histories run (steps_of ticks)
      → TablesStay net most_routes most_services run.histories run (steps_of ticks)
  tables_stay_in so_far steady run ticks rest calm services =
      tables_stay run run (steps_of ticks)
      (each_all net most_routes most_services
      (λ (network : Network) now. SameRoute (given_for network) run now) run (steps_of ticks)
      (λ network. routes_stay (given_for network) so_far steady run run ticks
      (rest network) calm (λ router inside. refl)))
      services
