-- What is so of the histories that an internet stands for is so of its tables in memory.
use Rattle.std.proofs.Common.{◌≡◌, sym, ap, ◌∙◌, ℕ, ◌<◌, List, [], length, arith}
use Rattle.std.specs.Option.{option_map}
use Rattle.std.proofs.lemmas.List.{length-map, get_or-map}
use Rattle.std.proofs.lemmas.Option.{get_or_from_slice_get, slice_get_within}
use Rattle.ipx_table.specs.declared.held.Held.{Held}
use Rattle.ipx_wire.specs.declared.network.Network.{Network}
use Rattle.ipx_router.specs.Facts.{routes_held, offers}
use Rattle.ipx_router.specs.History.{History}
use Rattle.ipx_router.specs.Outgoing.{route_to}
use Rattle.ipx_router.specs.Port.{Port}
use Rattle.ipx_router.specs.Stands.{State}
use Rattle.ipx_router.specs.declared.route_offer.RouteOffer.{RouteOffer}
use Rattle.ipx_internet.specs.Internet.{Internet, ports_of}
use Rattle.ipx_internet.specs.Moment.{Moment, StandsFor, net_at}
use Rattle.ipx_internet.specs.Queue.{Queued, history_of}
use Rattle.ipx_laws.specs.Least.{way_of, least_route}
use Rattle.ipx_laws.specs.Ups.{ups}
use Rattle.least_ways.specs.Right.{HasLeastWays}

module _ (most_routes most_services : ℕ) (old new : Moment) (histories : List History)
    (stands : StandsFor most_routes most_services old (record { histories = histories; queue = [] })) (same : net_at new ≡ net_at old) (q : Queued)
    (now : StandsFor most_routes most_services new q) where
  pub are_least : ((router : ℕ) (network : Network) → router < length (net_at old)
      → option_map way_of (route_to (offers (routes_held (ports_of (net_at old) router) most_routes (history_of q.histories router))) network.0)
      ≡ least_route (net_at old) (ups (net_at old) histories) router network) → HasLeastWays most_routes most_services old new
  are_least right = record {
    histories = histories;
    stands = stands;
    right = λ number s network there.
        let history = history_of q.histories number in
        let ports : ports_of (net_at old) number ≡ s.ports =
        ap (λ (net : Internet). ports_of net number) (sym same)
        ∙ get_or-map (λ (t : State). t.ports) new.routers number s [] (slice_get_within new.routers number s there)
        ∙ ap (λ (t : State). t.ports) (get_or_from_slice_get new.routers number s s there) in
        let routes : s.routes ≡ routes_held (ports_of (net_at old) number) most_routes history =
        (now.routers number s there).routes_stand ∙ ap (λ (ps : List Port). routes_held ps most_routes history) (sym ports) in
        let within : number < length (net_at old) =
        let listed = slice_get_within new.routers number s there in
        let count = length-map new.routers (λ (t : State). t.ports) in
        let as_many = ap (λ (net : Internet). length net) same in
        omega (arith, listed, count, as_many) in
        ap (λ (records : List (Held RouteOffer)). option_map way_of (route_to (offers records) network.0)) routes ∙ right number network within;
  }
