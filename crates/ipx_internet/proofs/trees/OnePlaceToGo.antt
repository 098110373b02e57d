-- Where a packet for another network goes: to a port's network, or to one neighbour.
use Rattle.std.proofs.Common.{◌≡◌, refl, ℕ, ◌==◌, ◌⊎◌, Bool, true, false, List, [], ◌∷◌, Option, None, Some, inl, inr, option_map, if◌then◌else◌, arith}
use Rattle.std.specs.List.{AllByRecursion}
use Rattle.std.proofs.lemmas.Bool.{eqb-true}
use Rattle.ipx_wire.specs.declared.address.Address.{Address}
use Rattle.ipx_wire.specs.declared.network.Network.{Network}
use Rattle.ipx_router.specs.Numbers.{default_route}
use Rattle.ipx_router.specs.Outgoing.{Way, port_to, route_to, serving, way_to}
use Rattle.ipx_router.specs.Port.{Port, broadcast, port_at, same_node, takes_no_route}
use Rattle.ipx_router.specs.Relays.{Sent, IsTableRoute}
use Rattle.ipx_router.specs.declared.route_offer.RouteOffer.{RouteOffer}
use Rattle.ipx_internet.proofs.lists.FoundInAList.{nothing, it_is, found}

-- all elements are elements
any_of : {X : Type 0} (xs : List X) → AllByRecursion (λ x. Unit {0}) xs
any_of [] = tt
any_of (x ∷ xs) = (tt, any_of xs)

-- the route that serves a network is one of the table
served : (P : RouteOffer → Type 0) (ports : List Port) (routes : List RouteOffer) (network : Network) (route : RouteOffer) → AllByRecursion P routes
    → serving ports routes network ≡ Some route → P route
served P ports routes network route all e = by (route_to routes network.0) refl e
  where
    otherwise : (skipped : Bool) → (if skipped then None else route_to routes default_route) ≡ Some route → P route
    otherwise true e = nothing e
    otherwise false e = (found P (λ r. r.network.0 == default_route) routes route all e).0

    by : (o : Option RouteOffer) → route_to routes network.0 ≡ o
        → elim o [ Some r ↦ Some r | None ↦ if takes_no_route ports network then None else route_to routes default_route ] ≡ Some route → P route
    by (Some r) there e = it_is P route r e (found P (λ r. r.network.0 == network.0) routes r all there).0
    by None there e = otherwise (takes_no_route ports network) e

-- the way is by a port of the destination's network, or to one node
pub by_port_or_node : (ports : List Port) (up : List ℕ) (routes : List RouteOffer) (destination : Address) (way : Way) → AllByRecursion (IsTableRoute ports) routes
    → way_to ports up routes destination ≡ Some way
    → ((port_at ports way.port).network.0 ≡ destination.network.0) ⊎ (same_node way.link broadcast ≡ false)
by_port_or_node ports up routes destination way table e = by (port_to ports up destination.network) (serving ports routes destination.network) refl refl e
  where
    by : (o : Option ℕ) (r : Option RouteOffer) → port_to ports up destination.network ≡ o → serving ports routes destination.network ≡ r
        → elim o [ Some j ↦ Some (record { port = j; link = destination.node }) | None ↦ option_map (λ r. record { port = r.port; link = r.node }) r ] ≡ Some way
        → ((port_at ports way.port).network.0 ≡ destination.network.0) ⊎ (same_node way.link broadcast ≡ false)
    by (Some j) r direct routed e =
        inl (it_is (λ (w : Way). (port_at ports w.port).network.0 ≡ destination.network.0) way (record { port = j; link = destination.node }) e
        (eqb-true (port_at ports j).network.0 destination.network.0
        (found (λ j. Unit {0}) (λ j. (port_at ports j).network.0 == destination.network.0) up j (any_of up) direct).1))
    by None None direct routed e = nothing e
    by None (Some r) direct routed e =
        inr (it_is (λ (w : Way). same_node w.link broadcast ≡ false) way (record { port = r.port; link = r.node }) e
        (served (IsTableRoute ports) ports routes destination.network r table routed).neighbour)

-- what is sent by one way, with the same bytes, is the same
pub one_sent : (way : Option Way) (bytes : List ℕ) (s t : Sent) → way ≡ Some (record { port = s.port; link = s.link })
    → way ≡ Some (record { port = t.port; link = t.link }) → s.bytes ≡ bytes → t.bytes ≡ bytes → s ≡ t
one_sent way bytes s t by_s by_t from_s from_t = grind arith
