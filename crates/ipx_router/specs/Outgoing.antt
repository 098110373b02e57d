-- Where a packet for another network leaves (IPX Router Specification, packet forwarding and the default route).
use Rattle.std.specs.Prelude.{ℕ, ◌==◌, ◌&&◌, Bool, if◌then◌else◌, List, Option, None, Some}
use Rattle.std.specs.List.{find, list_any}
use Rattle.std.specs.Option.{option_map}
use Rattle.ipx_wire.specs.declared.address.Address.{Address}
use Rattle.ipx_wire.specs.declared.network.Network.{Network}
use Rattle.ipx_wire.specs.declared.node.Node.{Node}
use Rattle.ipx_router.specs.Numbers.{default_route}
use Rattle.ipx_router.specs.Port.{Port, port_at, same_node, takes_no_route}
use Rattle.ipx_router.specs.declared.route_offer.RouteOffer.{RouteOffer}

-- the port on which a packet leaves, and the next hop: the node on that port's network to which the link sends it
pub record Way : Type 0 where
  pub port : ℕ
  pub link : Node

-- the port on that network, if there is one and it is up
abbrev pub port_to : List Port → List ℕ → Network → Option ℕ
port_to ports up network = find (λ j. (port_at ports j).network.0 == network.0) up

-- the route that is held for a network number, if there is one
abbrev pub route_to : List RouteOffer → ℕ → Option RouteOffer
route_to routes number = find (λ r. r.network.0 == number) routes

-- the route for packets to a network: the one that is held for it, or else the default route. This one serves every network to
-- which a route may be taken: so neither that of all routes nor that of a port, up or not
abbrev pub serving : List Port → List RouteOffer → Network → Option RouteOffer
serving ports routes network =
    elim (route_to routes network.0) [
      | Some route ↦ Some route
      | None ↦ if takes_no_route ports network then None else route_to routes default_route
    ]

-- to the network of a port that is up a packet goes straight to its destination node, to any other by the neighbour that
-- advertised the route
abbrev pub way_to : List Port → List ℕ → List RouteOffer → Address → Option Way
way_to ports up routes destination =
    elim (port_to ports up destination.network) [
      | Some j ↦ Some (record { port = j; link = destination.node })
      | None ↦ option_map (λ r. record { port = r.port; link = r.node }) (serving ports routes destination.network)
    ]

-- the destination is one of the router's own ports, up or not
abbrev pub is_own_port : List Port → Address → Bool
is_own_port ports destination =
    list_any (λ p. (p.network.0 == destination.network.0) && same_node p.node destination.node) ports
