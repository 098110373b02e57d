-- What a table reads of a route (IPX Router Specification: the better route has fewer ticks, then fewer hops).
use Rattle.std.specs.Prelude.{ℕ, nat_le, List, map}
use Rattle.std.specs.Ordering.{nat_cmp}
use Rattle.std.specs.declared.cmp.Ordering.{Ordering}
use Rattle.ipx_table.specs.Reading.{Reading, Rules, rules_of}
use Rattle.ipx_wire.specs.declared.network.Network.{Network}
use Rattle.ipx_router.specs.Numbers.{unreachable}
use Rattle.ipx_router.specs.Port.{Port}
use Rattle.ipx_router.specs.declared.route_offer.RouteOffer.{RouteOffer}

-- a route is known by its network, came by a port from a neighbour, and is unreachable at 16 hops or more
abbrev pub route_reading : Reading RouteOffer Network
route_reading = record {
  key = λ r. r.network;
  source = λ r. (r.port, r.node);
  rank = λ r. (r.ticks, r.hops);
  is_down = λ r. nat_le unreachable r.hops;
}

-- networks are in the order of their numbers
abbrev pub network_order : Network → Network → Ordering
network_order a b = nat_cmp a.0 b.0

-- the rules of the table of routes: their order, its capacity, and the share of each port
abbrev pub route_rules : List Port → ℕ → Rules RouteOffer
route_rules ports capacity = rules_of route_reading network_order capacity (map (λ p. p.route_share) ports)
