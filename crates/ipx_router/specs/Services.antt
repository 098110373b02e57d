-- What a table reads of a service (IPX Router Specification: the better service has fewer hops).
use Rattle.std.specs.Prelude.{ℕ, nat_le, List, map}
use Rattle.std.specs.Ordering.{nat_cmp, ordering_then}
use Rattle.std.specs.declared.cmp.Ordering.{Ordering}
use Rattle.ipx_table.specs.Reading.{Reading, Rules, rules_of}
use Rattle.ipx_wire.specs.Name.{name_order}
use Rattle.ipx_router.specs.Numbers.{unreachable}
use Rattle.ipx_router.specs.Port.{Port}
use Rattle.ipx_router.specs.declared.service_offer.ServiceOffer.{ServiceOffer}

-- a service is known by its type and name, came by a port from a neighbour, and is unreachable at 16 hops or more
abbrev pub service_reading : Reading ServiceOffer (ℕ × List ℕ)
service_reading = record {
  key = λ s. (s.service.kind, s.service.name);
  source = λ s. (s.port, s.node);
  rank = λ s. (s.service.hops, 0);
  is_down = λ s. nat_le unreachable s.service.hops;
}

-- services are in the order of their types, then of the bytes of their names
abbrev pub service_order : ℕ × List ℕ → ℕ × List ℕ → Ordering
service_order a b = ordering_then (nat_cmp a.0 b.0) (name_order a.1 b.1)

-- the rules of the table of services: their order, its capacity, and the share of each port
abbrev pub service_rules : List Port → ℕ → Rules ServiceOffer
service_rules ports capacity = rules_of service_reading service_order capacity (map (λ p. p.service_share) ports)
