-- What crosses to C in a struct, as the router knows it.
use Rattle.std.specs.Prelude.{length}
use Rattle.ipx_table.specs.declared.held.Held.{Held}
use Rattle.ipx_wire.specs.Name.{name_field}
use Rattle.ipx_router.specs.Port.{Port}
use Rattle.ipx_router.specs.Relays.{Sent}
use Rattle.ipx_router.specs.declared.route_offer.RouteOffer.{RouteOffer}
use Rattle.ipx_router.specs.declared.service_offer.ServiceOffer.{ServiceOffer}
use Rattle.ipx_c.specs.declared.values.PacketSent.{PacketSent}
use Rattle.ipx_c.specs.declared.values.PortValues.{PortValues}
use Rattle.ipx_c.specs.declared.values.RouteRecord.{RouteRecord}
use Rattle.ipx_c.specs.declared.values.ServiceRecord.{ServiceRecord}

-- the port that has these values, where they are a port's
abbrev pub port_of : PortValues → Port
port_of v = record {
  network = record { 0 = v.network };
  node = record { 0 = v.node };
  cost = v.cost;
  longest = v.longest;
  route_share = v.routes;
  service_share = v.services;
}

-- a packet that was sent, without its bytes
abbrev pub told_of : Sent → PacketSent
told_of sent = record { length = length sent.bytes; port = sent.port; node = sent.link.0 }

-- a route with its age
abbrev pub route_record : Held RouteOffer → RouteRecord
route_record held = record {
  network = held.offer.network.0;
  hops = held.offer.hops;
  ticks = held.offer.ticks;
  node = held.offer.node.0;
  port = held.offer.port;
  age = held.age;
}

-- a service with its age; its name as a packet has it, with zeros behind
abbrev pub service_record : Held ServiceOffer → ServiceRecord
service_record held = record {
  name = name_field held.offer.service.name;
  network = held.offer.service.address.network.0;
  node = held.offer.service.address.node.0;
  socket = held.offer.service.address.socket.0;
  kind = held.offer.service.kind;
  hops = held.offer.service.hops;
  neighbour = held.offer.node.0;
  port = held.offer.port;
  age = held.age;
}
