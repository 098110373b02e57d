use Rattle.ipx_internet.proofs.laws.weighs.Goals as goal
use Rattle.ipx_internet.proofs.weights.EachMakesLighter.{Weighed, lighter, quiet}

-- the laws of packets and routers
laws : goal.After-within_capacity → Weighed
laws c = record {
  wire = record {
    one_packet = c.readings.ensures.one_packet;
    one_crossed = c.readings.ensures.one_crossed;
    forwarded_again = c.reread.ensures.forwarded;
    propagated_again = c.reread.ensures.propagated;
    crossed_again = c.reread.ensures.crossed;
    same_nodes = c.same_offers.ensures.nodes;
  };
  relaying = record {
    packet_read = c.readings.ensures.packet_read;
    listed = c.relays.ensures.listed;
    all = c.relays.ensures.all;
    in_order = c.relays.ensures.in_order;
  };
  over = record { forwarded_over = c.sent_on.ensures.forwarded; propagated_over = c.sent_on.ensures.propagated };
  layouts = record {
    readings = record {
      packet_read = c.readings.ensures.packet_read;
      packet_front = c.readings.ensures.packet_front;
      rip_read = c.readings.ensures.rip_read;
      sap_read = c.service_readings.ensures.sap_read;
    };
    again = record {
      rip_packet_again = c.reread.ensures.rip_packet;
      rip_again = c.reread.ensures.rip;
      query_packet_again = c.reread.ensures.query_packet;
      query_again = c.reread.ensures.query;
      sap_packet_again = c.reread.ensures.sap_packet;
      sap_again = c.reread.ensures.sap;
      forwarded_again = c.reread.ensures.forwarded;
      propagated_again = c.reread.ensures.propagated;
    };
    layouts = c.packets.ensures.layouts;
    bytes = c.packets.ensures.bytes;
  };
  ups = record { routes = c.tables.ensures.routes_up; services = c.tables.ensures.services_up };
  rooms = record { routes = c.within_capacity.ensures.routes; services = c.within_capacity.ensures.services };
  right = λ ports most_routes history on_ports. record {
    rising = (c.relays.ensures.ups ports history).0;
    within = (c.relays.ensures.ups ports history).1;
    table = c.tables.ensures.of_a_table ports most_routes history on_ports;
    routes_up = c.tables.ensures.routes_up ports most_routes history;
  };
}

pub returns-clause-falls : goal.returns-clause-falls
returns-clause-falls c net most_routes most_services histories d queue is differ are delivery =
    lighter (laws c) net is differ most_routes most_services histories are d delivery queue

pub returns-clause-enough : goal.returns-clause-enough
returns-clause-enough c net most_routes most_services q limit is differ are waits light =
    quiet (laws c) net is differ most_routes most_services limit q.histories q.queue (record { are = are; waits = waits }) light
