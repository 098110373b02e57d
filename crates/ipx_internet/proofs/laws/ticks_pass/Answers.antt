use Rattle.ipx_internet.proofs.laws.ticks_pass.Goals as goal
use Rattle.ipx_internet.proofs.packets.SentOnOrReply.{Layouts}
use Rattle.ipx_internet.proofs.ticks.TickCanBeHad.{stays, can_pass, as_many, in_order, in_between, can_be_busy}

-- the laws of packets and routers
layouts : goal.After-packets → Layouts
layouts c = record {
  readings = record {
    packet_read = c.readings.ensures.packet_read;
    packet_front = c.readings.ensures.packet_front;
    rip_read = c.readings.ensures.rip_read;
    sap_read = c.service_readings.ensures.sap_read;
  };
  again = record {
    rip_packet_again = c.reread.ensures.rip_packet;
    rip_again = c.reread.ensures.rip;
    query_packet_again = c.reread.ensures.query_packet;
    query_again = c.reread.ensures.query;
    sap_packet_again = c.reread.ensures.sap_packet;
    sap_again = c.reread.ensures.sap;
    forwarded_again = c.reread.ensures.forwarded;
    propagated_again = c.reread.ensures.propagated;
  };
  layouts = c.packets.ensures.layouts;
  bytes = c.packets.ensures.bytes;
}

pub returns-clause-stays : goal.returns-clause-stays
returns-clause-stays c net most_routes most_services run steps is are waits all =
    stays net (layouts c) is most_routes most_services run steps are waits all

pub returns-clause-one : goal.returns-clause-one
returns-clause-one c net most_routes most_services run is are waits = can_pass net (layouts c) is most_routes most_services run are waits

pub returns-clause-as_many : goal.returns-clause-as_many
returns-clause-as_many c net most_routes most_services run count is are waits = as_many net (layouts c) is most_routes most_services run count are waits

pub returns-clause-any_order : goal.returns-clause-any_order
returns-clause-any_order c net most_routes most_services run order is are waits each =
    in_order net (layouts c) is most_routes most_services run order are waits each

pub returns-clause-in_between : goal.returns-clause-in_between
returns-clause-in_between c net most_routes most_services run steps is are waits all each =
    in_between net (layouts c) is most_routes most_services run steps are waits all each

pub returns-clause-busy : goal.returns-clause-busy
returns-clause-busy c net most_routes most_services run steps is are waits all each =
    can_be_busy net (layouts c) is most_routes most_services run steps are waits all each
