use Rattle.ipx_internet.proofs.deliveries.FewDeliveriesAnEvent.{Sending}
use Rattle.ipx_internet.proofs.laws.settles.Goals as goal
use Rattle.ipx_internet.proofs.packets.SentOnOrReply.{Layouts}
use Rattle.ipx_internet.proofs.rounds.FewDeliveriesARound.{Rooms, all_few}
use Rattle.ipx_internet.proofs.rounds.QuietAfterRounds.{quiet, enough, all_settled}
use Rattle.ipx_internet.proofs.rounds.QuietSooner.{own_quiet}

-- the laws of packets and routers
layouts : goal.After-within_capacity → Layouts
layouts c = record {
  readings = record {
    packet_read = c.readings.ensures.packet_read;
    packet_front = c.readings.ensures.packet_front;
    rip_read = c.readings.ensures.rip_read;
    sap_read = c.service_readings.ensures.sap_read;
  };
  again = record {
    rip_packet_again = c.reread.ensures.rip_packet;
    rip_again = c.reread.ensures.rip;
    query_packet_again = c.reread.ensures.query_packet;
    query_again = c.reread.ensures.query;
    sap_packet_again = c.reread.ensures.sap_packet;
    sap_again = c.reread.ensures.sap;
    forwarded_again = c.reread.ensures.forwarded;
    propagated_again = c.reread.ensures.propagated;
  };
  layouts = c.packets.ensures.layouts;
  bytes = c.packets.ensures.bytes;
}

pub returns-clause-quiet : goal.returns-clause-quiet
returns-clause-quiet c net most_routes most_services q is are waits = quiet net most_routes most_services (layouts c) is q are waits

pub returns-clause-own : goal.returns-clause-own
returns-clause-own c net most_routes most_services histories steps is are own =
    own_quiet net (layouts c) is most_routes most_services histories are steps own

pub returns-clause-enough : goal.returns-clause-enough
returns-clause-enough c net most_routes most_services q limit is are waits few = enough net most_routes most_services (layouts c) is q are waits limit few

pub returns-clause-one_by_one : goal.returns-clause-one_by_one
returns-clause-one_by_one c net most_routes most_services n q = all_settled net most_routes most_services n q

pub returns-clause-few : goal.returns-clause-few
returns-clause-few c net most_routes most_services q is are waits small =
    let sending : Sending = record {
      few = c.bounds.ensures.few;
      silent = c.down_ports.ensures.silent;
      within = λ ports history. (c.relays.ensures.ups ports history).1;
    } in
    let rooms : Rooms = record { routes = c.within_capacity.ensures.routes; services = c.within_capacity.ensures.services } in
    all_few net (layouts c) sending rooms is most_routes most_services small q are waits
