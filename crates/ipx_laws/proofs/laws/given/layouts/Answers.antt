use Rattle.ipx_laws.proofs.laws.given.layouts.Goals as goal

pub returns : goal.returns
returns c = record {
  readings = record {
    packet_read = c.readings.ensures.packet_read;
    packet_front = c.readings.ensures.packet_front;
    rip_read = c.readings.ensures.rip_read;
    sap_read = c.service_readings.ensures.sap_read;
  };
  again = record {
    rip_packet_again = c.reread.ensures.rip_packet;
    rip_again = c.reread.ensures.rip;
    query_packet_again = c.reread.ensures.query_packet;
    query_again = c.reread.ensures.query;
    sap_packet_again = c.reread.ensures.sap_packet;
    sap_again = c.reread.ensures.sap;
    forwarded_again = c.reread.ensures.forwarded;
    propagated_again = c.reread.ensures.propagated;
  };
  layouts = c.packets.ensures.layouts;
  bytes = c.packets.ensures.bytes;
}
