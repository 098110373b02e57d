use Rattle.std.proofs.Common.{[], ◌∷◌, ◌++◌}
use Rattle.ipx_router.proofs.horizon.NoEventSendsBack.{events_keep}
use Rattle.ipx_router.proofs.bytes.LawsOfLayouts.{Readings, Rereadings}
use Rattle.ipx_router.proofs.laws.no_route_goes_back.Goals as goal

pub returns : goal.returns
returns c =
    let readings : Readings = record {
      packet_read = c.readings.ensures.packet_read;
      packet_front = c.readings.ensures.packet_front;
      rip_read = c.readings.ensures.rip_read;
      sap_read = c.service_readings.ensures.sap_read;
    } in
    let again : Rereadings = record {
      rip_packet_again = c.reread.ensures.rip_packet;
      rip_again = c.reread.ensures.rip;
      query_packet_again = c.reread.ensures.query_packet;
      query_again = c.reread.ensures.query;
      sap_packet_again = c.reread.ensures.sap_packet;
      sap_again = c.reread.ensures.sap;
      forwarded_again = c.reread.ensures.forwarded;
      propagated_again = c.reread.ensures.propagated;
    } in
    record {
      sent = λ ports most_routes most_services history event are on bytes.
          let later = history ++ event ∷ [] in
          events_keep readings again ports are most_routes most_services history event on bytes (c.tables.ensures.of_a_table ports most_routes later on)
          (c.tables.ensures.routes_rise ports most_routes later) (c.packets.ensures.layouts ports most_routes most_services history event are on bytes)
          (c.packets.ensures.bytes ports most_routes most_services history event are on bytes);
    }
