use Rattle.std.proofs.Common.{[], ◌∷◌}
use Rattle.ipx_router.specs.Facts.{routes_held, offers}
use Rattle.ipx_router.specs.History.{IsOfBytes, running}
use Rattle.ipx_router.specs.Sends.{ports_sending, sends}
use Rattle.ipx_router.proofs.lists.EachElement.{all_behind}
use Rattle.ipx_router.proofs.bytes.SentIsBytes.{of_bytes}
use Rattle.ipx_router.proofs.sending.SentAfterAnyHistory.{Any, sendings, sent_for}
use Rattle.ipx_router.proofs.bytes.LawsOfLayouts.{Readings, Rereadings}
use Rattle.ipx_router.proofs.laws.packets.Goals as goal

-- the laws of the layouts
readings : goal.After-relays → Readings
readings c = record {
  packet_read = c.readings.ensures.packet_read;
  packet_front = c.readings.ensures.packet_front;
  rip_read = c.readings.ensures.rip_read;
  sap_read = c.service_readings.ensures.sap_read;
}

again : goal.After-relays → Rereadings
again c = record {
  rip_packet_again = c.reread.ensures.rip_packet;
  rip_again = c.reread.ensures.rip;
  query_packet_again = c.reread.ensures.query_packet;
  query_again = c.reread.ensures.query;
  sap_packet_again = c.reread.ensures.sap_packet;
  sap_again = c.reread.ensures.sap;
  forwarded_again = c.reread.ensures.forwarded;
  propagated_again = c.reread.ensures.propagated;
}

pub returns-clause-layouts : goal.returns-clause-layouts
returns-clause-layouts c ports most_routes most_services history event are on bytes =
    sent_for Any ports (ports_sending ports history event) (offers (routes_held ports most_routes history)) (running history) event (sends ports most_routes most_services history event)
    (sendings (readings c) (again c) c.relays.ensures.listed ports are most_routes most_services history event on bytes)

pub returns-clause-bytes : goal.returns-clause-bytes
returns-clause-bytes c ports most_routes most_services history event are on bytes =
    of_bytes ports (ports_sending ports history event) (offers (routes_held ports most_routes history)) Any (running history) event (sends ports most_routes most_services history event)
    (all_behind IsOfBytes history (event ∷ []) bytes).0
    (sendings (readings c) (again c) c.relays.ensures.listed ports are most_routes most_services history event on bytes)
