use Rattle.std.proofs.Common.{[], ◌∷◌, map}
use Rattle.ipx_router.specs.Facts.{routes_held, offers}
use Rattle.ipx_router.specs.History.{IsOfBytes, running}
use Rattle.ipx_router.specs.Sends.{ports_sending, sends}
use Rattle.ipx_router.proofs.bounds.PacketsOfEachEvent.{few_packets}
use Rattle.ipx_router.proofs.lists.EachElement.{all_behind}
use Rattle.ipx_router.proofs.sending.SentAfterAnyHistory.{Any, sendings}
use Rattle.ipx_router.proofs.bounds.LengthsOfWhatIsSent.{short}
use Rattle.ipx_router.proofs.bytes.LawsOfLayouts.{Readings, Rereadings}
use Rattle.ipx_router.proofs.laws.bounds.Goals as goal

pub returns-clause-few : goal.returns-clause-few
returns-clause-few c = λ ports most_routes most_services history event.
    few_packets ports most_routes most_services
    (record {
      route_offered = c.next_facts.ensures.others most_routes (map (λ p. p.route_share) ports);
      route_second = c.next_facts.ensures.second most_routes (map (λ p. p.route_share) ports);
      route_port_end = c.next_facts.ensures.port_end most_routes (map (λ p. p.route_share) ports);
      service_offered = c.next_facts-2.ensures.others most_services (map (λ p. p.service_share) ports);
      service_second = c.next_facts-2.ensures.second most_services (map (λ p. p.service_share) ports);
      service_port_end = c.next_facts-2.ensures.port_end most_services (map (λ p. p.service_share) ports);
    })
    history event

pub returns-clause-short : goal.returns-clause-short
returns-clause-short c ports most_routes most_services history event are on bytes =
    let readings : Readings = record {
      packet_read = c.readings.ensures.packet_read;
      packet_front = c.readings.ensures.packet_front;
      rip_read = c.readings.ensures.rip_read;
      sap_read = c.service_readings.ensures.sap_read;
    } in
    let again : Rereadings = record {
      rip_packet_again = c.reread.ensures.rip_packet;
      rip_again = c.reread.ensures.rip;
      query_packet_again = c.reread.ensures.query_packet;
      query_again = c.reread.ensures.query;
      sap_packet_again = c.reread.ensures.sap_packet;
      sap_again = c.reread.ensures.sap;
      forwarded_again = c.reread.ensures.forwarded;
      propagated_again = c.reread.ensures.propagated;
    } in
    short readings again ports are (ports_sending ports history event) (offers (routes_held ports most_routes history)) Any (running history) event (sends ports most_routes most_services history event)
    (all_behind IsOfBytes history (event ∷ []) bytes).0 (sendings readings again c.relays.ensures.listed ports are most_routes most_services history event on bytes)
