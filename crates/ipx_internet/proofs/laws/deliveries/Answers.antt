use Rattle.ipx_internet.proofs.deliveries.FewDeliveriesAnEvent.{Sending, few_deliveries}
use Rattle.ipx_internet.proofs.laws.deliveries.Goals as goal
use Rattle.ipx_internet.proofs.places.FewOnANetwork.{delivered_few}

pub returns-clause-one_packet : goal.returns-clause-one_packet
returns-clause-one_packet c = delivered_few

pub returns-clause-one_event : goal.returns-clause-one_event
returns-clause-one_event c net router most_routes most_services history event =
    let laws : Sending = record {
      few = c.bounds.ensures.few;
      silent = c.down_ports.ensures.silent;
      within = λ ports history. (c.relays.ensures.ups ports history).1;
    } in
    few_deliveries laws net router most_routes most_services history event
