use Rattle.std.proofs.Common.{◌≡◌, true, [], ◌∷◌, ◌++◌}
use Rattle.ipx_router.specs.Facts.{routes_held, offers}
use Rattle.ipx_router.specs.History.{IsOnPort, IsOfBytes, ports_up, running}
use Rattle.ipx_router.specs.Packets.{IsSentFor}
use Rattle.ipx_router.specs.Port.{is_up}
use Rattle.ipx_router.specs.Relays.{IsTableRoute}
use Rattle.ipx_router.specs.Sends.{ports_sending, sends}
use Rattle.ipx_router.proofs.horizon.DownNetworksUnreachable.{Gone, allows_gone, opens_gone, entries_sent_are}
use Rattle.ipx_router.proofs.horizon.NothingOnDownPorts.{sent_on, none_told, no_news_of}
use Rattle.ipx_router.proofs.lists.EachElement.{all_then, all_before, all_behind}
use Rattle.ipx_router.proofs.port_values.PortOfEachNumber.{ports_up-within}
use Rattle.ipx_router.proofs.sending.SentAfterAnyHistory.{sendings_of}
use Rattle.ipx_router.proofs.tables.HeldWasOffered.{tables}
use Rattle.ipx_router.proofs.bytes.LawsOfLayouts.{Readings, Rereadings}
use Rattle.ipx_router.proofs.laws.down_ports.Goals as goal

pub returns-clause-silent : goal.returns-clause-silent
returns-clause-silent c ports most_routes most_services history event are on bytes =
    let up = ports_sending ports history event in
    let routes = offers (routes_held ports most_routes history) in
    all_then (IsSentFor ports up routes (running history) event) (λ s. is_up up s.port ≡ true) (sent_on ports up routes (running history) event)
    (sends ports most_routes most_services history event)
    (c.packets.ensures.layouts ports most_routes most_services history event are on bytes)

pub returns-clause-told : goal.returns-clause-told
returns-clause-told c ports most_routes history number down apart on exists is_down =
    none_told ports down exists (ports_up ports history) (offers (routes_held ports most_routes history)) number apart (ports_up-within ports history) is_down
    (tables ports most_routes history on)

pub returns-clause-news : goal.returns-clause-news
returns-clause-news c ports most_routes before after number other on_before on_after exists =
    no_news_of ports other exists (offers (routes_held ports most_routes before)) (offers (routes_held ports most_routes after)) number
    (tables ports most_routes before on_before) (tables ports most_routes after on_after)

pub returns-clause-unreachable : goal.returns-clause-unreachable
returns-clause-unreachable c ports most_routes most_services history event down are apart on bytes exists is_down =
    let readings : Readings = record {
      packet_read = c.readings.ensures.packet_read;
      packet_front = c.readings.ensures.packet_front;
      rip_read = c.readings.ensures.rip_read;
      sap_read = c.service_readings.ensures.sap_read;
    } in
    let again : Rereadings = record {
      rip_packet_again = c.reread.ensures.rip_packet;
      rip_again = c.reread.ensures.rip;
      query_packet_again = c.reread.ensures.query_packet;
      query_again = c.reread.ensures.query;
      sap_packet_again = c.reread.ensures.sap_packet;
      sap_again = c.reread.ensures.sap;
      forwarded_again = c.reread.ensures.forwarded;
      propagated_again = c.reread.ensures.propagated;
    } in
    let later = history ++ event ∷ [] in
    let sent = sends ports most_routes most_services history event in
    let before = all_before (IsOnPort ports) history (event ∷ []) on in
    entries_sent_are readings again ports are (ports_sending ports history event) (offers (routes_held ports most_routes history)) (Gone ports are down exists)
    (running history) event sent (all_behind IsOfBytes history (event ∷ []) bytes).0
    (sendings_of readings again c.relays.ensures.listed (Gone ports are down exists) (IsTableRoute ports) (allows_gone ports are down exists) ports are
    most_routes most_services history event on bytes (opens_gone ports are down exists (ports_up ports later) apart (ports_up-within ports later) is_down)
    (tables ports most_routes history before) (tables ports most_routes later on))
