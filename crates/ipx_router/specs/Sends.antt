-- What each event sends (IPX Router Specification, periodic and immediate broadcasts, requests and queries): ports in
-- order, on one port routing information before services.
use Rattle.std.specs.Prelude.{ℕ, ◌+◌, ◌%◌, ◌==◌, ◌||◌, ◌&&◌, Bool, false, not, if◌then◌else◌, List, [], ◌∷◌, ◌++◌, map, filter, None, Some, Ok, Err}
use Rattle.std.specs.List.{flat_map, list_any}
use Rattle.std.specs.Ordering.{nat_cmp, ordering_then, is_lt}
use Rattle.ipx_wire.specs.Name.{name_order}
use Rattle.ipx_wire.specs.Packet.{packet_of}
use Rattle.ipx_wire.specs.Write.{rip_packet, query_packet}
use Rattle.ipx_wire.specs.WriteServices.{sap_packet}
use Rattle.ipx_wire.specs.declared.address.Address.{Address}
use Rattle.ipx_wire.specs.declared.rip.Operation.{Operation}
use Rattle.ipx_wire.specs.declared.rip.Operation.TheVariants.{Request, Response}
use Rattle.ipx_wire.specs.declared.rip.RipEntry.{RipEntry}
use Rattle.ipx_wire.specs.declared.sap.Sap.TheVariants.{Query, Response as SapResponse}
use Rattle.ipx_wire.specs.declared.service.Service.{Service}
use Rattle.ipx_router.specs.Heard.{Heard, HeardRip, HeardSap, heard}
use Rattle.ipx_router.specs.Facts.{routes_held, services_held, offers}
use Rattle.ipx_router.specs.History.{Event, History, Start, Stop, Second, Packet, PortDown, PortUp, is_stop, running, seconds_run, ports_up}
use Rattle.ipx_router.specs.News.{news, news_services}
use Rattle.ipx_router.specs.Numbers.{all_routes, asked_metric, every_service, entries_a_page, services_a_page, period}
use Rattle.ipx_router.specs.Pages.{pages}
use Rattle.ipx_router.specs.Port.{Port, broadcast, port_at, is_up, own_address, everyone, own_services, every_server, reply_to}
use Rattle.ipx_router.specs.Relays.{Sent, relayed}
use Rattle.ipx_router.specs.Told.{told, told_services, told_at, direct_entry, by_network, by_name, dead, dead_service}
use Rattle.ipx_router.specs.Why.{why}
use Rattle.ipx_router.specs.declared.route_offer.RouteOffer.{RouteOffer}
use Rattle.ipx_router.specs.declared.service_offer.ServiceOffer.{ServiceOffer}

-- ---- entries and services, in packets

-- a packet of entries, from the RIP process of a port to an address
abbrev pub entries_sent : List Port → ℕ → Address → Operation → List RipEntry → Sent
entries_sent ports number to operation page = record {
  port = number;
  link = to.node;
  bytes = rip_packet (own_address (port_at ports number)) to operation page;
}

-- entries to an address, a page a packet
abbrev pub rip_sends : List Port → ℕ → Address → Operation → List RipEntry → List Sent
rip_sends ports number to operation entries = map (entries_sent ports number to operation) (pages entries_a_page entries)

-- entries to the RIP processes of all nodes on the port's network
abbrev pub rip_broadcast : List Port → ℕ → List RipEntry → List Sent
rip_broadcast ports number entries = rip_sends ports number (everyone (port_at ports number)) Response entries

-- a packet of services, from the SAP process of a port to an address
abbrev pub services_sent : List Port → ℕ → Address → Bool → List Service → Sent
services_sent ports number to nearest page = record {
  port = number;
  link = to.node;
  bytes = sap_packet (own_services (port_at ports number)) to nearest page;
}

-- services to an address, a page a packet
abbrev pub sap_sends : List Port → ℕ → Address → Bool → List Service → List Sent
sap_sends ports number to nearest services = map (services_sent ports number to nearest) (pages services_a_page services)

-- services to the SAP processes of all nodes on the port's network
abbrev pub sap_broadcast : List Port → ℕ → List Service → List Sent
sap_broadcast ports number services = sap_sends ports number (every_server (port_at ports number)) false services

-- entries and services to all nodes on the port's network
abbrev pub broadcasts : List Port → ℕ → List RipEntry → List Service → List Sent
broadcasts ports number entries services = rip_broadcast ports number entries ++ sap_broadcast ports number services

-- ---- a port comes up

-- the entry that asks for every route
abbrev pub every_route : RipEntry
every_route = record { network = record { 0 = all_routes }; hops = asked_metric; ticks = asked_metric }

-- a request for all routes, to all nodes on the port's network
abbrev pub routes_request : List Port → ℕ → List Sent
routes_request ports number = rip_sends ports number (everyone (port_at ports number)) Request (every_route ∷ [])

-- a query for services of every type, to all nodes on the port's network
abbrev pub services_query : List Port → ℕ → List Sent
services_query ports number = record {
  port = number;
  link = broadcast;
  bytes = query_packet (own_services (port_at ports number)) (every_server (port_at ports number)) false every_service;
} ∷ []

-- what is sent on a port that comes up: its routes, a request for all routes, its services, a query for all services
abbrev pub introduction : List Port → List ℕ → List RouteOffer → List ServiceOffer → ℕ → List Sent
introduction ports up routes services number =
    rip_broadcast ports number (told ports up routes number) ++ routes_request ports number
    ++ sap_broadcast ports number (told_services services number) ++ services_query ports number

-- ---- answers

-- the entries that a request asks for: all of them, or those whose networks it names, each once
abbrev pub asked : List RipEntry → List RipEntry → List RipEntry
asked wanted entries = filter (λ e. list_any (λ w. (w.network.0 == all_routes) || (w.network.0 == e.network.0)) wanted) entries

-- the services of a type; FFFFh asks for every type, also in a query for the nearest (own)
abbrev pub of_kind : ℕ → List Service → List Service
of_kind kind services = filter (λ s. (kind == every_service) || (s.kind == kind)) services

-- one service is nearer than another: by fewer hops, then by the smaller name, then by the smaller type
abbrev pub is_nearer : Service → Service → Bool
is_nearer a b = is_lt (ordering_then (nat_cmp a.hops b.hops) (ordering_then (name_order a.name b.name) (nat_cmp a.kind b.kind)))

-- the nearest of some services alone; nothing, if there are none
abbrev pub nearest_of : List Service → List Service
nearest_of [] = []
nearest_of (service ∷ services) =
    elim (nearest_of services) [
      | [] ↦ service ∷ []
      | ◌∷◌ best rest ↦ if is_nearer best service then best ∷ [] else service ∷ []
    ]

-- ---- each event, by what a router has before and after it

-- what a router has: the numbers of the ports that are up, and its routes and services
pub record Holding : Type 0 where
  pub up : List ℕ
  pub routes : List RouteOffer
  pub services : List ServiceOffer

-- what is broadcast each second: what expired, as unreachable; at a periodic second all that is advertised too, as one list by key
abbrev pub second_on : List Port → Holding → Holding → Bool → ℕ → List Sent
second_on ports before after periodic number =
    let ended = news ports before.routes after.routes number in
    let ended_services = news_services before.services after.services number in
    if periodic then
    broadcasts ports number (by_network (told ports after.up after.routes number ++ ended)) (by_name (told_services after.services number ++ ended_services))
    else broadcasts ports number ended ended_services

-- what is broadcast at a stop: all that was advertised, as unreachable
abbrev pub stop_on : List Port → Holding → ℕ → List Sent
stop_on ports before number =
    broadcasts ports number (map dead (told ports before.up before.routes number)) (map dead_service (told_services before.services number))

-- what is broadcast of what a packet changed
abbrev pub news_on : List Port → Holding → Holding → ℕ → List Sent
news_on ports before after number =
    broadcasts ports number (news ports before.routes after.routes number) (news_services before.services after.services number)

-- what is broadcast when a port goes down: its network, and the routes and services that ended with it, as unreachable
abbrev pub port_down_on : List Port → Holding → Holding → ℕ → ℕ → List Sent
port_down_on ports before after port number =
    broadcasts ports number (by_network (dead (direct_entry ports port) ∷ news ports before.routes after.routes number))
    (news_services before.services after.services number)

-- what is sent when a port comes up: on the port itself its introduction, on another one the port's network
abbrev pub port_up_on : List Port → Holding → ℕ → ℕ → List Sent
port_up_on ports after port number =
    if number == port then introduction ports after.up after.routes after.services number
    else rip_broadcast ports number (told_at (port_at ports number).cost (direct_entry ports port) ∷ [])

-- what is sent for what was heard on a port: for a response the changes, everywhere; for a request or a query an answer
abbrev pub heard_sends : List Port → Holding → Holding → ℕ → Heard → List Sent
heard_sends ports before after number (HeardRip source rip) =
    elim rip.operation [
      | Response ↦ flat_map (news_on ports before after) after.up
      | Request ↦ rip_sends ports number (reply_to (port_at ports number) source) Response (asked rip.entries (told ports before.up before.routes number))
    ]
heard_sends ports before after number (HeardSap source (Query nearest kind)) =
    let services = of_kind kind (told_services before.services number) in
    sap_sends ports number (reply_to (port_at ports number) source) nearest (if nearest then nearest_of services else services)
heard_sends ports before after number (HeardSap source (SapResponse nearest entries)) = flat_map (news_on ports before after) after.up

-- what is sent for a packet that no check drops: for what was heard of it, or the packet itself, sent on
abbrev pub packet_sends : List Port → Holding → Holding → Bool → ℕ → List ℕ → List Sent
packet_sends ports before after runs number bytes =
    elim (why ports before.up before.routes runs number bytes) [
      | Some reason ↦ []
      | None ↦ elim (heard ports before.up runs number bytes) [
        | Some message ↦ heard_sends ports before after number message
        | None ↦ elim (packet_of bytes) [ Ok p ↦ relayed ports before.up before.routes number p | Err fault ↦ [] ]
      ]
    ]

-- what an event sends: on the ports that are up after it, or, at a stop, before it
abbrev pub sends_of : List Port → Holding → Holding → Bool → Bool → Event → List Sent
sends_of ports before after runs periodic Start = if runs then [] else flat_map (introduction ports after.up [] []) after.up
sends_of ports before after runs periodic Stop = if runs then flat_map (stop_on ports before) before.up else []
sends_of ports before after runs periodic Second = if runs then flat_map (second_on ports before after periodic) after.up else []
sends_of ports before after runs periodic (Packet number bytes) = packet_sends ports before after runs number bytes
sends_of ports before after runs periodic (PortDown number) =
    if runs && is_up before.up number then flat_map (port_down_on ports before after number) after.up else []
sends_of ports before after runs periodic (PortUp number) =
    if runs && not (is_up before.up number) then flat_map (port_up_on ports after number) after.up else []

-- ---- over histories

-- what a router has after a history, with room for that many routes and services
abbrev pub holding : List Port → ℕ → ℕ → History → Holding
holding ports most_routes most_services history = record {
  up = ports_up ports history;
  routes = offers (routes_held ports most_routes history);
  services = offers (services_held ports most_services history);
}

-- a second that comes after a history is periodic
abbrev pub is_periodic : History → Bool
is_periodic history = (seconds_run history + 1) % period == 0

-- the ports on which an event may send: those that are up after it, or, at a stop, before it
abbrev pub ports_sending : List Port → History → Event → List ℕ
ports_sending ports history event = if is_stop event then ports_up ports history else ports_up ports (history ++ event ∷ [])

-- what an event sends after a history
abbrev pub sends : List Port → ℕ → ℕ → History → Event → List Sent
sends ports most_routes most_services history event =
    sends_of ports (holding ports most_routes most_services history) (holding ports most_routes most_services (history ++ event ∷ []))
    (running history) (is_periodic history) event
