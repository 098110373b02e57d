-- The weight of an internet: by what waits and by what its tables hold, no less than the deliveries that may still happen.
use Rattle.std.specs.Prelude.{ℕ, zero, suc, ◌+◌, ◌-◌, ◌*◌, ◌/◌, ◌==◌, ◌&&◌, ◌||◌, max, min, not, Bool, if◌then◌else◌, List, length, None, Some, Ok, Err}
use Rattle.std.specs.List.{sum_by}
use Rattle.ipx_wire.specs.Numbers.{crossed_places}
use Rattle.ipx_wire.specs.Packet.{Parts, packet_of}
use Rattle.ipx_wire.specs.declared.header.Header.{Header}
use Rattle.ipx_wire.specs.declared.rip.Operation.TheVariants.{Request, Response as RipResponse}
use Rattle.ipx_wire.specs.declared.rip.RipEntry.{RipEntry}
use Rattle.ipx_wire.specs.declared.sap.Sap.TheVariants.{Query, Response as SapResponse}
use Rattle.ipx_wire.specs.declared.sap_entries.SapEntry.{SapEntry}
use Rattle.ipx_router.specs.Facts.{routes_held, services_held}
use Rattle.ipx_router.specs.Heard.{Heard, HeardRip, HeardSap, heard_in}
use Rattle.ipx_router.specs.History.{History}
use Rattle.ipx_router.specs.Numbers.{unreachable, most_routers, propagated_type, rip_socket, sap_socket, entries_a_page, services_a_page, service_size, entry_size}
use Rattle.ipx_router.specs.Pages.{sheets}
use Rattle.ipx_router.specs.Port.{Port, is_local, numbers}
use Rattle.ipx_router.specs.Stands.{State}
use Rattle.ipx_router.specs.Why.{is_propagated, is_for_rip, is_for_sap}
use Rattle.ipx_internet.specs.Internet.{Internet, port_of, ports_of}
use Rattle.ipx_internet.specs.Moment.{Moment, net_at}
use Rattle.ipx_internet.specs.Most.{most, most_ports, most_on_network}
use Rattle.ipx_internet.specs.Queue.{Delivery, Queued, history_of}

-- ---- records and entries

-- the most ports that hear what a router says of a record: on all its ports but the record's, the others of each network; a record
-- weighs one for each, as that many hear of its end
abbrev pub most_hearers : Internet → ℕ
most_hearers net = (most_ports net - 1) * (most_on_network net - 1)

-- an entry that may still be taken by that many routers, one behind the other: the record that the first makes of it, a packet for each
-- that hears of that, and there the entry again, a hop farther
abbrev pub weight_in_reach : Internet → ℕ → ℕ
weight_in_reach net zero = 0
weight_in_reach net (suc further) = 2 * most_hearers net + most_hearers net * weight_in_reach net further

-- an entry by its hops: 0 for an unreachable one
abbrev pub entry_weight : Internet → ℕ → ℕ
entry_weight net hops = weight_in_reach net (unreachable - hops)

-- all entries of a response, of routes or of services
abbrev pub routes_weight : Internet → List RipEntry → ℕ
routes_weight net entries = sum_by (λ e. entry_weight net e.hops) entries

abbrev pub services_weight : Internet → List SapEntry → ℕ
services_weight net entries = sum_by (λ e. entry_weight net e.hops) entries

-- ---- requests and queries, by the room of the tables that answer them and by the asker's socket, which the answer is for

-- the most entries of an answer: all routes, and the networks of the other ports
abbrev pub most_answered : Internet → ℕ → ℕ
most_answered net most_routes = most_routes + (most_ports net - 1)

-- this many entries of routes are as long as one of services
abbrev pub entries_a_service : ℕ
entries_a_service = service_size / entry_size

-- a request: itself, the packets of the answer, and its entries, as the process of that socket reads them
abbrev pub request_weight : Internet → ℕ → ℕ → ℕ
request_weight net most_routes socket =
    let entries = most_answered net most_routes in
    1 + sheets entries_a_page entries
    + (if socket == rip_socket then entries * entry_weight net 1
    else if socket == sap_socket then (entries / entries_a_service) * entry_weight net 1
    else 0)

-- a query for all services of a type, likewise; the process of routes reads no full page of services, which is longer than a packet of
-- entries may be. One for the nearest: itself, and an answer that no router takes
abbrev pub query_weight : Internet → ℕ → Bool → ℕ → ℕ
query_weight net most_services nearest socket =
    if nearest then 2
    else 1 + sheets services_a_page most_services
    + (if socket == rip_socket then (min (services_a_page - 1) most_services * entries_a_service) * entry_weight net 0
    else if socket == sap_socket then most_services * entry_weight net 1
    else 0)

-- ---- deliveries

-- for a process of a router, and not of the type that is propagated
abbrev pub is_for_process : Header → Bool
is_for_process h = not (h.kind == propagated_type) && (is_for_rip h || is_for_sap h)

module _ (net : Internet) (most_routes most_services : ℕ) where
  -- what a process hears; of a response to a query for the nearest it takes nothing
  abbrev pub message_weight : Heard → ℕ
  message_weight (HeardRip source rip) =
      elim rip.operation [ RipResponse ↦ 1 + routes_weight net rip.entries | Request ↦ request_weight net most_routes source.socket.0 ]
  message_weight (HeardSap source (Query nearest kind)) = query_weight net most_services nearest source.socket.0
  message_weight (HeardSap source (SapResponse nearest entries)) = if nearest then 1 else 1 + services_weight net entries

  -- what a packet says to the processes of a router that it is for
  abbrev pub said_weight : Parts → ℕ
  said_weight p =
      if is_for_process p.header then elim (heard_in p) [ Some message ↦ message_weight message | None ↦ 1 ]
      else 1

  -- a packet that comes to a port. A propagated one: the receptions of its tree, at most. One for the port's own network: what it says.
  -- One for another network: the routers that may still send it on, and what it says to each port but one of its last network
  abbrev pub packet_weight : Port → Parts → ℕ
  packet_weight port p =
      if is_propagated p.header then most net (crossed_places - p.header.control)
      else if is_local port p.header.destination.network then said_weight p
      else (most_routers - p.header.control) + max 1 (most_on_network net - 1) * said_weight p

  -- a delivery; bytes that are no packet weigh 1
  abbrev pub delivery_weight : Delivery → ℕ
  delivery_weight d = elim (packet_of d.bytes) [ Ok p ↦ packet_weight (port_of net d.to) p | Err fault ↦ 1 ]

  -- ---- all of it

  -- an internet that holds this number of routes and services, and in which those deliveries wait
  abbrev pub weight_of : ℕ → List Delivery → ℕ
  weight_of records queue = most_hearers net * records + sum_by delivery_weight queue

  -- the routes and services that all routers hold after their histories
  abbrev pub records_of : List History → ℕ → ℕ
  records_of histories router =
      length (routes_held (ports_of net router) most_routes (history_of histories router))
      + length (services_held (ports_of net router) most_services (history_of histories router))

  abbrev pub records_after : List History → ℕ
  records_after histories = sum_by (records_of histories) (numbers (length net))

  abbrev pub queued_weight : Queued → ℕ
  queued_weight q = weight_of (records_after q.histories) q.queue

-- those that routers hold now
abbrev pub records_at : List State → ℕ
records_at routers = sum_by (λ s. length s.routes + length s.services) routers

abbrev pub internet_weight : ℕ → ℕ → Moment → ℕ
internet_weight most_routes most_services m = weight_of (net_at m) most_routes most_services (records_at m.routers) m.queue
