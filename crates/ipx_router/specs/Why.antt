-- Why a packet is dropped (IPX Router Specification, packet checks): the first check that holds of it, in the order of
-- the checks.
use Rattle.std.specs.Prelude.{ℕ, Bool, true, false, not, ◌==◌, ◌&&◌, ◌||◌, nat_lt, nat_le, if◌then◌else◌, List, [], ◌∷◌, ◌++◌, length, Option, None, Some, is_none, Ok, Err}
use Rattle.ipx_wire.specs.Crossed.{networks_at, is_among}
use Rattle.ipx_wire.specs.Numbers.{crossed_places, crossed_bytes}
use Rattle.ipx_wire.specs.Packet.{Parts, packet_of}
use Rattle.ipx_wire.specs.Rip.{rip_of}
use Rattle.ipx_wire.specs.Sap.{sap_of}
use Rattle.ipx_wire.specs.declared.header.Header.{Header}
use Rattle.ipx_wire.specs.declared.sap.Sap.{Sap}
use Rattle.ipx_wire.specs.declared.sap.Sap.TheVariants.{Query, Response}
use Rattle.ipx_router.specs.Numbers.{propagated_type, rip_socket, sap_socket, most_routers}
use Rattle.ipx_router.specs.Outgoing.{way_to, is_own_port}
use Rattle.ipx_router.specs.Port.{Port, broadcast, port_at, is_up, same_node, is_local}
use Rattle.ipx_router.specs.declared.route_offer.RouteOffer.{RouteOffer}
use Rattle.ipx_router.specs.declared.why.Why.{Why}
use Rattle.ipx_router.specs.declared.why.Why.TheVariants.{NotRunning, Malformed, OwnEcho, BadSource, CrossedShort, CrossedFull, CrossedSeen, Elsewhere, OtherSocket, NotNeighbour, BadRip, BadSap, NearestReply, TooManyRouters, FarSide, NoRoute, TooLong, DownPort}

-- ---- three kinds of packets

-- of the propagated type and to the broadcast node, whatever the destination network (own)
abbrev pub is_propagated : Header → Bool
is_propagated h = (h.kind == propagated_type) && same_node h.destination.node broadcast

-- not propagated, and for the port's own network
abbrev pub is_near : Port → Header → Bool
is_near port h = not (is_propagated h) && is_local port h.destination.network

-- not propagated, and for another network
abbrev pub is_far : Port → Header → Bool
is_far port h = not (is_propagated h) && not (is_local port h.destination.network)

-- for the RIP process, and for the SAP process
abbrev pub is_for_rip : Header → Bool
is_for_rip h = h.destination.socket.0 == rip_socket

abbrev pub is_for_sap : Header → Bool
is_for_sap h = h.destination.socket.0 == sap_socket

-- ---- the checks, in their order

-- the source is the port itself
abbrev pub is_own_echo : Port → Header → Bool
is_own_echo port h = same_node h.source.node port.node && is_local port h.source.network

-- the source is a broadcast
abbrev pub is_bad_source : Header → Bool
is_bad_source h = same_node h.source.node broadcast

-- propagated, and the data have no room for eight networks
abbrev pub is_crossed_short : Parts → Bool
is_crossed_short p = is_propagated p.header && nat_lt (length p.payload) crossed_bytes

-- propagated, and it has crossed eight networks or more
abbrev pub is_crossed_full : Parts → Bool
is_crossed_full p = is_propagated p.header && nat_le crossed_places p.header.control

-- propagated, and the port's network is among those crossed
abbrev pub is_crossed_seen : Port → Parts → Bool
is_crossed_seen port p = is_propagated p.header && is_among port.network (networks_at p.header.control p.payload)

-- near, and for a node that is neither the port's nor the broadcast
abbrev pub is_elsewhere : Port → Header → Bool
is_elsewhere port h = is_near port h && not (same_node h.destination.node port.node || same_node h.destination.node broadcast)

-- near, and of the propagated type or for a socket other than those of RIP and SAP
abbrev pub is_other_socket : Port → Header → Bool
is_other_socket port h = is_near port h && ((h.kind == propagated_type) || not (is_for_rip h || is_for_sap h))

-- near, and from another network
abbrev pub is_not_neighbour : Port → Header → Bool
is_not_neighbour port h = is_near port h && not (is_local port h.source.network)

-- near, for the RIP process, and no routing information
abbrev pub bad_rip : Port → Parts → Option Why
bad_rip port p =
    if is_near port p.header && is_for_rip p.header then elim (rip_of p.payload) [ Ok r ↦ None | Err fault ↦ Some (BadRip fault) ]
    else None

-- near, for the SAP process, and no service advertising
abbrev pub bad_sap : Port → Parts → Option Why
bad_sap port p =
    if is_near port p.header && is_for_sap p.header then elim (sap_of p.payload) [ Ok s ↦ None | Err fault ↦ Some (BadSap fault) ]
    else None

-- a response to a query for the nearest service
abbrev pub is_nearest_response : Sap → Bool
is_nearest_response (Query nearest kind) = false
is_nearest_response (Response nearest entries) = nearest

-- near, for the SAP process, and such a response
abbrev pub is_nearest_reply : Port → Parts → Bool
is_nearest_reply port p =
    is_near port p.header && is_for_sap p.header && elim (sap_of p.payload) [ Ok s ↦ is_nearest_response s | Err fault ↦ false ]

-- far, and it came through sixteen routers or more (own: what comes with 15 leaves with 16)
abbrev pub is_through_too_many : Port → Header → Bool
is_through_too_many port h = is_far port h && nat_le most_routers h.control

-- far, and for one of the router's own ports, up or not
abbrev pub is_far_side : List Port → Port → Header → Bool
is_far_side ports port h = is_far port h && is_own_port ports h.destination

-- far, and there is no way to its network
abbrev pub is_no_route : List Port → List ℕ → List RouteOffer → Port → Header → Bool
is_no_route ports up routes port h = is_far port h && is_none (way_to ports up routes h.destination)

-- far, and longer than the outgoing port allows
abbrev pub is_too_long : List Port → List ℕ → List RouteOffer → Port → Header → Bool
is_too_long ports up routes port h =
    is_far port h && elim (way_to ports up routes h.destination) [ Some way ↦ nat_lt (port_at ports way.port).longest h.length | None ↦ false ]

-- the port on which it came is down
abbrev pub is_down_port : List ℕ → ℕ → Bool
is_down_port up number = not (is_up up number)

-- ---- judging

-- a reason, where its condition holds
abbrev pub when : Bool → Why → Option Why
when true why = Some why
when false why = None

-- the first reason of a list of checks, if there is one
abbrev pub first_of : List (Option Why) → Option Why
first_of [] = None
first_of (Some why ∷ checks) = Some why
first_of (None ∷ checks) = first_of checks

-- the checks of every packet, in their order
abbrev pub first_checks : Port → Parts → List (Option Why)
first_checks port p =
    when (is_own_echo port p.header) OwnEcho
    ∷ when (is_bad_source p.header) BadSource
    ∷ when (is_crossed_short p) CrossedShort
    ∷ when (is_crossed_full p) CrossedFull
    ∷ when (is_crossed_seen port p) CrossedSeen
    ∷ when (is_elsewhere port p.header) Elsewhere
    ∷ []

-- those that only the router's own processes ask
abbrev pub own_checks : Port → Parts → List (Option Why)
own_checks port p =
    when (is_other_socket port p.header) OtherSocket
    ∷ when (is_not_neighbour port p.header) NotNeighbour
    ∷ bad_rip port p
    ∷ bad_sap port p
    ∷ when (is_nearest_reply port p) NearestReply
    ∷ []

-- those of the way to another network, over the ports that are up and the routes that are held
abbrev pub way_checks : List Port → List ℕ → List RouteOffer → Port → Parts → List (Option Why)
way_checks ports up routes port p =
    when (is_through_too_many port p.header) TooManyRouters
    ∷ when (is_far_side ports port p.header) FarSide
    ∷ when (is_no_route ports up routes port p.header) NoRoute
    ∷ when (is_too_long ports up routes port p.header) TooLong
    ∷ []

-- all of them, of a packet that comes on a port
abbrev pub checks : List Port → List ℕ → List RouteOffer → Port → Parts → List (Option Why)
checks ports up routes port p = first_checks port p ++ own_checks port p ++ way_checks ports up routes port p

-- the router is stopped
abbrev pub is_stopped : Bool → Bool
is_stopped running = not running

-- the bytes are no packet
abbrev pub malformed : List ℕ → Option Why
malformed bytes = elim (packet_of bytes) [ Ok p ↦ None | Err fault ↦ Some (Malformed fault) ]

-- the checks of the packet in the bytes, if they are a packet
abbrev pub packet_checks : List Port → List ℕ → List RouteOffer → Port → List ℕ → List (Option Why)
packet_checks ports up routes port bytes = elim (packet_of bytes) [ Ok p ↦ checks ports up routes port p | Err fault ↦ [] ]

-- why bytes that come on a port are dropped, if they are: the first of all checks
abbrev pub why : List Port → List ℕ → List RouteOffer → Bool → ℕ → List ℕ → Option Why
why ports up routes running number bytes =
    first_of
    (when (is_stopped running) NotRunning ∷ malformed bytes
    ∷ (packet_checks ports up routes (port_at ports number) bytes ++ when (is_down_port up number) DownPort ∷ []))
