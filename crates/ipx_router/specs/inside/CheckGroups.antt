-- The checks of a packet, kind by kind: what is left to ask once it is known that a packet is propagated, near or far; and what is known
-- of one that passed.
use Rattle.std.specs.Prelude.{◌≡◌, ℕ, ◌<◌, ◌≤◌, Bool, true, false, not, ◌==◌, ◌||◌, nat_lt, nat_le, if◌then◌else◌, List, [], ◌∷◌, length, Option, None, Some, is_none, Result, Ok, Err}
use Rattle.ipx_wire.specs.Crossed.{networks_at, is_among}
use Rattle.ipx_wire.specs.Numbers.{crossed_places, crossed_bytes}
use Rattle.ipx_wire.specs.Packet.{Parts}
use Rattle.ipx_wire.specs.Rip.{RipParts, rip_of}
use Rattle.ipx_wire.specs.Sap.{sap_of}
use Rattle.ipx_wire.specs.declared.header.Header.{Header}
use Rattle.ipx_wire.specs.declared.network.Network.{Network}
use Rattle.ipx_wire.specs.declared.rip.RipFault.{RipFault}
use Rattle.ipx_wire.specs.declared.sap.Sap.{Sap}
use Rattle.ipx_wire.specs.declared.sap.SapFault.{SapFault}
use Rattle.ipx_router.specs.Numbers.{propagated_type, most_routers}
use Rattle.ipx_router.specs.Outgoing.{Way, way_to, is_own_port}
use Rattle.ipx_router.specs.Port.{Port, broadcast, port_at, same_node, is_local}
use Rattle.ipx_router.specs.Why.{is_propagated, is_near, is_far, is_for_rip, is_for_sap, is_own_echo, is_bad_source, is_nearest_response, when}
use Rattle.ipx_router.specs.declared.judging.checks.Onward.{Onward}
use Rattle.ipx_router.specs.declared.judging.checks.Onward.TheVariants.{Propagate, Forward}
use Rattle.ipx_router.specs.declared.route_offer.RouteOffer.{RouteOffer}
use Rattle.ipx_router.specs.declared.why.Why.{Why}
use Rattle.ipx_router.specs.declared.why.Why.TheVariants.{OwnEcho, BadSource, CrossedShort, CrossedFull, CrossedSeen, OtherSocket, NotNeighbour, BadRip, BadSap, NearestReply, TooManyRouters, FarSide, NoRoute, TooLong}

-- of every packet first
abbrev pub source_checks : Port → Header → List (Option Why)
source_checks port h = when (is_own_echo port h) OwnEcho ∷ when (is_bad_source h) BadSource ∷ []

-- of a propagated packet
abbrev pub propagated_checks : Port → Parts → List (Option Why)
propagated_checks port p =
    when (nat_lt (length p.payload) crossed_bytes) CrossedShort
    ∷ when (nat_le crossed_places p.header.control) CrossedFull
    ∷ when (is_among port.network (networks_at p.header.control p.payload)) CrossedSeen
    ∷ []

-- a near packet is for another node
abbrev pub is_for_other : Port → Header → Bool
is_for_other port h = not (same_node h.destination.node port.node || same_node h.destination.node broadcast)

-- of a near packet, before its data are read
abbrev pub process_checks : Port → Header → List (Option Why)
process_checks port h =
    when ((h.kind == propagated_type) || not (is_for_rip h || is_for_sap h)) OtherSocket
    ∷ when (not (is_local port h.source.network)) NotNeighbour
    ∷ []

-- of its data
abbrev pub rip_why : Result RipParts RipFault → Option Why
rip_why r = elim r [ Ok rip ↦ None | Err fault ↦ Some (BadRip fault) ]

abbrev pub sap_why : Result Sap SapFault → Option Why
sap_why r = elim r [ Ok sap ↦ when (is_nearest_response sap) NearestReply | Err fault ↦ Some (BadSap fault) ]

abbrev pub data_why : Parts → Option Why
data_why p = if is_for_rip p.header then rip_why (rip_of p.payload) else sap_why (sap_of p.payload)

-- of a far packet
abbrev pub far_checks : List Port → List ℕ → List RouteOffer → Header → List (Option Why)
far_checks ports up routes h =
    when (nat_le most_routers h.control) TooManyRouters
    ∷ when (is_own_port ports h.destination) FarSide
    ∷ when (is_none (way_to ports up routes h.destination)) NoRoute
    ∷ when (elim (way_to ports up routes h.destination) [ Some way ↦ nat_lt (port_at ports way.port).longest h.length | None ↦ false ]) TooLong
    ∷ []

-- the networks that a propagated packet has crossed, with a place for one more
pub record IsListed (p : Parts) (networks : List Network) : Type 0 where
  pub listed : networks ≡ networks_at p.header.control p.payload
  pub free : p.header.control < crossed_places
  pub eight : crossed_bytes ≤ length p.payload

-- the way of a far packet
pub record IsWay (ports : List Port) (up : List ℕ) (routes : List RouteOffer) (h : Header) (w : Way) : Type 0 where
  pub way : way_to ports up routes h.destination ≡ Some w
  pub few : h.control < most_routers

-- how a packet that passed goes on; without that it stays on its network
abbrev pub GoesAs : List Port → List ℕ → List RouteOffer → Port → Parts → Option Onward → Type 0
GoesAs ports up routes port p (Some (Propagate networks)) = (is_propagated p.header ≡ true) × IsListed p networks
GoesAs ports up routes port p (Some (Forward out link)) = (is_far port p.header ≡ true) × IsWay ports up routes p.header (record { port = out; link = link })
GoesAs ports up routes port p None = is_near port p.header ≡ true
