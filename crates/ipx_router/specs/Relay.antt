-- What a router does with a packet that it is only asked to send on (IPX Router Specification, packet forwarding and NetBIOS
-- propagation). Its own processes hear nothing of it.
use Rattle.std.specs.Prelude.{ℕ, ◌-◌, max, Bool, if◌then◌else◌, List, [], ◌∷◌, ◌++◌, length, Option, None, Some}
use Rattle.ipx_wire.specs.Packet.{Parts}
use Rattle.ipx_wire.specs.declared.header.Header.{Header}
use Rattle.ipx_router.specs.Checks.{relay_checks}
use Rattle.ipx_router.specs.Port.{Port, port_at}
use Rattle.ipx_router.specs.Relays.{Sent, relayed}
use Rattle.ipx_router.specs.Why.{is_propagated, is_far, is_stopped, is_down_port, when, first_of}
use Rattle.ipx_router.specs.declared.outcome.Outcome.{Outcome}
use Rattle.ipx_router.specs.declared.outcome.Outcome.TheVariants.{Forwarded, Propagated, Local, Dropped}
use Rattle.ipx_router.specs.declared.route_offer.RouteOffer.{RouteOffer}
use Rattle.ipx_router.specs.declared.why.Why.{Why}
use Rattle.ipx_router.specs.declared.why.Why.TheVariants.{NotRunning, DownPort}

-- why a packet that comes on a port isn't sent on: the checks of any packet, in their order, but for the one of its bytes and
-- those that only the router's own processes ask of a near one
abbrev pub relay_why : List Port → List ℕ → List RouteOffer → Bool → ℕ → Parts → Option Why
relay_why ports up routes running number p =
    first_of
    (when (is_stopped running) NotRunning
    ∷ (relay_checks ports up routes (port_at ports number) p ++ when (is_down_port up number) DownPort ∷ []))

-- what becomes of a packet that passed: one for the port's own network stays there
abbrev pub passed_outcome : Port → Header → Outcome
passed_outcome port h = if is_propagated h then Propagated else if is_far port h then Forwarded else Local

-- what becomes of a packet
abbrev pub relay_outcome : List Port → List ℕ → List RouteOffer → Bool → ℕ → Parts → Outcome
relay_outcome ports up routes running number p =
    elim (relay_why ports up routes running number p) [
      | Some reason ↦ Dropped reason
      | None ↦ passed_outcome (port_at ports number) p.header
    ]

-- what is sent
abbrev pub relay_sends : List Port → List ℕ → List RouteOffer → Bool → ℕ → Parts → List Sent
relay_sends ports up routes running number p =
    elim (relay_why ports up routes running number p) [
      | Some reason ↦ []
      | None ↦ relayed ports up routes number p
    ]

-- the most packets that leave: one on each port but that on which it came, and one at least
abbrev pub relay_places : List Port → ℕ
relay_places ports = max 1 (length ports - 1)
