-- What becomes of an event.
use Rattle.std.specs.Prelude.{ℕ, Bool, true, false, if◌then◌else◌, List, None, Some, Ok, Err}
use Rattle.ipx_wire.specs.Packet.{packet_of}
use Rattle.ipx_wire.specs.declared.rip.Operation.TheVariants.{Request, Response as RipResponse}
use Rattle.ipx_wire.specs.declared.sap.Sap.TheVariants.{Query, Response as SapResponse}
use Rattle.ipx_router.specs.Heard.{Heard, HeardRip, HeardSap, heard}
use Rattle.ipx_router.specs.Facts.{routes_held, offers}
use Rattle.ipx_router.specs.History.{Event, History, Start, Stop, Second, Packet, PortDown, PortUp, running, ports_up}
use Rattle.ipx_router.specs.Port.{Port, is_up}
use Rattle.ipx_router.specs.Why.{is_propagated, why}
use Rattle.ipx_router.specs.declared.outcome.Outcome.{Outcome}
use Rattle.ipx_router.specs.declared.outcome.Outcome.TheVariants.{Started, AlreadyRunning, Stopped, Ticked, Learned, Answered, Forwarded, Propagated, WentDown, CameUp, AlreadyDown, AlreadyUp, Dropped}
use Rattle.ipx_router.specs.declared.route_offer.RouteOffer.{RouteOffer}
use Rattle.ipx_router.specs.declared.why.Why.TheVariants.{NotRunning}

-- a response is learned from; a request or a query is answered, also where nothing is sent
abbrev pub heard_outcome : Heard → Outcome
heard_outcome (HeardRip source rip) = elim rip.operation [ RipResponse ↦ Learned | Request ↦ Answered ]
heard_outcome (HeardSap source (Query nearest kind)) = Answered
heard_outcome (HeardSap source (SapResponse nearest entries)) = Learned

-- a packet that isn't for the router is forwarded or propagated, also where no port is left for it
abbrev pub relayed_outcome : List ℕ → Outcome
relayed_outcome bytes = elim (packet_of bytes) [ Ok p ↦ if is_propagated p.header then Propagated else Forwarded | Err fault ↦ Forwarded ]

-- what becomes of an event, over the ports that are up and the routes that are held
abbrev pub outcome_of : List Port → List ℕ → List RouteOffer → Bool → Event → Outcome
outcome_of ports up routes runs Start = if runs then AlreadyRunning else Started
outcome_of ports up routes runs Stop = if runs then Stopped else Dropped NotRunning
outcome_of ports up routes runs Second = if runs then Ticked else Dropped NotRunning
outcome_of ports up routes runs (Packet number bytes) =
    elim (why ports up routes runs number bytes) [
      | Some reason ↦ Dropped reason
      | None ↦ elim (heard ports up runs number bytes) [ Some message ↦ heard_outcome message | None ↦ relayed_outcome bytes ]
    ]
outcome_of ports up routes runs (PortDown number) = if runs then if is_up up number then WentDown else AlreadyDown else Dropped NotRunning
outcome_of ports up routes runs (PortUp number) = if runs then if is_up up number then AlreadyUp else CameUp else Dropped NotRunning

-- what becomes of an event after a history
abbrev pub outcome : List Port → ℕ → History → Event → Outcome
outcome ports most_routes history event =
    outcome_of ports (ports_up ports history) (offers (routes_held ports most_routes history)) (running history) event

-- nothing is done: the event is dropped, or the router runs already, or the port is already as it would become
abbrev pub changes_nothing : Outcome → Bool
changes_nothing (Dropped reason) = true
changes_nothing AlreadyRunning = true
changes_nothing AlreadyDown = true
changes_nothing AlreadyUp = true
changes_nothing outcome = false
