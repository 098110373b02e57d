-- Time that passes while anything else happens too, and what may not happen to something that is to be gone.
use Rattle.std.specs.Prelude.{◌≡◌, ◌≢◌, ℕ, ◌<◌, ◌||◌, not, if◌then◌else◌, List, [], ◌∷◌, Option, None, Some, IfSome, Ok, Err}
use Rattle.std.specs.List.{AllByRecursion}
use Rattle.ipx_wire.specs.Packet.{Parts, packet_of}
use Rattle.ipx_wire.specs.declared.address.Address.{Address}
use Rattle.ipx_wire.specs.declared.network.Network.{Network}
use Rattle.ipx_wire.specs.declared.rip.Operation.{Operation}
use Rattle.ipx_wire.specs.declared.rip.Operation.TheVariants.{Request, Response}
use Rattle.ipx_wire.specs.declared.rip.RipEntry.{RipEntry}
use Rattle.ipx_wire.specs.declared.sap.Sap.TheVariants.{Query, Response as SapResponse}
use Rattle.ipx_router.specs.Heard.{Heard, HeardRip, HeardSap, heard_in}
use Rattle.ipx_router.specs.History.{Event, Packet, Second}
use Rattle.ipx_router.specs.Numbers.{rip_socket, sap_socket, unreachable}
use Rattle.ipx_router.specs.Why.{is_propagated, is_for_rip, is_for_sap}
use Rattle.ipx_internet.specs.BusyTick.{IsBusyTick}
use Rattle.ipx_internet.specs.Internet.{Internet}
use Rattle.ipx_internet.specs.Run.{Step, Happens, Settles, Run, stepped, run_of}
use Rattle.ipx_internet.specs.Ticks.{AreTicks}
use Rattle.ipx_laws.specs.Gone.{IsGone}
use Rattle.ipx_laws.specs.Setting.{ComesToRest}

-- ---- what may be heard of a packet, near or far

-- what it says to the process of RIP or of SAP; nothing, if it is for another socket, or propagated
abbrev pub message_in : Parts → Option Heard
message_in p = if is_propagated p.header || not (is_for_rip p.header || is_for_sap p.header) then None else heard_in p

abbrev pub message_of : List ℕ → Option Heard
message_of bytes = elim (packet_of bytes) [ Ok p ↦ message_in p | Err fault ↦ None ]

-- ---- packets that don't bring back what is gone

-- no entry of a response says that the network is reached
abbrev pub AreWithout : Network → Operation → List RipEntry → Type 0
AreWithout network Response entries = AllByRecursion (λ e. e.hops < unreachable → e.network ≢ network) entries
AreWithout network Request entries = Unit

-- nor is a query answered to the socket of RIP, where its answer would be heard as routes
abbrev pub IsWithoutRoute : Network → Heard → Type 0
IsWithoutRoute network (HeardRip source rip) = AreWithout network rip.operation rip.entries
IsWithoutRoute network (HeardSap source (Query nearest kind)) = source.socket.0 ≢ rip_socket
IsWithoutRoute network (HeardSap source (SapResponse nearest entries)) = Unit

-- a request isn't answered to the socket of SAP, where its answer would be heard as services
abbrev pub AsksElsewhere : Address → Operation → Type 0
AsksElsewhere source Request = source.socket.0 ≢ sap_socket
AsksElsewhere source Response = Unit

-- and no entry of a response says that a service of that type and name is reached
abbrev pub IsWithoutService : ℕ × List ℕ → Heard → Type 0
IsWithoutService key (HeardRip source rip) = AsksElsewhere source rip.operation
IsWithoutService key (HeardSap source (Query nearest kind)) = Unit
IsWithoutService key (HeardSap source (SapResponse nearest entries)) =
    AllByRecursion (λ e. e.hops < unreachable → (name : List ℕ) → e.name ≡ Some name → (e.kind, name) ≢ key) entries

-- ---- packets of hosts that leave all tables as they are

-- it is no response of routing information, nor a query that is answered to the socket of RIP, where its answer would be heard as one
abbrev pub TellsNoRoute : Heard → Type 0
TellsNoRoute (HeardRip source rip) = rip.operation ≡ Request
TellsNoRoute (HeardSap source (Query nearest kind)) = source.socket.0 ≢ rip_socket
TellsNoRoute (HeardSap source (SapResponse nearest entries)) = Unit

-- ports stay as they are, and routers run on: packets come, time passes, deliveries happen
abbrev pub LeavesPorts : Step → Type 0
LeavesPorts (Happens router (Packet number bytes)) = Unit
LeavesPorts (Happens router Second) = Unit
LeavesPorts (Happens router event) = ⊥
LeavesPorts Settles = Unit

-- ---- what is said from outside

-- what may be heard of a packet from outside is such; any other event says nothing
abbrev pub IsWith : (Heard → Type 0) → Event → Type 0
IsWith Says (Packet number bytes) = IfSome (message_of bytes) Says
IsWith Says event = Unit

abbrev pub SaysOnly : (Heard → Type 0) → Step → Type 0
SaysOnly Says (Happens router event) = IsWith Says event
SaysOnly Says Settles = Unit

-- ---- ticks

-- each step of each tick is such
abbrev pub EachStep : (Step → Type 0) → List (List Step) → Type 0
EachStep Is ticks = AllByRecursion (AllByRecursion Is) ticks

module _ (net : Internet) (most_routes most_services : ℕ) where
  -- before the first step and after each, no router has a port up on that network
  abbrev pub StaysGone : Network → Run → List Step → Type 0
  StaysGone network run [] = IsGone net run.histories network
  StaysGone network run (step ∷ steps) = IsGone net run.histories network × StaysGone network (stepped net most_routes most_services run step) steps

  -- one tick after the other, each is such, from where it begins
  abbrev pub EachTick : (Run → List Step → Type 0) → Run → List (List Step) → Type 0
  EachTick Is run [] = Unit
  EachTick Is run (steps ∷ ticks) = Is run steps × EachTick Is (run_of net most_routes most_services run steps) ticks

  -- in each of them anything may happen
  abbrev pub AreBusyTicks : Run → List (List Step) → Type 0
  AreBusyTicks run ticks = EachTick (IsBusyTick net most_routes most_services) run ticks

  -- in each of them hosts may speak, but ports stay as they are and routers run on
  abbrev pub AreTicksOfHosts : Run → List (List Step) → Type 0
  AreTicksOfHosts run ticks = AreBusyTicks run ticks × EachStep LeavesPorts ticks

  -- and nothing that may be heard of them says a route
  abbrev pub AreCalmTicks : Run → List (List Step) → Type 0
  AreCalmTicks run ticks = AreTicksOfHosts run ticks × EachStep (SaysOnly TellsNoRoute) ticks

  -- ---- such ticks after steps that leave nothing that waits; before those of hosts and calm ones, ports stay as they are in these, too

  abbrev pub AreTicksAfter : Run → List Step → List (List Step) → Type 0
  AreTicksAfter run first ticks =
      ComesToRest net most_routes most_services run first × AreTicks net most_routes most_services (run_of net most_routes most_services run first) ticks

  abbrev pub AreBusyTicksAfter : Run → List Step → List (List Step) → Type 0
  AreBusyTicksAfter run first ticks =
      ComesToRest net most_routes most_services run first × AreBusyTicks (run_of net most_routes most_services run first) ticks

  abbrev pub AreTicksOfHostsAfter : Run → List Step → List (List Step) → Type 0
  AreTicksOfHostsAfter run first ticks =
      ComesToRest net most_routes most_services run first
      × AllByRecursion LeavesPorts first × AreTicksOfHosts (run_of net most_routes most_services run first) ticks

  abbrev pub AreCalmTicksAfter : Run → List Step → List (List Step) → Type 0
  AreCalmTicksAfter run first ticks =
      ComesToRest net most_routes most_services run first
      × AllByRecursion LeavesPorts first × AreCalmTicks (run_of net most_routes most_services run first) ticks
