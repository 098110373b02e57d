-- The numbers by which C hears what became of a call: 0 and above for what became of an event, below 0 for a call that did
-- nothing. No two differ in meaning and not in number.
use Rattle.std.specs.Prelude.{ℕ, ◌+◌, ℤ, pos, neg_ℤ, Result, Ok, Err}
use Rattle.ipx_wire.specs.declared.packet.PacketFault.{PacketFault}
use Rattle.ipx_wire.specs.declared.packet.PacketFault.TheVariants.{Short as PacketShort, LengthSmall, LengthBeyond}
use Rattle.ipx_wire.specs.declared.rip.RipFault.{RipFault}
use Rattle.ipx_wire.specs.declared.rip.RipFault.TheVariants.{Short as RipShort, Operation as RipOperation, NoEntry as NoRoutes, TooMany as TooManyRoutes}
use Rattle.ipx_wire.specs.declared.sap.SapFault.{SapFault}
use Rattle.ipx_wire.specs.declared.sap.SapFault.TheVariants.{Short as SapShort, Operation as SapOperation, NoEntry as NoServices, TooMany as TooManyServices}
use Rattle.ipx_router.specs.declared.outcome.Outcome.{Outcome}
use Rattle.ipx_router.specs.declared.outcome.Outcome.TheVariants.{Started, AlreadyRunning, Stopped, Ticked, Learned, Answered, Forwarded, Propagated, WentDown, CameUp, AlreadyDown, AlreadyUp, Local, Dropped}
use Rattle.ipx_router.specs.declared.port.PortFault.TheVariants.{Longest, Cost, Network, Node}
use Rattle.ipx_router.specs.declared.ports_fault.PortsFault.TheVariants.{NoPort as NoPorts, TooMany as ManyPorts, SameNetwork}
use Rattle.ipx_router.specs.declared.why.Why.{Why}
use Rattle.ipx_router.specs.declared.why.Why.TheVariants.{NotRunning, Malformed, OwnEcho, BadSource, CrossedShort, CrossedFull, CrossedSeen, Elsewhere, OtherSocket, NotNeighbour, BadRip, BadSap, NearestReply, TooManyRouters, FarSide, NoRoute, TooLong, DownPort}
use Rattle.ipx_c.specs.declared.fault.Fault.{Fault}
use Rattle.ipx_c.specs.declared.fault.Fault.TheVariants.{NoRouter, NoPort, NoPacket, NoRecord, ShortBuffer, OutOfMemory, NoTunnel, ManyClients, NoSegment, NoLink, BadLink, ManyLinks, ManyStations, Port, Ports, Operation, NoEntries, ManyEntries, Name, LongPacket, Way, ManyRules, Rule}

-- ---- why an event was dropped

-- what was wrong with the bytes of a packet, of routing information and of service advertising
abbrev pub packet_number : PacketFault → ℕ
packet_number PacketShort = 1
packet_number LengthSmall = 2
packet_number LengthBeyond = 3

abbrev pub rip_number : RipFault → ℕ
rip_number RipShort = 1
rip_number (RipOperation operation) = 2
rip_number NoRoutes = 3
rip_number TooManyRoutes = 4

abbrev pub sap_number : SapFault → ℕ
sap_number SapShort = 1
sap_number (SapOperation operation) = 2
sap_number NoServices = 3
sap_number TooManyServices = 4

-- a hundred times the number that the reason keeps, and what was wrong with the bytes
abbrev pub why_number : Why → ℕ
why_number NotRunning = 100
why_number (Malformed fault) = 200 + packet_number fault
why_number OwnEcho = 300
why_number BadSource = 400
why_number CrossedShort = 500
why_number CrossedFull = 600
why_number CrossedSeen = 700
why_number Elsewhere = 800
why_number OtherSocket = 900
why_number NotNeighbour = 1000
why_number (BadRip fault) = 1100 + rip_number fault
why_number (BadSap fault) = 1200 + sap_number fault
why_number NearestReply = 1300
why_number TooManyRouters = 1400
why_number FarSide = 1500
why_number NoRoute = 1600
why_number TooLong = 1700
why_number DownPort = 1800

-- ---- what became of an event

abbrev pub outcome_number : Outcome → ℕ
outcome_number Started = 0
outcome_number AlreadyRunning = 1
outcome_number Stopped = 2
outcome_number Ticked = 3
outcome_number Learned = 4
outcome_number Answered = 5
outcome_number Forwarded = 6
outcome_number Propagated = 7
outcome_number WentDown = 8
outcome_number CameUp = 9
outcome_number AlreadyDown = 10
outcome_number AlreadyUp = 11
outcome_number Local = 12
outcome_number (Dropped why) = why_number why

-- ---- faults

-- how far below 0 the number of a fault is
abbrev pub fault_number : Fault → ℕ
fault_number NoRouter = 1
fault_number NoPort = 2
fault_number NoPacket = 3
fault_number NoRecord = 4
fault_number ShortBuffer = 5
fault_number OutOfMemory = 6
fault_number NoTunnel = 7
fault_number NoSegment = 8
fault_number NoLink = 9
fault_number BadLink = 10
fault_number ManyClients = 18
fault_number ManyLinks = 19
fault_number ManyStations = 20
fault_number (Port Longest) = 11
fault_number (Port Cost) = 12
fault_number (Port Network) = 13
fault_number (Port Node) = 14
fault_number (Ports NoPorts) = 15
fault_number (Ports ManyPorts) = 16
fault_number (Ports SameNetwork) = 17
fault_number Operation = 21
fault_number NoEntries = 22
fault_number ManyEntries = 23
fault_number Name = 24
fault_number LongPacket = 25
fault_number Way = 26
fault_number ManyRules = 27
fault_number Rule = 28

-- ---- the numbers as C hears them

abbrev pub outcome_code : Outcome → ℤ
outcome_code outcome = pos (outcome_number outcome)

abbrev pub fault_code : Fault → ℤ
fault_code fault = neg_ℤ (pos (fault_number fault))

-- of a call that answers no outcome
abbrev pub done : ℤ
done = pos 0

abbrev pub code_of : Result Outcome Fault → ℤ
code_of (Ok outcome) = outcome_code outcome
code_of (Err fault) = fault_code fault

-- of a call that answers how many bytes it wrote
abbrev pub count_code : Result ℕ Fault → ℤ
count_code (Ok count) = pos count
count_code (Err fault) = fault_code fault
