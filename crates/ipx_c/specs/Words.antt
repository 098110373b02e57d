-- The words of each number that C hears: of what became of an event those by which an outcome shows itself.
use Rattle.std.specs.Prelude.{ℕ, ◌+◌, ◌==◌, ℤ, pos, int_lt, unsigned_abs, nat_lt, if◌then◌else◌, List, [], ◌∷◌, ◌++◌, length, drop, codes}
use Rattle.ipx_wire.specs.declared.packet.PacketFault.TheVariants.{Short as PacketShort, LengthSmall, LengthBeyond}
use Rattle.ipx_wire.specs.declared.rip.RipFault.TheVariants.{Short as RipShort, Operation as RipOperation, NoEntry as NoRoutes, TooMany as TooManyRoutes}
use Rattle.ipx_wire.specs.declared.sap.SapFault.TheVariants.{Short as SapShort, Operation as SapOperation, NoEntry as NoServices, TooMany as TooManyServices}
use Rattle.ipx_router.specs.OutcomeWord.{outcome_word}
use Rattle.ipx_router.specs.declared.outcome.Outcome.TheVariants.{Started, AlreadyRunning, Stopped, Ticked, Learned, Answered, Forwarded, Propagated, WentDown, CameUp, AlreadyDown, AlreadyUp, Local, Dropped}
use Rattle.ipx_router.specs.declared.port.PortFault.TheVariants.{Longest, Cost, Network, Node}
use Rattle.ipx_router.specs.declared.ports_fault.PortsFault.TheVariants.{NoPort as NoPorts, TooMany as ManyPorts, SameNetwork}
use Rattle.ipx_router.specs.declared.why.Why.TheVariants.{NotRunning, Malformed, OwnEcho, BadSource, CrossedShort, CrossedFull, CrossedSeen, Elsewhere, OtherSocket, NotNeighbour, BadRip, BadSap, NearestReply, TooManyRouters, FarSide, NoRoute, TooLong, DownPort}
use Rattle.ipx_c.specs.Codes.{outcome_number, fault_number}
use Rattle.ipx_c.specs.declared.fault.Fault.TheVariants.{NoRouter, NoPort, NoPacket, NoRecord, ShortBuffer, OutOfMemory, NoTunnel, ManyClients, NoSegment, NoLink, BadLink, ManyLinks, ManyStations, Port, Ports, Operation, NoEntries, ManyEntries, Name, LongPacket, Way, ManyRules, Rule}

-- of what became of an event
abbrev pub event_word : ℕ → List ℕ
event_word n =
    if n == outcome_number Started then outcome_word Started else
    if n == outcome_number AlreadyRunning then outcome_word AlreadyRunning else
    if n == outcome_number Stopped then outcome_word Stopped else
    if n == outcome_number Ticked then outcome_word Ticked else
    if n == outcome_number Learned then outcome_word Learned else
    if n == outcome_number Answered then outcome_word Answered else
    if n == outcome_number Forwarded then outcome_word Forwarded else
    if n == outcome_number Propagated then outcome_word Propagated else
    if n == outcome_number WentDown then outcome_word WentDown else
    if n == outcome_number CameUp then outcome_word CameUp else
    if n == outcome_number AlreadyDown then outcome_word AlreadyDown else
    if n == outcome_number AlreadyUp then outcome_word AlreadyUp else
    if n == outcome_number Local then outcome_word Local else []

-- of why it was dropped
abbrev pub drop_word : ℕ → List ℕ
drop_word n =
    if n == outcome_number (Dropped NotRunning) then outcome_word (Dropped NotRunning) else
    if n == outcome_number (Dropped (Malformed PacketShort)) then outcome_word (Dropped (Malformed PacketShort)) else
    if n == outcome_number (Dropped (Malformed LengthSmall)) then outcome_word (Dropped (Malformed LengthSmall)) else
    if n == outcome_number (Dropped (Malformed LengthBeyond)) then outcome_word (Dropped (Malformed LengthBeyond)) else
    if n == outcome_number (Dropped OwnEcho) then outcome_word (Dropped OwnEcho) else
    if n == outcome_number (Dropped BadSource) then outcome_word (Dropped BadSource) else
    if n == outcome_number (Dropped CrossedShort) then outcome_word (Dropped CrossedShort) else
    if n == outcome_number (Dropped CrossedFull) then outcome_word (Dropped CrossedFull) else
    if n == outcome_number (Dropped CrossedSeen) then outcome_word (Dropped CrossedSeen) else
    if n == outcome_number (Dropped Elsewhere) then outcome_word (Dropped Elsewhere) else
    if n == outcome_number (Dropped OtherSocket) then outcome_word (Dropped OtherSocket) else
    if n == outcome_number (Dropped NotNeighbour) then outcome_word (Dropped NotNeighbour) else
    if n == outcome_number (Dropped (BadRip RipShort)) then outcome_word (Dropped (BadRip RipShort)) else
    if n == outcome_number (Dropped (BadRip (RipOperation 0))) then outcome_word (Dropped (BadRip (RipOperation 0))) else
    if n == outcome_number (Dropped (BadRip NoRoutes)) then outcome_word (Dropped (BadRip NoRoutes)) else
    if n == outcome_number (Dropped (BadRip TooManyRoutes)) then outcome_word (Dropped (BadRip TooManyRoutes)) else
    if n == outcome_number (Dropped (BadSap SapShort)) then outcome_word (Dropped (BadSap SapShort)) else
    if n == outcome_number (Dropped (BadSap (SapOperation 0))) then outcome_word (Dropped (BadSap (SapOperation 0))) else
    if n == outcome_number (Dropped (BadSap NoServices)) then outcome_word (Dropped (BadSap NoServices)) else
    if n == outcome_number (Dropped (BadSap TooManyServices)) then outcome_word (Dropped (BadSap TooManyServices)) else
    if n == outcome_number (Dropped NearestReply) then outcome_word (Dropped NearestReply) else
    if n == outcome_number (Dropped TooManyRouters) then outcome_word (Dropped TooManyRouters) else
    if n == outcome_number (Dropped FarSide) then outcome_word (Dropped FarSide) else
    if n == outcome_number (Dropped NoRoute) then outcome_word (Dropped NoRoute) else
    if n == outcome_number (Dropped TooLong) then outcome_word (Dropped TooLong) else
    if n == outcome_number (Dropped DownPort) then outcome_word (Dropped DownPort) else []

-- of a fault, by how far it is below 0
abbrev pub fault_word : ℕ → List ℕ
fault_word n =
    if n == fault_number NoRouter then codes "no router" else
    if n == fault_number NoPort then codes "no such port" else
    if n == fault_number NoPacket then codes "no such packet" else
    if n == fault_number NoRecord then codes "no such record" else
    if n == fault_number ShortBuffer then codes "short buffer" else
    if n == fault_number OutOfMemory then codes "out of memory" else
    if n == fault_number NoTunnel then codes "no tunnel" else
    if n == fault_number NoSegment then codes "no segment" else
    if n == fault_number NoLink then codes "no such link" else
    if n == fault_number BadLink then codes "bad link" else
    if n == fault_number (Port Longest) then codes "bad longest packet" else
    if n == fault_number (Port Cost) then codes "bad cost" else
    if n == fault_number (Port Network) then codes "bad network" else
    if n == fault_number (Port Node) then codes "bad node" else
    if n == fault_number (Ports NoPorts) then codes "no ports" else
    if n == fault_number (Ports ManyPorts) then codes "too many ports" else
    if n == fault_number (Ports SameNetwork) then codes "same network" else
    if n == fault_number ManyClients then codes "too many clients" else
    if n == fault_number ManyLinks then codes "too many links" else
    if n == fault_number ManyStations then codes "too many stations" else
    if n == fault_number Operation then codes "bad operation" else
    if n == fault_number NoEntries then codes "no entries" else
    if n == fault_number ManyEntries then codes "too many entries" else
    if n == fault_number Name then codes "bad name" else
    if n == fault_number LongPacket then codes "packet too long" else
    if n == fault_number Way then codes "bad way" else
    if n == fault_number ManyRules then codes "too many rules" else
    if n == fault_number Rule then codes "bad rule" else []

-- from here on the numbers are those of drops
abbrev pub first_drop : ℕ
first_drop = 100

-- the words of a number; none, where it is none of these
abbrev pub word_of : ℤ → List ℕ
word_of answer =
    if int_lt answer (pos 0) then fault_word (unsigned_abs answer) else
    if nat_lt (unsigned_abs answer) first_drop then event_word (unsigned_abs answer) else drop_word (unsigned_abs answer)

-- what a buffer has then: the words and a zero, where they fit, and behind them what it had
abbrev pub word_after : List ℕ → List ℕ → List ℕ
word_after word buffer = if nat_lt (length word) (length buffer) then word ++ 0 ∷ drop (length word + 1) buffer else buffer
