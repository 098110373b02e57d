-- What a packet holds, told by its type and its sockets.
use Rattle.std.specs.Prelude.{ℕ, ◌+◌, ◌*◌, ◌==◌, ◌&&◌, ◌||◌, nat_eq, nat_lt, Bool, true, false, if◌then◌else◌, List, length, slice_index, take, drop, replicate, Option, Some, None}
use Rattle.std.specs.Cmp.Lexicographic.{pointwise}
use Rattle.std.specs.Int.{from_be_bytes, w16}
use Rattle.ipx_wire.specs.Piece.{piece}
use Rattle.ipx_wire.specs.declared.header.Header.{Header}
use Rattle.ipx_wire.specs.declared.node.Node.{Node}
use Rattle.ipx_inside.specs.Names.{socket_name}
use Rattle.ipx_inside.specs.Ncp.{ncp_of}
use Rattle.ipx_inside.specs.NetBios.{netbios_of}
use Rattle.ipx_inside.specs.Spx.{spx_of}
use Rattle.ipx_inside.specs.declared.inside.Inside.{Inside}
use Rattle.ipx_inside.specs.declared.inside.Inside.TheVariants.{Rip, Sap, Ncp as InNcp, Spx as InSpx, NetBios as InNetBios, Watchdog, Serialization as Serial, DiagnosticRequest, DiagnosticResponse, Ping as InPing, Cut, Named, Unknown}
use Rattle.ipx_inside.specs.declared.inside.Ping.TheVariants.{Registers, Asks as AsksAll, Answers as AnswersOne}
use Rattle.ipx_inside.specs.declared.inside.Protocol.{Protocol}
use Rattle.ipx_inside.specs.declared.inside.Protocol.TheVariants.{Ncp as OfNcp, Spx as OfSpx, NetBios as OfNetBios, Diagnostics as OfDiagnostics, Serialization as OfSerialization}
use Rattle.ipx_inside.specs.declared.inside.Signal.{Signal}
use Rattle.ipx_inside.specs.declared.inside.Signal.TheVariants.{Asks, Answers, Waits}

-- ---- one protocol each: what is read of it, or that the packet is too short

abbrev pub or_cut : {A : Type 0} → (A → Inside) → Protocol → Option A → Inside
or_cut inside protocol (Some it) = inside it
or_cut inside protocol None = Cut protocol

abbrev pub spx_in : List ℕ → Inside
spx_in payload = or_cut InSpx OfSpx (spx_of payload)

abbrev pub ncp_in : List ℕ → Inside
ncp_in payload = or_cut InNcp OfNcp (ncp_of payload)

abbrev pub netbios_in : List ℕ → Inside
netbios_in bytes = or_cut InNetBios OfNetBios (netbios_of bytes)

-- a propagated packet to the socket of NetBIOS: behind the 32 bytes of the networks crossed
abbrev pub propagated_in : Header → List ℕ → Inside
propagated_in h payload =
    if h.destination.socket.0 == 0x455 then (if nat_lt (length payload) 32 then Cut OfNetBios else netbios_in (drop 32 payload))
    else Unknown

-- diagnostics: the number of nodes that shouldn't answer 1, and these, 6 each
abbrev pub excluded_in : List ℕ → Inside
excluded_in payload =
    if length payload == 0 || nat_lt (length payload) (1 + 6 * slice_index payload 0) then Cut OfDiagnostics
    else DiagnosticRequest (slice_index payload 0)

-- their response: version 1 and 1, socket 2, the number of components 1
abbrev pub response_in : List ℕ → Inside
response_in payload =
    if nat_lt (length payload) 5 then Cut OfDiagnostics
    else DiagnosticResponse (slice_index payload 0) (slice_index payload 1) (record { 0 = from_be_bytes w16 (piece payload 2 2) }) (slice_index payload 4)

abbrev pub diagnostics_in : Bool → List ℕ → Inside
diagnostics_in is_request payload = if is_request then excluded_in payload else response_in payload

-- a serial number of six bytes
abbrev pub serial_in : List ℕ → Inside
serial_in payload = if nat_lt (length payload) 6 then Cut OfSerialization else Serial (take 6 payload)

-- ---- by sockets

-- at a well-known socket, of the destination or else of the source
abbrev pub known_at : ℕ → Bool → List ℕ → Option Inside
known_at socket is_to payload =
    if socket == 0x451 then Some (ncp_in payload)
    else if socket == 0x452 then Some Sap
    else if socket == 0x453 then Some Rip
    else if socket == 0x455 then Some (netbios_in payload)
    else if socket == 0x456 then Some (diagnostics_in is_to payload)
    else if socket == 0x457 then Some (serial_in payload)
    else None

-- ---- by custom

-- a packet of DOSBox' tunnels, by the node that it is for
abbrev pub pinged : Node → Inside
pinged node =
    if pointwise nat_eq node.0 (replicate 6 0) then InPing Registers
    else if pointwise nat_eq node.0 (replicate 6 255) then InPing AsksAll
    else InPing AnswersOne

-- a signal: `?`, `Y` or `!`
abbrev pub signal_of : ℕ → Option Signal
signal_of byte = if byte == 0x3F then Some Asks else if byte == 0x59 then Some Answers else if byte == 0x21 then Some Waits else None

-- the sockets by which servers send these
abbrev pub is_station : ℕ → Bool
is_station socket = socket == 0x4001 || socket == 0x4003

abbrev pub is_watched : Header → Bool
is_watched h = is_station h.destination.socket.0 || is_station h.source.socket.0

abbrev pub signalled : Option Signal → ℕ → Option Inside
signalled (Some signal) connection = Some (Watchdog signal connection)
signalled None connection = None

-- two bytes by such a socket: the number of a connection, and a signal
abbrev pub watched : Header → List ℕ → Option Inside
watched h payload =
    if length payload == 2 && is_watched h then signalled (signal_of (slice_index payload 1)) (slice_index payload 0)
    else None

-- the destination's socket, or else the source's, if it has a name
abbrev pub named_in : Header → Inside
named_in h =
    if length (socket_name h.destination.socket.0) == 0
    then (if length (socket_name h.source.socket.0) == 0 then Unknown else Named h.source.socket)
    else Named h.destination.socket

abbrev pub or_else : Option Inside → Inside → Inside
or_else (Some inside) other = inside
or_else None other = other

abbrev pub customary : Header → List ℕ → Inside
customary h payload =
    if h.destination.socket.0 == 2 && length payload == 0 then pinged h.destination.node
    else or_else (watched h payload) (named_in h)

-- ---- a packet

-- by the destination's socket, then by the source's, then by the type of NCP, and else by what is customary
abbrev pub by_sockets : Header → List ℕ → Inside
by_sockets h payload =
    or_else (known_at h.destination.socket.0 true payload)
    (or_else (known_at h.source.socket.0 false payload)
    (if h.kind == 17 then ncp_in payload else customary h payload))

-- by the type of SPX, by that of propagated packets, and else by the sockets
unfoldable pub inside_of : Header → List ℕ → Inside
inside_of h payload =
    if h.kind == 5 then spx_in payload
    else if h.kind == 20 then propagated_in h payload
    else by_sockets h payload
