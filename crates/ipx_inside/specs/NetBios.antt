-- NetBIOS over IPX: what data say (the layout of names after the IPX Router Specification; types and sessions as tshark reads them).
use Rattle.std.specs.Prelude.{ℕ, ◌==◌, ◌||◌, nat_lt, if◌then◌else◌, List, length, slice_index, Option, Some, None}
use Rattle.std.specs.Int.{from_le_bytes, w16}
use Rattle.ipx_wire.specs.Piece.{piece}
use Rattle.ipx_inside.specs.declared.netbios.NetBios.{NetBios}
use Rattle.ipx_inside.specs.declared.netbios.NetBios.TheVariants.{Name, Session as InSession, Datagram, Other}
use Rattle.ipx_inside.specs.declared.netbios.Session.{Session}

-- of a name: flags 1, type 1, name 16
abbrev pub name_of : ℕ → List ℕ → Option NetBios
name_of operation bytes = if nat_lt (length bytes) 18 then None else Some (Name operation (slice_index bytes 0) (piece bytes 2 16))

-- of a session: connection control 1, type 1, and eight numbers of two bytes, the lowest byte first
unfoldable pub session_at : List ℕ → Session
session_at bytes = record {
  source = from_le_bytes w16 (piece bytes 2 2);
  destination = from_le_bytes w16 (piece bytes 4 2);
  sequence = from_le_bytes w16 (piece bytes 6 2);
  total = from_le_bytes w16 (piece bytes 8 2);
  offset = from_le_bytes w16 (piece bytes 10 2);
  length = from_le_bytes w16 (piece bytes 12 2);
  receive = from_le_bytes w16 (piece bytes 14 2);
  received = from_le_bytes w16 (piece bytes 16 2);
}

abbrev pub session_of : ℕ → List ℕ → Option NetBios
session_of operation bytes = if nat_lt (length bytes) 18 then None else Some (InSession operation (slice_index bytes 0) (session_at bytes))

-- a datagram: connection control 1, type 1, the receiver's name 16, the sender's name 16
abbrev pub datagram_of : List ℕ → Option NetBios
datagram_of bytes = if nat_lt (length bytes) 34 then None else Some (Datagram (slice_index bytes 0) (piece bytes 2 16) (piece bytes 18 16))

-- what data of that type say
abbrev pub operated : ℕ → List ℕ → Option NetBios
operated operation bytes =
    if operation == 1 || operation == 2 || operation == 3 || operation == 4 || operation == 5 then name_of operation bytes
    else if operation == 6 || operation == 7 || operation == 8 then session_of operation bytes
    else if operation == 11 then datagram_of bytes
    else Some (Other operation)

-- what data say; nothing, if they end before the fields of their type
unfoldable pub netbios_of : List ℕ → Option NetBios
netbios_of bytes = if nat_lt (length bytes) 2 then None else operated (slice_index bytes 1) bytes
