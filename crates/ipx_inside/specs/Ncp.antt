-- The NetWare Core Protocol: what a payload says (NetWare's published NCP documentation).
use Rattle.std.specs.Prelude.{ℕ, ◌==◌, ◌||◌, nat_lt, nat_le, Bool, if◌then◌else◌, List, [], ◌∷◌, length, slice_index, Option, Some, None}
use Rattle.std.specs.Int.{from_be_bytes, w16, w32}
use Rattle.ipx_wire.specs.Piece.{piece}
use Rattle.ipx_inside.specs.declared.ncp.Burst.{Burst}
use Rattle.ipx_inside.specs.declared.ncp.Caller.{Caller}
use Rattle.ipx_inside.specs.declared.ncp.Ncp.{Ncp}
use Rattle.ipx_inside.specs.declared.ncp.Ncp.TheVariants.{Create, Request, Reply, Destroy, Burst as InBurst, Busy, Other}
use Rattle.ipx_inside.specs.declared.ncp.Sub.{Sub}
use Rattle.ipx_inside.specs.declared.ncp.Sub.TheVariants.{Absent, Cut, Number}

-- the caller in six bytes: behind the type sequence 1, connection's low byte 1, task 1, connection's high byte 1
unfoldable pub caller_at : List ℕ → Caller
caller_at payload = record {
  sequence = slice_index payload 2;
  connection = from_be_bytes w16 (slice_index payload 5 ∷ slice_index payload 3 ∷ []);
  task = slice_index payload 4;
}

-- the functions whose subfunction stands right behind them, and those where a length of two bytes stands between
abbrev pub is_behind : ℕ → Bool
is_behind function =
    function == 32 || function == 34 || function == 86 || function == 87 || function == 88 || function == 89 || function == 92 || function == 94
    || function == 104 || function == 111

abbrev pub is_behind_length : ℕ → Bool
is_behind_length function =
    function == 17 || function == 21 || function == 22 || function == 23 || function == 35 || function == 36 || function == 90
    || function == 114 || function == 123 || function == 131

-- the subfunction in a place, if there are so many bytes
abbrev pub byte_at : List ℕ → ℕ → Sub
byte_at payload place = if nat_le (length payload) place then Cut else Number (slice_index payload place)

-- the subfunction of a function
abbrev pub sub_at : ℕ → List ℕ → Sub
sub_at function payload =
    if is_behind function then byte_at payload 7
    else if is_behind_length function then byte_at payload 9
    else Absent

-- a request: behind the caller the function 1
abbrev pub request_at : List ℕ → Option Ncp
request_at payload =
    if nat_lt (length payload) 7 then None
    else Some (Request (caller_at payload) (slice_index payload 6) (sub_at (slice_index payload 6) payload))

-- a reply: behind the caller completion code 1, connection status 1
abbrev pub reply_at : List ℕ → Option Ncp
reply_at payload =
    if nat_lt (length payload) 8 then None
    else Some (Reply (caller_at payload) (slice_index payload 6) (slice_index payload 7))

-- a packet of a burst, 36 bytes: behind the type flags 1, stream type 1, source 4, destination 4, packet 4, delay 4, burst 2, acknowledged 2,
-- length 4, offset 4, data's bytes 2, missing pieces 2
unfoldable pub burst_at : List ℕ → Burst
burst_at payload = record {
  flags = slice_index payload 2;
  stream = slice_index payload 3;
  source = from_be_bytes w32 (piece payload 4 4);
  destination = from_be_bytes w32 (piece payload 8 4);
  packet = from_be_bytes w32 (piece payload 12 4);
  delay = from_be_bytes w32 (piece payload 16 4);
  sequence = from_be_bytes w16 (piece payload 20 2);
  acknowledge = from_be_bytes w16 (piece payload 22 2);
  length = from_be_bytes w32 (piece payload 24 4);
  offset = from_be_bytes w32 (piece payload 28 4);
  bytes = from_be_bytes w16 (piece payload 32 2);
  missing = from_be_bytes w16 (piece payload 34 2);
}

abbrev pub burst_of : List ℕ → Option Ncp
burst_of payload = if nat_lt (length payload) 36 then None else Some (InBurst (burst_at payload))

-- what a payload of that type says
abbrev pub typed : ℕ → List ℕ → Option Ncp
typed kind payload =
    if kind == 0x1111 then Some (Create (caller_at payload))
    else if kind == 0x2222 then request_at payload
    else if kind == 0x3333 then reply_at payload
    else if kind == 0x5555 then Some (Destroy (caller_at payload))
    else if kind == 0x7777 then burst_of payload
    else if kind == 0x9999 then Some (Busy (caller_at payload))
    else Some (Other kind)

-- what a payload says; nothing, if it ends before the fields of its type
unfoldable pub ncp_of : List ℕ → Option Ncp
ncp_of payload =
    if nat_lt (length payload) 6 then None
    else typed (from_be_bytes w16 (piece payload 0 2)) payload
