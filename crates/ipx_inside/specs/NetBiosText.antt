-- The line of a NetBIOS packet.
use Rattle.std.specs.Prelude.{ℕ, zero, suc, ◌+◌, ◌==◌, if◌then◌else◌, List, [], ◌∷◌, ◌++◌, codes, decimal, slice_index, take}
use Rattle.std.specs.Int.{to_be_bytes, w16}
use Rattle.hex.specs.Hex.{encode_upper}
use Rattle.ipx_wire.specs.NameWord.{name_word}
use Rattle.ipx_inside.specs.declared.netbios.NetBios.{NetBios}
use Rattle.ipx_inside.specs.declared.netbios.NetBios.TheVariants.{Name, Session as InSession, Datagram, Other}
use Rattle.ipx_inside.specs.declared.netbios.Session.{Session}

-- how many bytes are shown of the first and n more: without the blanks at their end, but always the first byte
unfoldable pub shown : List ℕ → ℕ → ℕ
shown name zero = 1
shown name (suc n) = if slice_index name (suc n) == 0x20 then shown name n else n + 2

-- a name: its first fifteen bytes as a word, and the suffix
unfoldable pub name_text : List ℕ → List ℕ
name_text name = name_word (take (shown name 14) name) ++ codes " suffix " ++ encode_upper (slice_index name 15 ∷ [])

-- the type of a packet
abbrev pub operation_word : ℕ → List ℕ
operation_word operation =
    if operation == 1 then codes "netbios find-name" else
    if operation == 2 then codes "netbios name-recognized" else
    if operation == 3 then codes "netbios check-name" else
    if operation == 4 then codes "netbios name-in-use" else
    if operation == 5 then codes "netbios deregister-name" else
    if operation == 6 then codes "netbios session-data" else
    if operation == 7 then codes "netbios session-end" else
    if operation == 8 then codes "netbios session-end-acknowledge" else
    if operation == 9 then codes "netbios status-query" else
    if operation == 10 then codes "netbios status-response" else
    if operation == 11 then codes "netbios datagram" else codes "netbios type"

-- the numbers of a session's packet
unfoldable pub session_text : Session → List ℕ
session_text s =
    codes " source " ++ encode_upper (to_be_bytes w16 s.source) ++ codes " destination " ++ encode_upper (to_be_bytes w16 s.destination)
    ++ codes " sequence " ++ decimal s.sequence ++ codes " total " ++ decimal s.total ++ codes " offset " ++ decimal s.offset
    ++ codes " length " ++ decimal s.length ++ codes " receive " ++ decimal s.receive ++ codes " received " ++ decimal s.received

unfoldable pub netbios_text : NetBios → List ℕ
netbios_text (Name operation flags name) = operation_word operation ++ codes " flags " ++ encode_upper (flags ∷ []) ++ codes " name " ++ name_text name
netbios_text (InSession operation control session) = operation_word operation ++ codes " control " ++ encode_upper (control ∷ []) ++ session_text session
netbios_text (Datagram control to from) =
    codes "netbios datagram control " ++ encode_upper (control ∷ []) ++ codes " to " ++ name_text to ++ codes " from " ++ name_text from
netbios_text (Other operation) = operation_word operation ++ codes " " ++ encode_upper (operation ∷ [])
