-- What else travels.
use Rattle.std.proofs.Common.{◌≡◌, List, ℕ, ◌++◌, codes, refl}
use Rattle.std.specs.Fmt.{digits}
use Rattle.hex.specs.Hex.{encode_with, decode_pairs}
use Rattle.ipx_wire.specs.Address.{address_at}
use Rattle.ipx_wire.specs.Header.{header_at}
use Rattle.ipx_wire.specs.Packet.{packet_of}
use Rattle.ipx_wire.proofs.examples.Words.{hex}
use Rattle.ipx_inside.specs.Inside.{inside_of}
use Rattle.ipx_inside.specs.InsideText.{inside_text}
use Rattle.ipx_inside.specs.InsideText.{response_text}
use Rattle.ipx_inside.proofs.examples.Line.{line}

-- a server asks, a station answers, and a message waits
pub still_there : line (hex (codes "FFFF00200000000000100000000000BB4004000000200000000000AA4001") ++ hex (codes "053F"))
    ≡ codes "watchdog asks connection 5"
unfolding decode_pairs encode_with digits packet_of header_at address_at inside_of inside_text response_text
still_there = refl

pub yes : line (hex (codes "FFFF00200000000000100000000000BB4001000000200000000000AA4004") ++ hex (codes "0559"))
    ≡ codes "watchdog answers connection 5"
unfolding decode_pairs encode_with digits packet_of header_at address_at inside_of inside_text response_text
yes = refl

pub a_note : line (hex (codes "FFFF00200000000000100000000000BB4005000000200000000000AA4001") ++ hex (codes "0521"))
    ≡ codes "broadcast waits connection 5"
unfolding decode_pairs encode_with digits packet_of header_at address_at inside_of inside_text response_text
a_note = refl

-- another byte, or three bytes, are none
pub no_signal : line (hex (codes "FFFF00200000000000100000000000BB4004000000200000000000AA4001") ++ hex (codes "054E"))
    ≡ codes "unknown"
unfolding decode_pairs encode_with digits packet_of header_at address_at inside_of inside_text response_text
no_signal = refl

pub three_bytes : line (hex (codes "FFFF00210000000000100000000000BB4004000000200000000000AA4001") ++ hex (codes "053F2E"))
    ≡ codes "unknown"
unfolding decode_pairs encode_with digits packet_of header_at address_at inside_of inside_text response_text
three_bytes = refl

-- the serial number of a server
pub a_serial_number : line (hex (codes "FFFF00240000000000100000000000BB0457000000200000000000AA0457") ++ hex (codes "010203040506"))
    ≡ codes "serialization number 010203040506"
unfolding decode_pairs encode_with digits packet_of header_at address_at inside_of inside_text response_text
a_serial_number = refl

pub no_serial_number : line (hex (codes "FFFF00230000000000100000000000BB0457000000200000000000AA0457") ++ hex (codes "0102030405"))
    ≡ codes "serialization cut"
unfolding decode_pairs encode_with digits packet_of header_at address_at inside_of inside_text response_text
no_serial_number = refl

-- diagnostics: all shall answer; one shall not, and is cut short; an answer
pub diagnostics : line (hex (codes "FFFF001F0000000000100000000000BB0456000000200000000000AA4010") ++ hex (codes "00"))
    ≡ codes "diagnostics request excluded 0"
unfolding decode_pairs encode_with digits packet_of header_at address_at inside_of inside_text response_text
diagnostics = refl

pub but_one : line (hex (codes "FFFF00240000000000100000000000BB0456000000200000000000AA4010") ++ hex (codes "010000000000"))
    ≡ codes "diagnostics cut"
unfolding decode_pairs encode_with digits packet_of header_at address_at inside_of inside_text response_text
but_one = refl

pub an_answer : line (hex (codes "FFFF00250000000000100000000000BB4010000000200000000000AA0456") ++ hex (codes "01014002020005"))
    ≡ codes "diagnostics response version 1.1 socket 4002 components 2"
unfolding decode_pairs encode_with digits packet_of header_at address_at inside_of inside_text response_text
an_answer = refl

-- DOSBox registers, asks and answers
pub a_registration : line (hex (codes "FFFF001E0000000000100000000000000002000000200000000000AA0002"))
    ≡ codes "ping registers"
unfolding decode_pairs encode_with digits packet_of header_at address_at inside_of inside_text response_text
a_registration = refl

pub a_ping : line (hex (codes "FFFF001E000000000010FFFFFFFFFFFF0002000000200000000000AA0002"))
    ≡ codes "ping asks"
unfolding decode_pairs encode_with digits packet_of header_at address_at inside_of inside_text response_text
a_ping = refl

pub an_echo : line (hex (codes "FFFF001E0000000000100000000000BB0002000000200000000000AA0002"))
    ≡ codes "ping answers"
unfolding decode_pairs encode_with digits packet_of header_at address_at inside_of inside_text response_text
an_echo = refl

-- data for a socket with a name, and from one
pub a_name : line (hex (codes "FFFF001F0000000000100000000000BB9086000000200000000000AA4003") ++ hex (codes "01"))
    ≡ codes "socket 9086 Novell ping"
unfolding decode_pairs encode_with digits packet_of header_at address_at inside_of inside_text response_text
a_name = refl

pub from_a_name : line (hex (codes "FFFF001F0000000000100000000000BB4003000000200000000000AA9086") ++ hex (codes "01"))
    ≡ codes "socket 9086 Novell ping"
unfolding decode_pairs encode_with digits packet_of header_at address_at inside_of inside_text response_text
from_a_name = refl

-- a game's
pub a_game : line (hex (codes "FFFF00210000000000100000000000BB6590000000200000000000AA6590") ++ hex (codes "010203"))
    ≡ codes "unknown"
unfolding decode_pairs encode_with digits packet_of header_at address_at inside_of inside_text response_text
a_game = refl

-- RIP and SAP
pub routes : line (hex (codes "FFFF00280001000000100000000000BB0453000000200000000000AA0453") ++ hex (codes "0001FFFFFFFFFFFFFFFF"))
    ≡ codes "rip"
unfolding decode_pairs encode_with digits packet_of header_at address_at inside_of inside_text response_text
routes = refl

pub services : line (hex (codes "FFFF00220000000000100000000000BB4003000000200000000000AA0452") ++ hex (codes "00030004"))
    ≡ codes "sap"
unfolding decode_pairs encode_with digits packet_of header_at address_at inside_of inside_text response_text
services = refl
