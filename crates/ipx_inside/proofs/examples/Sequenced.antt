-- Sequenced packets.
use Rattle.std.proofs.Common.{◌≡◌, List, ℕ, ◌++◌, codes, refl}
use Rattle.std.specs.Fmt.{digits}
use Rattle.hex.specs.Hex.{encode_with, decode_pairs}
use Rattle.ipx_wire.specs.Address.{address_at}
use Rattle.ipx_wire.specs.Header.{header_at}
use Rattle.ipx_wire.specs.Packet.{packet_of}
use Rattle.ipx_wire.proofs.examples.Words.{hex}
use Rattle.ipx_inside.specs.Inside.{inside_of}
use Rattle.ipx_inside.specs.InsideText.{inside_text}
use Rattle.ipx_inside.specs.Spx.{spx_of, spx_at}
use Rattle.ipx_inside.specs.SpxText.{spx_text, control_text, stream_text, numbers_text, size_text}
use Rattle.ipx_inside.proofs.examples.Line.{line}

-- the end of a connection, which wants an acknowledgement
pub an_end : line (hex (codes "FFFF002A0005000000100000000000BB4005000000200000000000AA4006") ++ hex (codes "C0FE00010002000300040005"))
    ≡ codes "spx control C0 system acknowledge stream FE ends source 0001 destination 0002 sequence 3 acknowledge 4 allocation 5"
unfolding decode_pairs encode_with digits packet_of header_at address_at inside_of inside_text spx_of spx_at spx_text control_text stream_text numbers_text size_text
an_end = refl

-- the last packet of a message
pub a_message : line (hex (codes "FFFF002B0005000000100000000000BB4005000000200000000000AA4006") ++ hex (codes "50000001000200030004000541"))
    ≡ codes "spx control 50 acknowledge end stream 00 source 0001 destination 0002 sequence 3 acknowledge 4 allocation 5"
unfolding decode_pairs encode_with digits packet_of header_at address_at inside_of inside_text spx_of spx_at spx_text control_text stream_text numbers_text size_text
a_message = refl

-- one of SPX II, with the size of its packets
pub a_size : line (hex (codes "FFFF002C0005000000100000000000BB4005000000200000000000AA4006") ++ hex (codes "0C000001FFFF0003000400050400"))
    ≡ codes "spx control 0C stream 00 source 0001 destination FFFF sequence 3 acknowledge 4 allocation 5 size 1024"
unfolding decode_pairs encode_with digits packet_of header_at address_at inside_of inside_text spx_of spx_at spx_text control_text stream_text numbers_text size_text
a_size = refl

-- one without it
pub a_missing_size : line (hex (codes "FFFF002B0005000000100000000000BB4005000000200000000000AA4006") ++ hex (codes "08000001000200030004000504"))
    ≡ codes "spx control 08 stream 00 source 0001 destination 0002 sequence 3 acknowledge 4 allocation 5 size cut"
unfolding decode_pairs encode_with digits packet_of header_at address_at inside_of inside_text spx_of spx_at spx_text control_text stream_text numbers_text size_text
a_missing_size = refl

-- one of eleven bytes; the type goes before the sockets
pub a_short_one : line (hex (codes "FFFF00290005000000100000000000BB0451000000200000000000AA0451") ++ hex (codes "C0FE000100020003000400"))
    ≡ codes "spx cut"
unfolding decode_pairs encode_with digits packet_of header_at address_at inside_of inside_text spx_of spx_at spx_text control_text stream_text numbers_text size_text
a_short_one = refl
