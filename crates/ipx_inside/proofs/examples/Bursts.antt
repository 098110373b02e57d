-- Packets of a burst.
use Rattle.std.proofs.Common.{◌≡◌, List, ℕ, ◌++◌, codes, refl}
use Rattle.std.specs.Fmt.{digits}
use Rattle.hex.specs.Hex.{encode_with, decode_pairs}
use Rattle.ipx_wire.specs.Address.{address_at}
use Rattle.ipx_wire.specs.Header.{header_at}
use Rattle.ipx_wire.specs.Packet.{packet_of}
use Rattle.ipx_wire.proofs.examples.Words.{hex}
use Rattle.ipx_inside.specs.Inside.{inside_of}
use Rattle.ipx_inside.specs.InsideText.{inside_text}
use Rattle.ipx_inside.specs.Ncp.{ncp_of, burst_at}
use Rattle.ipx_inside.specs.NcpText.{ncp_text, burst_ends, burst_piece}
use Rattle.ipx_inside.proofs.examples.Line.{line}

-- the first packet of one
pub a_burst : line (hex (codes "FFFF00420011000000100000000000BB0451000000200000000000AA4003") ++ hex (codes "77778002000000050000000600000007000000080009000A0000000B0000000C000D000E"))
    ≡ codes "ncp burst flags 80 stream 02 source 5 destination 6 packet 7 delay 8 sequence 9 acknowledge 10 length 11 offset 12 bytes 13 missing 14"
unfolding decode_pairs encode_with digits packet_of header_at address_at inside_of inside_text ncp_of burst_at ncp_text burst_ends burst_piece
a_burst = refl

-- one that is a byte short
pub a_short_burst : line (hex (codes "FFFF00410011000000100000000000BB0451000000200000000000AA4003") ++ hex (codes "77778002000000050000000600000007000000080009000A0000000B0000000C000D00"))
    ≡ codes "ncp cut"
unfolding decode_pairs encode_with digits packet_of header_at address_at inside_of inside_text ncp_of burst_at ncp_text burst_ends burst_piece
a_short_burst = refl
