-- NetBIOS.
use Rattle.std.proofs.Common.{◌≡◌, List, ℕ, ◌++◌, codes, refl}
use Rattle.std.specs.Fmt.{digits}
use Rattle.hex.specs.Hex.{encode_with, decode_pairs}
use Rattle.ipx_wire.specs.Address.{address_at}
use Rattle.ipx_wire.specs.Header.{header_at}
use Rattle.ipx_wire.specs.Packet.{packet_of}
use Rattle.ipx_wire.proofs.examples.Words.{hex}
use Rattle.ipx_inside.specs.Inside.{inside_of}
use Rattle.ipx_inside.specs.InsideText.{inside_text}
use Rattle.ipx_wire.specs.NameWord.{name_word}
use Rattle.ipx_inside.specs.NetBios.{netbios_of, session_at}
use Rattle.ipx_inside.specs.NetBiosText.{netbios_text, session_text, name_text, shown}
use Rattle.ipx_inside.proofs.examples.Line.{line}

-- who has the name? Propagated, so behind the networks
pub who_has_it : line (hex (codes "FFFF0050001400000010FFFFFFFFFFFF0455000000200000000000AA0455") ++ hex (codes "0000000000000000000000000000000000000000000000000000000000000000400153455256455220202020202020202020"))
    ≡ codes "netbios find-name flags 40 name SERVER suffix 20"
unfolding decode_pairs encode_with digits packet_of header_at address_at inside_of inside_text netbios_of session_at netbios_text session_text name_text name_word shown
who_has_it = refl

-- a name with a blank within, and one of blanks alone
pub a_blank_within : line (hex (codes "FFFF00300004000000100000000000BB0455000000200000000000AA0455") ++ hex (codes "84024D592047524F5550202020202020201E"))
    ≡ codes "netbios name-recognized flags 84 name MY\\20GROUP suffix 1E"
unfolding decode_pairs encode_with digits packet_of header_at address_at inside_of inside_text netbios_of session_at netbios_text session_text name_text name_word shown
a_blank_within = refl

pub nothing_but_blanks : line (hex (codes "FFFF00300004000000100000000000BB0455000000200000000000AA0455") ++ hex (codes "000320202020202020202020202020202000"))
    ≡ codes "netbios check-name flags 00 name \\20 suffix 00"
unfolding decode_pairs encode_with digits packet_of header_at address_at inside_of inside_text netbios_of session_at netbios_text session_text name_text name_word shown
nothing_but_blanks = refl

-- a session; its numbers have their lowest byte first
pub a_session : line (hex (codes "FFFF00300004000000100000000000BB0455000000200000000000AA0455") ++ hex (codes "840653455256010002000300040005000600"))
    ≡ codes "netbios session-data control 84 source 4553 destination 5652 sequence 1 total 2 offset 3 length 4 receive 5 received 6"
unfolding decode_pairs encode_with digits packet_of header_at address_at inside_of inside_text netbios_of session_at netbios_text session_text name_text name_word shown
a_session = refl

-- a datagram
pub a_datagram : line (hex (codes "FFFF00450004000000100000000000BB0455000000200000000000AA0455") ++ hex (codes "000B53455256455220202020202020202020434C49454E542020202020202020200068656C6C6F"))
    ≡ codes "netbios datagram control 00 to SERVER suffix 20 from CLIENT suffix 00"
unfolding decode_pairs encode_with digits packet_of header_at address_at inside_of inside_text netbios_of session_at netbios_text session_text name_text name_word shown
a_datagram = refl

-- a type of which nothing else is known, and one that isn't known
pub a_status : line (hex (codes "FFFF00200004000000100000000000BB0455000000200000000000AA0455") ++ hex (codes "0009"))
    ≡ codes "netbios status-query 09"
unfolding decode_pairs encode_with digits packet_of header_at address_at inside_of inside_text netbios_of session_at netbios_text session_text name_text name_word shown
a_status = refl

pub another : line (hex (codes "FFFF00200004000000100000000000BB0455000000200000000000AA0455") ++ hex (codes "000C"))
    ≡ codes "netbios type 0C"
unfolding decode_pairs encode_with digits packet_of header_at address_at inside_of inside_text netbios_of session_at netbios_text session_text name_text name_word shown
another = refl

-- a name that is a byte short
pub a_cut_name : line (hex (codes "FFFF002F0004000000100000000000BB0455000000200000000000AA0455") ++ hex (codes "0001534552564552202020202020202020"))
    ≡ codes "netbios cut"
unfolding decode_pairs encode_with digits packet_of header_at address_at inside_of inside_text netbios_of session_at netbios_text session_text name_text name_word shown
a_cut_name = refl

-- a propagated packet without all the networks, and one to another socket
pub cut_networks : line (hex (codes "FFFF003D0014000000100000000000BB0455000000200000000000AA0455") ++ hex (codes "00000000000000000000000000000000000000000000000000000000000000"))
    ≡ codes "netbios cut"
unfolding decode_pairs encode_with digits packet_of header_at address_at inside_of inside_text netbios_of session_at netbios_text session_text name_text name_word shown
cut_networks = refl

pub elsewhere : line (hex (codes "FFFF00500014000000100000000000BB4003000000200000000000AA0455") ++ hex (codes "0000000000000000000000000000000000000000000000000000000000000000000000000000000000000000000000000000"))
    ≡ codes "unknown"
unfolding decode_pairs encode_with digits packet_of header_at address_at inside_of inside_text netbios_of session_at netbios_text session_text name_text name_word shown
elsewhere = refl
