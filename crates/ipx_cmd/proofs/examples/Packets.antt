-- The lines of one record of each kind.
use Rattle.std.proofs.Common.{◌≡◌, ℕ, List, [], ◌∷◌, ◌++◌, codes, replicate, refl}
use Rattle.std.specs.Fmt.{digits}
use Rattle.hex.specs.Hex.{encode_with, decode_pairs}
use Rattle.ipx_wire.specs.Address.{address_at}
use Rattle.ipx_wire.specs.Crossed.{crossed_of, network_at}
use Rattle.ipx_wire.specs.Header.{header_at}
use Rattle.ipx_wire.specs.Items.{items}
use Rattle.ipx_wire.specs.Name.{name_of}
use Rattle.ipx_wire.specs.Packet.{packet_of}
use Rattle.ipx_wire.specs.Rip.{rip_of, entry_at}
use Rattle.ipx_wire.specs.Sap.{sap_of}
use Rattle.ipx_wire.specs.SapEntries.{sap_entry_at}
use Rattle.ipx_wire.proofs.examples.Words.{hex}
use Rattle.ipx_capture.proofs.examples.Words.{addresses, typed}
use Rattle.ipx_wire.specs.AddressWord.{address_word}
use Rattle.ipx_cmd.specs.CrossedText.{crossed_text, network_after}
use Rattle.ipx_wire.specs.NameWord.{name_word}
use Rattle.ipx_cmd.specs.PacketText.{packet_text, header_text, ends_text, counts_text, data_text}
use Rattle.ipx_cmd.specs.RecordText.{record_text, frame_text}
use Rattle.ipx_cmd.specs.RipText.{rip_text, route_entry_text}
use Rattle.ipx_cmd.specs.SapText.{sap_text, service_entry_text}
use Rattle.ipx_cmd.specs.ServiceWords.{service_words, offered_words}

-- the text of a record of these bytes, the third of its file
abbrev pub text_of : List ℕ → List ℕ
text_of bytes = record_text (record { number = 3; wire = 1514; bytes = bytes })

-- a request for every route, in a frame of type 8137h
pub a_request : text_of typed
    ≡ codes "record 3 EthernetII 00000010.0000000000AA.0453 00000010.FFFFFFFFFFFF.0453 tc 0 type 1 length 40\n"
    ++ codes "rip request\n"
    ++ codes "net FFFFFFFF hops 65535 ticks 65535\n"
unfolding encode_with digits record_text frame_text packet_of header_at address_at packet_text header_text ends_text counts_text address_word data_text rip_of items entry_at rip_text route_entry_text
a_request = refl

-- a query for the nearest file server, in Novell's own kind of frame; the first bytes of the packet are no checksum
pub a_query : text_of (addresses ++ hex (codes "0022") ++ hex (codes "FFFF0022000400000000FFFFFFFFFFFF04520000000000000000000A4003") ++ hex (codes "00030004"))
    ≡ codes "record 3 Raw 00000000.00000000000A.4003 00000000.FFFFFFFFFFFF.0452 tc 0 type 4 length 34\n"
    ++ codes "sap nearest-query 0004\n"
unfolding decode_pairs encode_with digits record_text frame_text packet_of header_at address_at packet_text header_text ends_text counts_text address_word data_text sap_of sap_text
a_query = refl

-- the answer: its name has a blank, and the lines are those of the source's socket
pub an_answer : text_of (addresses ++ hex (codes "0063E0E003") ++ hex (codes "FFFF006000040000001000000000000A40030000001000000000000104520004")
    ++ hex (codes "0004532038") ++ replicate 45 0 ++ hex (codes "0000003000000000000104510002"))
    ≡ codes "record 3 Llc 00000010.000000000001.0452 00000010.00000000000A.4003 tc 0 type 4 length 96\n"
    ++ codes "sap nearest-response\n"
    ++ codes "service 0004 S\\208 00000030 000000000001 0451 2\n"
unfolding decode_pairs encode_with digits record_text frame_text packet_of header_at address_at packet_text header_text ends_text counts_text address_word data_text sap_of items sap_entry_at name_of sap_text service_entry_text service_words offered_words name_word
an_answer = refl

-- a packet of type 20 that has crossed two networks, to the socket of routing information
pub a_propagated : text_of (addresses ++ hex (codes "0046AAAA030000008137") ++ hex (codes "FFFF003E021400000010FFFFFFFFFFFF0453000000100000000000AA0455")
    ++ hex (codes "0000002000000010") ++ replicate 24 0)
    ≡ codes "record 3 Snap 00000010.0000000000AA.0455 00000010.FFFFFFFFFFFF.0453 tc 2 type 20 length 62\n"
    ++ codes "crossed 00000020 00000010\n"
unfolding decode_pairs encode_with digits record_text frame_text packet_of header_at address_at packet_text header_text ends_text counts_text address_word data_text crossed_of items network_at crossed_text network_after
a_propagated = refl

-- a packet of other sockets has no further lines
pub another : text_of (addresses ++ hex (codes "8137") ++ hex (codes "1234001E0F1100000010FFFFFFFFFFFF0451000000100000000000AA4003"))
    ≡ codes "record 3 EthernetII 00000010.0000000000AA.4003 00000010.FFFFFFFFFFFF.0451 tc 15 type 17 length 30\n"
unfolding decode_pairs encode_with digits record_text frame_text packet_of header_at address_at packet_text header_text ends_text counts_text address_word data_text
another = refl

-- bytes that are no packet
pub a_short_one : text_of (addresses ++ hex (codes "8137FFFF")) ≡ codes "record 3 EthernetII bad Short\n"
unfolding decode_pairs digits record_text frame_text packet_of packet_text
a_short_one = refl

-- a frame that carries none
pub no_packet : text_of (addresses ++ hex (codes "08004500")) ≡ codes "record 3 Other\n"
unfolding decode_pairs digits record_text frame_text
no_packet = refl

-- what isn't visible in a name, and a backslash, stand as digits
pub a_name : name_word (codes "A~!" ++ (32 ∷ 92 ∷ 127 ∷ 0xE9 ∷ [])) ≡ codes "A~!\\20\\5C\\7F\\E9"
unfolding encode_with name_word
a_name = refl
