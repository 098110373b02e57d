-- NCP packets.
use Rattle.std.proofs.Common.{◌≡◌, List, ℕ, ◌++◌, codes, refl}
use Rattle.std.specs.Fmt.{digits}
use Rattle.hex.specs.Hex.{encode_with, decode_pairs}
use Rattle.ipx_wire.specs.Address.{address_at}
use Rattle.ipx_wire.specs.Header.{header_at}
use Rattle.ipx_wire.specs.Packet.{packet_of}
use Rattle.ipx_wire.proofs.examples.Words.{hex}
use Rattle.ipx_inside.specs.Inside.{inside_of}
use Rattle.ipx_inside.specs.InsideText.{inside_text}
use Rattle.ipx_inside.specs.Ncp.{ncp_of, caller_at}
use Rattle.ipx_inside.specs.NcpText.{ncp_text, caller_text, request_text, sub_text, reply_text}
use Rattle.ipx_inside.proofs.examples.Line.{line}

-- a client asks for a connection
pub a_connection : line (hex (codes "FFFF00240011000000100000000000BB0451000000200000000000AA4003") ++ hex (codes "111100FF01FF"))
    ≡ codes "ncp create sequence 0 connection 65535 task 1"
unfolding decode_pairs encode_with digits packet_of header_at address_at inside_of inside_text ncp_of caller_at ncp_text caller_text request_text sub_text reply_text
a_connection = refl

-- a function whose subfunction stands behind a length
pub a_function : line (hex (codes "FFFF00280011000000100000000000BB0451000000200000000000AA4003") ++ hex (codes "22220305010017000111"))
    ≡ codes "ncp request sequence 3 connection 5 task 1 function 23 sub 17 Get File Server Information"
unfolding decode_pairs encode_with digits packet_of header_at address_at inside_of inside_text ncp_of caller_at ncp_text caller_text request_text sub_text reply_text
a_function = refl

-- one without a subfunction
pub a_plain_function : line (hex (codes "FFFF00250011000000100000000000BB0451000000200000000000AA4003") ++ hex (codes "22220405010114"))
    ≡ codes "ncp request sequence 4 connection 261 task 1 function 20 Get File Server Date And Time"
unfolding decode_pairs encode_with digits packet_of header_at address_at inside_of inside_text ncp_of caller_at ncp_text caller_text request_text sub_text reply_text
a_plain_function = refl

-- one whose subfunction stands right behind it
pub a_search : line (hex (codes "FFFF00260011000000100000000000BB0451000000200000000000AA4003") ++ hex (codes "2222050501005702"))
    ≡ codes "ncp request sequence 5 connection 5 task 1 function 87 sub 2 Initialize Search"
unfolding decode_pairs encode_with digits packet_of header_at address_at inside_of inside_text ncp_of caller_at ncp_text caller_text request_text sub_text reply_text
a_search = refl

-- one that has no name here
pub without_a_name : line (hex (codes "FFFF00260011000000100000000000BB0451000000200000000000AA4003") ++ hex (codes "22220605010068C8"))
    ≡ codes "ncp request sequence 6 connection 5 task 1 function 104 sub 200"
unfolding decode_pairs encode_with digits packet_of header_at address_at inside_of inside_text ncp_of caller_at ncp_text caller_text request_text sub_text reply_text
without_a_name = refl

-- one whose subfunction is missing
pub without_its_subfunction : line (hex (codes "FFFF00270011000000100000000000BB0451000000200000000000AA4003") ++ hex (codes "222207050100170001"))
    ≡ codes "ncp request sequence 7 connection 5 task 1 function 23 sub cut"
unfolding decode_pairs encode_with digits packet_of header_at address_at inside_of inside_text ncp_of caller_at ncp_text caller_text request_text sub_text reply_text
without_its_subfunction = refl

-- the reply, known by the server's socket
pub a_reply : line (hex (codes "FFFF00260011000000100000000000BB4003000000200000000000AA0451") ++ hex (codes "3333030501009C40"))
    ≡ codes "ncp reply sequence 3 connection 5 task 1 completion 9C status 40"
unfolding decode_pairs encode_with digits packet_of header_at address_at inside_of inside_text ncp_of caller_at ncp_text caller_text request_text sub_text reply_text
a_reply = refl

-- the end of a connection
pub a_farewell : line (hex (codes "FFFF00250011000000100000000000BB0451000000200000000000AA4003") ++ hex (codes "55550805010000"))
    ≡ codes "ncp destroy sequence 8 connection 5 task 1"
unfolding decode_pairs encode_with digits packet_of header_at address_at inside_of inside_text ncp_of caller_at ncp_text caller_text request_text sub_text reply_text
a_farewell = refl

-- a request that is still being worked on
pub a_delay : line (hex (codes "FFFF00260011000000100000000000BB4003000000200000000000AA0451") ++ hex (codes "9999080501000000"))
    ≡ codes "ncp busy sequence 8 connection 5 task 1"
unfolding decode_pairs encode_with digits packet_of header_at address_at inside_of inside_text ncp_of caller_at ncp_text caller_text request_text sub_text reply_text
a_delay = refl

-- between two sockets without a name, known by its type
pub by_its_type : line (hex (codes "FFFF00250011000000100000000000BB4003000000200000000000AA4005") ++ hex (codes "55550805010000"))
    ≡ codes "ncp destroy sequence 8 connection 5 task 1"
unfolding decode_pairs encode_with digits packet_of header_at address_at inside_of inside_text ncp_of caller_at ncp_text caller_text request_text sub_text reply_text
by_its_type = refl

-- another type
pub another_type : line (hex (codes "FFFF00250011000000100000000000BB0451000000200000000000AA4003") ++ hex (codes "BBBB0805010000"))
    ≡ codes "ncp type BBBB"
unfolding decode_pairs encode_with digits packet_of header_at address_at inside_of inside_text ncp_of caller_at ncp_text caller_text request_text sub_text reply_text
another_type = refl

-- a request without its function, and a reply without its status
pub cut_requests : line (hex (codes "FFFF00240011000000100000000000BB0451000000200000000000AA4003") ++ hex (codes "222203050100"))
    ≡ codes "ncp cut"
unfolding decode_pairs encode_with digits packet_of header_at address_at inside_of inside_text ncp_of caller_at ncp_text caller_text request_text sub_text reply_text
cut_requests = refl
