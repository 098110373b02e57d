-- A host plants routes on a network that it isn't on.
use Rattle.std.proofs.Common.{◌≡◌, refl, ℕ, List, ◌++◌, codes, None, Some}
use Rattle.hex.specs.Hex.{decode_pairs}
use Rattle.ipx_wire.specs.Address.{address_at}
use Rattle.ipx_wire.specs.Header.{header_at}
use Rattle.ipx_wire.specs.Packet.{packet_of}
use Rattle.ipx_edge.specs.Places.{with_at}
use Rattle.ipx_edge.specs.Numbered.{numbered}
use Rattle.ipx_edge.specs.Entered.{entered}
use Rattle.ipx_edge.proofs.examples.Words.{hex, port}

-- a response with a route to network 30h, for all routers of network 50h: length and control, the socket, and the source's network
abbrev packet : List ℕ → List ℕ → List ℕ → List ℕ
packet control socket from =
    hex (codes "FFFF0028") ++ hex control ++ hex (codes "0100000050FFFFFFFFFFFF") ++ hex socket ++ hex from
    ++ hex (codes "0000000000AA0453") ++ hex (codes "00020000003000010002")

-- a neighbour says so itself
pub neighbours : entered port (packet (codes "00") (codes "0453") (codes "00000050")) ≡ Some (packet (codes "00") (codes "0453") (codes "00000050"))
unfolding decode_pairs packet_of header_at address_at numbered with_at
neighbours = refl

-- one without a number, too
pub nameless : entered port (packet (codes "00") (codes "0453") (codes "00000000")) ≡ Some (packet (codes "00") (codes "0453") (codes "00000050"))
unfolding decode_pairs packet_of header_at address_at numbered with_at
nameless = refl

-- a router carried it here, whatever network its source names
pub carried : entered port (packet (codes "01") (codes "0453") (codes "00000000")) ≡ None
unfolding decode_pairs packet_of header_at address_at
carried = refl

pub carried_as_neighbours : entered port (packet (codes "01") (codes "0453") (codes "00000050")) ≡ None
unfolding decode_pairs packet_of header_at address_at
carried_as_neighbours = refl

-- for another socket it may have come from anywhere
pub for_others : entered port (packet (codes "01") (codes "4001") (codes "00000020")) ≡ Some (packet (codes "01") (codes "4001") (codes "00000020"))
unfolding decode_pairs packet_of header_at address_at numbered with_at
for_others = refl
