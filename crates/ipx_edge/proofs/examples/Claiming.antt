-- Neighbours with another number for the cable.
use Rattle.std.proofs.Common.{◌≡◌, refl, ℕ, List, ◌++◌, codes, None, Some}
use Rattle.hex.specs.Hex.{decode_pairs}
use Rattle.ipx_wire.specs.Address.{address_at}
use Rattle.ipx_wire.specs.Header.{header_at}
use Rattle.ipx_wire.specs.Packet.{packet_of}
use Rattle.ipx_edge.specs.Claimed.{claimed}
use Rattle.ipx_edge.proofs.examples.Words.{hex, port}

-- a response with a route to network 30h: its control, whom it is for, and the network of its source
abbrev packet : List ℕ → List ℕ → List ℕ → List ℕ
packet control to from =
    hex (codes "FFFF0028") ++ hex control ++ hex (codes "01") ++ hex to ++ hex (codes "0453") ++ hex from ++ hex (codes "0000000000AA0453")
    ++ hex (codes "00020000003000010002")

-- a neighbour takes the cable for network 60h
pub another : claimed port (packet (codes "00") (codes "00000060FFFFFFFFFFFF") (codes "00000060")) ≡ Some (record { 0 = 0x60 })
unfolding decode_pairs packet_of header_at address_at
another = refl

-- one that has the cable's number, or none
pub agreed : claimed port (packet (codes "00") (codes "00000050FFFFFFFFFFFF") (codes "00000050")) ≡ None
unfolding decode_pairs packet_of header_at address_at
agreed = refl

pub nameless : claimed port (packet (codes "00") (codes "00000000FFFFFFFFFFFF") (codes "00000000")) ≡ None
unfolding decode_pairs packet_of header_at address_at
nameless = refl

-- a packet from this network for all routers of another
pub directed : claimed port (packet (codes "00") (codes "00000060FFFFFFFFFFFF") (codes "00000050")) ≡ None
unfolding decode_pairs packet_of header_at address_at
directed = refl

-- a router carried it here, or it is for one node
pub carried : claimed port (packet (codes "01") (codes "00000060FFFFFFFFFFFF") (codes "00000060")) ≡ None
unfolding decode_pairs packet_of header_at address_at
carried = refl

pub for_one : claimed port (packet (codes "00") (codes "000000600000000000BB") (codes "00000060")) ≡ None
unfolding decode_pairs packet_of header_at address_at
for_one = refl
