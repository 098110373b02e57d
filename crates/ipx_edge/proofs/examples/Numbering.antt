-- Packets of a cable that nobody numbered, with the number of its port.
use Rattle.std.proofs.Common.{◌≡◌, refl, ℕ, List, ◌++◌, codes, replicate}
use Rattle.hex.specs.Hex.{decode_pairs}
use Rattle.ipx_wire.specs.Address.{address_at}
use Rattle.ipx_wire.specs.Header.{header_at}
use Rattle.ipx_wire.specs.Items.{items}
use Rattle.ipx_wire.specs.Name.{name_of}
use Rattle.ipx_wire.specs.Packet.{packet_of}
use Rattle.ipx_wire.specs.Sap.{sap_of}
use Rattle.ipx_wire.specs.SapEntries.{sap_entry_at}
use Rattle.ipx_edge.specs.Places.{with_at}
use Rattle.ipx_edge.specs.Numbered.{numbered}
use Rattle.ipx_edge.proofs.examples.Words.{hex, port, service}

-- a packet from node AAh to a node of network 20h, with checksum, control, and the source's network
abbrev packet : List ℕ → List ℕ → List ℕ
packet checksum network =
    hex checksum ++ hex (codes "0020000400000020000000000002") ++ hex (codes "4001") ++ hex network ++ hex (codes "0000000000AA4001") ++ hex (codes "0102")

-- a station that knows no number sends to another network: its own network is filled in
pub filled : numbered port (packet (codes "FFFF") (codes "00000000")) ≡ packet (codes "FFFF") (codes "00000050")
unfolding decode_pairs packet_of header_at address_at numbered with_at
filled = refl

-- a checksum that was computed for the other number goes
pub without_checksum : numbered port (packet (codes "1234") (codes "00000000")) ≡ packet (codes "FFFF") (codes "00000050")
unfolding decode_pairs packet_of header_at address_at numbered with_at
without_checksum = refl

-- who names a network is left alone, even if it's another one than the port's
pub named : numbered port (packet (codes "1234") (codes "00000099")) ≡ packet (codes "1234") (codes "00000099")
unfolding decode_pairs packet_of header_at address_at numbered with_at
named = refl

-- bytes that are no packet are left alone
pub no_packet : numbered port (replicate 29 0) ≡ replicate 29 0
unfolding packet_of numbered
no_packet = refl

-- a response of two services to all of the cable, padded by a byte
abbrev response : List ℕ → List ℕ → List ℕ → List ℕ → List ℕ
response from first second hops =
    hex (codes "FFFF00A0000400000000FFFFFFFFFFFF0452") ++ hex from ++ hex (codes "0000000000AA0452") ++ hex (codes "0002")
    ++ service first (codes "0001") ++ service second hops ++ hex (codes "EE")

-- both services are the cable's, and the padding stays
pub services : numbered port (response (codes "00000000") (codes "00000000") (codes "00000000") (codes "0001"))
    ≡ response (codes "00000050") (codes "00000050") (codes "00000050") (codes "0001")
unfolding decode_pairs packet_of header_at address_at sap_of items sap_entry_at name_of numbered with_at
services = refl

-- one that names its network keeps it, as does one that a router retold as being on network 0
pub other_services : numbered port (response (codes "00000050") (codes "00000030") (codes "00000000") (codes "0002"))
    ≡ response (codes "00000050") (codes "00000030") (codes "00000000") (codes "0002")
unfolding decode_pairs packet_of header_at address_at sap_of items sap_entry_at name_of numbered with_at
other_services = refl
