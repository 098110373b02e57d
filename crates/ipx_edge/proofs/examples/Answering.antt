-- Answers to queries for the nearest service, where a server of that type is on the cable itself.
use Rattle.std.proofs.Common.{◌≡◌, refl, ℕ, true, false, List, ◌++◌, codes}
use Rattle.hex.specs.Hex.{decode_pairs}
use Rattle.ipx_wire.specs.Address.{address_at}
use Rattle.ipx_wire.specs.Header.{header_at}
use Rattle.ipx_wire.specs.Items.{items}
use Rattle.ipx_wire.specs.Packet.{packet_of}
use Rattle.ipx_wire.specs.Sap.{sap_of}
use Rattle.ipx_wire.specs.SapEntries.{sap_entry_at}
use Rattle.ipx_edge.specs.Needless.{is_needless}
use Rattle.ipx_edge.proofs.examples.Words.{hex, port, service}

-- the router, or another node, sends node AAh a response: its operation, and the hops of its service
abbrev answer : List ℕ → List ℕ → List ℕ → List ℕ
answer node operation hops =
    hex (codes "FFFF0060000400000050") ++ hex (codes "0000000000AA400300000050") ++ hex node ++ hex (codes "0452") ++ hex operation
    ++ service (codes "00000030") hops

-- a server behind four routers isn't wanted
pub farther : is_needless port 1 (answer (codes "000000000001") (codes "0004") (codes "0004")) ≡ true
unfolding decode_pairs packet_of header_at address_at sap_of items sap_entry_at
farther = refl

-- nor is one that is as near
pub as_near : is_needless port 4 (answer (codes "000000000001") (codes "0004") (codes "0004")) ≡ true
unfolding decode_pairs packet_of header_at address_at sap_of items sap_entry_at
as_near = refl

pub nearer : is_needless port 5 (answer (codes "000000000001") (codes "0004") (codes "0004")) ≡ false
unfolding decode_pairs packet_of header_at address_at sap_of items sap_entry_at
nearer = refl

-- what is advertised is no answer, and what others say is not the router's
pub advertised : is_needless port 1 (answer (codes "000000000001") (codes "0002") (codes "0004")) ≡ false
unfolding decode_pairs packet_of header_at address_at sap_of items sap_entry_at
advertised = refl

pub of_others : is_needless port 1 (answer (codes "0000000000BB") (codes "0004") (codes "0004")) ≡ false
unfolding decode_pairs packet_of header_at address_at
of_others = refl
