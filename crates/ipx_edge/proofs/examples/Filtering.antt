-- What rules let pass.
use Rattle.std.proofs.Common.{◌≡◌, refl, ℕ, true, false, List, [], ◌∷◌, ◌++◌, codes, None, Some}
use Rattle.hex.specs.Hex.{decode_pairs}
use Rattle.ipx_wire.specs.Address.{address_at}
use Rattle.ipx_wire.specs.Header.{header_at}
use Rattle.ipx_wire.specs.Items.{items}
use Rattle.ipx_wire.specs.Name.{name_of}
use Rattle.ipx_wire.specs.Packet.{packet_of}
use Rattle.ipx_wire.specs.Rip.{entry_at, rip_of}
use Rattle.ipx_wire.specs.Sap.{sap_of}
use Rattle.ipx_wire.specs.SapEntries.{sap_entry_at}
use Rattle.ipx_edge.specs.Places.{with_at}
use Rattle.ipx_edge.specs.Filtered.{filtered}
use Rattle.ipx_edge.specs.declared.rule.Names.TheVariants.{All, Is, Begins}
use Rattle.ipx_edge.specs.declared.rule.Rule.{Rule}
use Rattle.ipx_edge.specs.declared.rule.Way.TheVariants.{In, Out}
use Rattle.ipx_edge.specs.declared.rule.What.{What}
use Rattle.ipx_edge.specs.declared.rule.What.TheVariants.{Kind, OnSocket, Nearest, Routes, Services}
use Rattle.ipx_edge.proofs.examples.Words.{hex, port, service}

abbrev deny : What → Rule
deny what = record { permits = false; what = what }

abbrev permit : What → Rule
permit what = record { permits = true; what = what }

abbrev networks : ℕ → ℕ → What
networks from to = Routes In (record { 0 = from }) (record { 0 = to })

-- node AAh advertises routes to networks 1000h, 1001h and 2000h; or some of them
abbrev routes : List ℕ → List ℕ → List ℕ → List ℕ
routes checksum size entries =
    hex checksum ++ hex size ++ hex (codes "000100000050FFFFFFFFFFFF0453000000500000000000AA04530002") ++ hex entries

abbrev three : List ℕ
three = routes (codes "1234") (codes "0038") (codes "000010000001000200001001000100020000200000010002")

-- one of them is denied: the others are left, in their order
pub one_less : filtered In port (deny (networks 0x1001 0x1001) ∷ []) three
    ≡ Some (routes (codes "FFFF") (codes "0030") (codes "00001000000100020000200000010002"))
unfolding decode_pairs packet_of header_at address_at rip_of items entry_at filtered with_at
one_less = refl

-- the first rule decides
pub first_decides : filtered In port (permit (networks 0x1000 0x1000) ∷ deny (networks 0x1000 0x1fff) ∷ []) three
    ≡ Some (routes (codes "FFFF") (codes "0030") (codes "00001000000100020000200000010002"))
unfolding decode_pairs packet_of header_at address_at rip_of items entry_at filtered with_at
first_decides = refl

-- an empty response isn't sent
pub none_left : filtered In port (deny (networks 0 0xffffffff) ∷ []) three ≡ None
unfolding decode_pairs packet_of header_at address_at rip_of items entry_at filtered
none_left = refl

-- what goes out is not what comes in
pub other_way : filtered Out port (deny (networks 0 0xffffffff) ∷ []) three ≡ Some three
unfolding decode_pairs packet_of header_at address_at filtered
other_way = refl

-- the whole packet goes by its type, or its socket
pub by_type : filtered In port (deny (Kind 1) ∷ []) three ≡ None
unfolding decode_pairs packet_of header_at address_at filtered
by_type = refl

pub by_socket : filtered In port (deny (OnSocket (record { 0 = 0x453 })) ∷ []) three ≡ None
unfolding decode_pairs packet_of header_at address_at filtered
by_socket = refl

-- a query for the nearest server of type 4
abbrev query : List ℕ
query = hex (codes "FFFF0022000400000000FFFFFFFFFFFF0452000000000000000000AA400300030004")

pub nearest : filtered In port (deny Nearest ∷ []) query ≡ None
unfolding decode_pairs packet_of header_at address_at sap_of filtered
nearest = refl

-- the router advertises a service P of type 4, on network 30h or 31h
abbrev advertised : List ℕ → List ℕ → List ℕ
advertised size entries = hex (codes "FFFF") ++ hex size ++ hex (codes "000400000050FFFFFFFFFFFF04520000005000000000000104520002") ++ entries

abbrev both : List ℕ
both = advertised (codes "00A0") (service (codes "00000030") (codes "0001") ++ service (codes "00000031") (codes "0002"))

pub by_name : filtered Out port (deny (Services Out 4 (Begins (codes "P"))) ∷ []) both ≡ None
unfolding decode_pairs packet_of header_at address_at rip_of sap_of items sap_entry_at name_of filtered
by_name = refl

pub other_name : filtered Out port (deny (Services Out 0xffff (Is (codes "PQ"))) ∷ []) both ≡ Some both
unfolding decode_pairs packet_of header_at address_at rip_of sap_of items sap_entry_at name_of filtered
other_name = refl

pub other_type : filtered Out port (deny (Services Out 7 All) ∷ []) both ≡ Some both
unfolding decode_pairs packet_of header_at address_at rip_of sap_of items sap_entry_at name_of filtered
other_type = refl
