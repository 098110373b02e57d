use Rattle.std.proofs.Common.{rules}
use Rattle.std.proofs.lemmas.Grind.{common_steps}
use Rattle.std.proofs.Common.{◌≡◌, ℕ, ◌+◌, ◌≤◌, List, ◌++◌, length, take, drop, refl, sym, ap, ◌∙◌, arith, append_assoc, length-append}
use Rattle.std.proofs.lemmas.List.{take_at, drop_at}
use Rattle.std.proofs.lemmas.Nat.{from_be_bytes-to_be_bytes_2, from_be_bytes-to_be_bytes_4}
use Rattle.std.specs.Int.{to_be_bytes, from_be_bytes, w16, w32}
use Rattle.ipx_wire.specs.Piece.{piece, IsBytes}
use Rattle.ipx_wire.specs.Address.{IsAddress, address_bytes, address_at}
use Rattle.ipx_wire.specs.Header.{IsHeader, header_bytes, header_at}
use Rattle.ipx_wire.specs.declared.address.Address.{Address}
use Rattle.ipx_wire.specs.declared.header.Header.{Header}
use Rattle.ipx_wire.proofs.Pieces.{glue, length-piece, bytes_16, bytes_32, range_16, range_32, byte_at, piece-piece}

-- how long three lists are together
sum_of_three : (x y z : List ℕ) (k m n : ℕ) → length x ≡ k → length y ≡ m → length z ≡ n → length (x ++ y ++ z) ≡ k + m + n
sum_of_three x y z k m n a b c = omega (arith, length-append (x ++ y) z, length-append x y, a, b, c)

-- an address is twelve bytes
pub length-address_bytes : (a : Address) → length a.node.0 ≡ 6 → length (address_bytes a) ≡ 12
unfolding address_bytes
length-address_bytes a six = grind (arith, common_steps, sum_of_three)

-- a header is thirty bytes
pub length-header_bytes : (h : Header) → length h.destination.node.0 ≡ 6 → length h.source.node.0 ≡ 6 → length (header_bytes h) ≡ 30
unfolding header_bytes
length-header_bytes h to from = grind (arith, common_steps, sum_of_three, length-address_bytes)

-- a known piece of bytes gives the pieces within it
part : (bytes known : List ℕ) (place m i n : ℕ) → piece bytes place m ≡ known → i + n ≤ m → piece bytes (place + i) n ≡ piece known i n
part bytes known place m i n e within = sym (piece-piece bytes place m i n within) ∙ ap (λ (z : List ℕ). piece z i n) e

-- the bytes of an address are read as that address
pub address_again : (a : Address) (bytes : List ℕ) (place : ℕ) → IsAddress a → piece bytes place 12 ≡ address_bytes a → address_at bytes place ≡ a
unfolding address_bytes address_at
address_again a bytes place is e =
    let start : place + 0 ≡ place = omega arith in
    let network_bytes : piece bytes place 4 ≡ to_be_bytes w32 a.network.0 =
    ap (λ (k : ℕ). piece bytes k 4) (sym start) ∙ part bytes (address_bytes a) place 12 0 4 e (omega arith) in
    let network : from_be_bytes w32 (piece bytes place 4) ≡ a.network.0 =
    ap (from_be_bytes w32) network_bytes ∙ from_be_bytes-to_be_bytes_4 a.network.0 is.network in
    let node : piece bytes (place + 4) 6 ≡ a.node.0 =
    part bytes (address_bytes a) place 12 4 6 e (omega arith) ∙ take_at a.node.0 (to_be_bytes w16 a.socket.0) 6 is.node in
    let socket_bytes : piece bytes (place + 10) 2 ≡ to_be_bytes w16 a.socket.0 =
    part bytes (address_bytes a) place 12 10 2 e (omega arith)
    ∙ ap (take 2) (drop_at a.node.0 (to_be_bytes w16 a.socket.0) 6 is.node) in
    let socket : from_be_bytes w16 (piece bytes (place + 10) 2) ≡ a.socket.0 =
    ap (from_be_bytes w16) socket_bytes ∙ from_be_bytes-to_be_bytes_2 a.socket.0 is.socket in
    rw (network, node, socket) refl

-- what is read as an address has the bytes that were read
pub address_back : (bytes : List ℕ) (place : ℕ) → IsBytes bytes → place + 12 ≤ length bytes → address_bytes (address_at bytes place) ≡ piece bytes place 12
unfolding address_bytes address_at
address_back bytes place are room =
    glue _ _ bytes place (place + 10) 10 2 refl
    (glue _ _ bytes place (place + 4) 4 6 refl (bytes_32 bytes place are (omega arith)) refl)
    (bytes_16 bytes (place + 10) are (omega arith))

-- what is read as an address has numbers of their widths, and six bytes of node
pub address_ranges : (bytes : List ℕ) (place : ℕ) → IsBytes bytes → place + 12 ≤ length bytes → IsAddress (address_at bytes place)
unfolding address_at
address_ranges bytes place are room = omega (arith, range_32, length-piece, range_16)

-- of two lists of twelve, the first
first_of_two : (x y z : List ℕ) → length x ≡ 12 → take 12 ((x ++ y) ++ z) ≡ x
first_of_two x y z size = ap (take 12) (append_assoc x y z) ∙ take_at x (y ++ z) 12 size

-- and the second
second_of_two : (x y z : List ℕ) → length x ≡ 12 → length y ≡ 12 → take 12 (drop 12 ((x ++ y) ++ z)) ≡ y
second_of_two x y z before size = search (rules, append_assoc, drop_at, take_at)

-- headers of equal fields are equal
header_fields : (g h : Header) → g.checksum ≡ h.checksum → g.length ≡ h.length → g.control ≡ h.control → g.kind ≡ h.kind
    → g.destination ≡ h.destination → g.source ≡ h.source → g ≡ h
header_fields g h a b c d e f = grind arith

-- the bytes of a header are read as that header, whatever follows
pub header_again : (h : Header) (rest : List ℕ) → IsHeader h → header_at (header_bytes h ++ rest) ≡ h
unfolding header_bytes header_at
header_again h rest is = grind (arith, length-address_bytes, address_again, first_of_two, second_of_two, from_be_bytes-to_be_bytes_2, header_fields)

-- what is read as a header has the bytes that were read
pub header_back : (bytes : List ℕ) → IsBytes bytes → 30 ≤ length bytes → header_bytes (header_at bytes) ≡ take 30 bytes
unfolding header_bytes header_at
header_back bytes are room =
    let four = glue _ _ bytes 0 2 2 2 refl (bytes_16 bytes 0 are (omega arith)) (bytes_16 bytes 2 are (omega arith)) in
    let five = glue _ _ bytes 0 4 4 1 refl four (byte_at bytes 4 (omega arith)) in
    let six = glue _ _ bytes 0 5 5 1 refl five (byte_at bytes 5 (omega arith)) in
    let with_destination = glue _ _ bytes 0 6 6 12 refl six (address_back bytes 6 are (omega arith)) in
    glue _ _ bytes 0 18 18 12 refl with_destination (address_back bytes 18 are (omega arith))

-- what is read as a header has numbers of their widths
pub header_ranges : (bytes : List ℕ) → IsBytes bytes → 30 ≤ length bytes → IsHeader (header_at bytes)
unfolding header_at
header_ranges bytes are room = record {
  checksum = range_16 bytes 0 are (omega arith);
  length = range_16 bytes 2 are (omega arith);
  control = are 4;
  kind = are 5;
  destination = address_ranges bytes 6 are (omega arith);
  source = address_ranges bytes 18 are (omega arith);
}
