-- Headers and services that differ in a network's number alone.
use Rattle.std.proofs.Common.{◌≡◌, ◌∙◌, refl, sym, ap, arith, ℕ, ◌+◌, ◌-◌, ◌<◌, ◌≤◌, ◌==◌, ◌&&◌, nat_lt, Bool, true, false, if◌then◌else◌, List, length, take, drop, get_or}
use Rattle.std.specs.Prelude.{slice_index}
use Rattle.std.specs.Int.{from_be_bytes, w16, w32}
use Rattle.std.proofs.lemmas.List.{drop-take}
use Rattle.ipx_wire.specs.Address.{address_at}
use Rattle.ipx_wire.specs.Header.{header_at}
use Rattle.ipx_wire.specs.Name.{name_of}
use Rattle.ipx_wire.specs.Numbers.{local_network}
use Rattle.ipx_wire.specs.Piece.{piece}
use Rattle.ipx_wire.specs.SapEntries.{sap_entry_at}
use Rattle.ipx_wire.specs.declared.network.Network.{Network}
use Rattle.ipx_wire.specs.declared.sap_entries.SapEntry.{SapEntry}
use Rattle.ipx_wire.proofs.Pieces.{byte_at}
use Rattle.ipx_router.specs.Port.{Port}
use Rattle.ipx_edge.specs.Laws.{own_service}
use Rattle.ipx_edge.proofs.Pieces.{piece_within, piece_behind}

-- ---- headers

-- the same fields, but for the checksum and the source's network
pub record SameFields (a b : List ℕ) : Type 0 where
  pub count : piece a 2 2 ≡ piece b 2 2
  pub control : slice_index a 4 ≡ slice_index b 4
  pub kind : slice_index a 5 ≡ slice_index b 5
  pub to_network : piece a 6 4 ≡ piece b 6 4
  pub to_node : piece a 10 6 ≡ piece b 10 6
  pub to_socket : piece a 16 2 ≡ piece b 16 2
  pub from_node : piece a 22 6 ≡ piece b 22 6
  pub from_socket : piece a 28 2 ≡ piece b 28 2

pub same_header : (a b : List ℕ) (network : Network) → SameFields a b → from_be_bytes w32 (piece a 18 4) ≡ network.0
    → header_at a ≡ record (header_at b) { checksum = (header_at a).checksum; source = record (header_at b).source { network = network } }
unfolding header_at address_at
same_header a b network same number = grind arith

pub same_byte : (a b : List ℕ) (place : ℕ) → place < length a → place < length b → piece a place 1 ≡ piece b place 1 → slice_index a place ≡ slice_index b place
same_byte a b place one other same = ap (λ (l : List ℕ). get_or l 0 0) (byte_at a place one ∙ same ∙ sym (byte_at b place other))

pub from_network : (bytes : List ℕ) → (header_at bytes).source.network.0 ≡ from_be_bytes w32 (piece bytes 18 4)
unfolding header_at address_at
from_network bytes = refl

pub checksum_is : (bytes : List ℕ) → (header_at bytes).checksum ≡ from_be_bytes w16 (piece bytes 0 2)
unfolding header_at
checksum_is bytes = refl

-- ---- data

-- the data of a packet are a piece of its bytes
pub payload_piece : (bytes : List ℕ) (n : ℕ) → 30 ≤ n → drop 30 (take n bytes) ≡ piece bytes 30 (n - 30)
payload_piece bytes n long =
    let whole : n ≡ 30 + (n - 30) = omega (arith, long) in
    ap (λ (m : ℕ). drop 30 (take m bytes)) whole ∙ drop-take 30 (n - 30) bytes

-- a piece of the data behind so many bytes is one of the packet
pub data_piece : (bytes : List ℕ) (n start place count : ℕ) → 32 + start + place + count ≤ n
    → piece (drop start (drop 2 (drop 30 (take n bytes)))) place count ≡ piece bytes (32 + start + place) count
data_piece bytes n start place count fits =
    let order : 30 + (2 + (start + place)) ≡ 32 + start + place = omega arith in
    piece_behind (drop 2 (drop 30 (take n bytes))) start place count
    ∙ piece_behind (drop 30 (take n bytes)) 2 (start + place) count
    ∙ piece_behind (take n bytes) 30 (2 + (start + place)) count
    ∙ ap (λ (m : ℕ). piece (take n bytes) m count) order
    ∙ piece_within bytes n (32 + start + place) count fits

-- ---- services

-- the test of a service
abbrev pub is_own : List ℕ → Bool
is_own bytes = (from_be_bytes w32 (piece bytes 50 4) == local_network) && nat_lt (from_be_bytes w16 (piece bytes 62 2)) 2

-- the same fields, but for the network, which is the port's where the test says so
pub record SameService (port : Port) (a b : List ℕ) : Type 0 where
  pub kind : piece a 0 2 ≡ piece b 0 2
  pub name : piece a 2 48 ≡ piece b 2 48
  pub node : piece a 54 6 ≡ piece b 54 6
  pub socket : piece a 60 2 ≡ piece b 60 2
  pub hops : piece a 62 2 ≡ piece b 62 2
  pub number : from_be_bytes w32 (piece a 50 4) ≡ (if is_own b then port.network.0 else from_be_bytes w32 (piece b 50 4))

-- an entry of its parts
abbrev pub parts : ℕ → List ℕ → ℕ → List ℕ → ℕ → ℕ → SapEntry
parts kind field number node socket hops = record {
  kind = kind;
  name = name_of field;
  address = record { network = record { 0 = number }; node = record { 0 = node }; socket = record { 0 = socket } };
  hops = hops;
}

by_test : (t : Bool) (network : Network) (kind : ℕ) (field : List ℕ) (number : ℕ) (node : List ℕ) (socket hops : ℕ)
    → parts kind field (if t then network.0 else number) node socket hops
    ≡ (if t then record (parts kind field number node socket hops) { address = record (parts kind field number node socket hops).address { network = network } }
    else parts kind field number node socket hops)
by_test true network kind field number node socket hops = refl
by_test false network kind field number node socket hops = refl

pub same_service : (port : Port) (a b : List ℕ) → SameService port a b → sap_entry_at a ≡ own_service port (sap_entry_at b)
unfolding sap_entry_at address_at
same_service port a b same =
    ap (λ (l : List ℕ). parts (from_be_bytes w16 l) (piece a 2 48) (from_be_bytes w32 (piece a 50 4)) (piece a 54 6) (from_be_bytes w16 (piece a 60 2)) (from_be_bytes w16 (piece a 62 2))) same.kind
    ∙ ap (λ (l : List ℕ). parts (from_be_bytes w16 (piece b 0 2)) l (from_be_bytes w32 (piece a 50 4)) (piece a 54 6) (from_be_bytes w16 (piece a 60 2)) (from_be_bytes w16 (piece a 62 2))) same.name
    ∙ ap (λ (n : ℕ). parts (from_be_bytes w16 (piece b 0 2)) (piece b 2 48) n (piece a 54 6) (from_be_bytes w16 (piece a 60 2)) (from_be_bytes w16 (piece a 62 2))) same.number
    ∙ ap (λ (l : List ℕ). parts (from_be_bytes w16 (piece b 0 2)) (piece b 2 48) (if is_own b then port.network.0 else from_be_bytes w32 (piece b 50 4)) l (from_be_bytes w16 (piece a 60 2)) (from_be_bytes w16 (piece a 62 2))) same.node
    ∙ ap (λ (l : List ℕ). parts (from_be_bytes w16 (piece b 0 2)) (piece b 2 48) (if is_own b then port.network.0 else from_be_bytes w32 (piece b 50 4)) (piece b 54 6) (from_be_bytes w16 l) (from_be_bytes w16 (piece a 62 2))) same.socket
    ∙ ap (λ (l : List ℕ). parts (from_be_bytes w16 (piece b 0 2)) (piece b 2 48) (if is_own b then port.network.0 else from_be_bytes w32 (piece b 50 4)) (piece b 54 6) (from_be_bytes w16 (piece b 60 2)) (from_be_bytes w16 l)) same.hops
    ∙ by_test (is_own b) port.network (from_be_bytes w16 (piece b 0 2)) (piece b 2 48) (from_be_bytes w32 (piece b 50 4)) (piece b 54 6) (from_be_bytes w16 (piece b 60 2)) (from_be_bytes w16 (piece b 62 2))

-- ---- headers of other lengths

pub record SameAddresses (a b : List ℕ) : Type 0 where
  pub control : slice_index a 4 ≡ slice_index b 4
  pub kind : slice_index a 5 ≡ slice_index b 5
  pub to_network : piece a 6 4 ≡ piece b 6 4
  pub to_node : piece a 10 6 ≡ piece b 10 6
  pub to_socket : piece a 16 2 ≡ piece b 16 2
  pub from_network : piece a 18 4 ≡ piece b 18 4
  pub from_node : piece a 22 6 ≡ piece b 22 6
  pub from_socket : piece a 28 2 ≡ piece b 28 2

pub same_but_length : (a b : List ℕ) → SameAddresses a b
    → header_at a ≡ record (header_at b) { checksum = (header_at a).checksum; length = (header_at a).length }
unfolding header_at address_at
same_but_length a b same = grind arith

pub same_entry : (a b : List ℕ) → ((i n : ℕ) → i + n ≤ 64 → piece a i n ≡ piece b i n) → sap_entry_at a ≡ sap_entry_at b
unfolding sap_entry_at address_at
same_entry a b same =
    ap (λ (l : List ℕ). parts (from_be_bytes w16 l) (piece a 2 48) (from_be_bytes w32 (piece a 50 4)) (piece a 54 6) (from_be_bytes w16 (piece a 60 2)) (from_be_bytes w16 (piece a 62 2))) (same 0 2 (omega arith))
    ∙ ap (λ (l : List ℕ). parts (from_be_bytes w16 (piece b 0 2)) l (from_be_bytes w32 (piece a 50 4)) (piece a 54 6) (from_be_bytes w16 (piece a 60 2)) (from_be_bytes w16 (piece a 62 2))) (same 2 48 (omega arith))
    ∙ ap (λ (l : List ℕ). parts (from_be_bytes w16 (piece b 0 2)) (piece b 2 48) (from_be_bytes w32 l) (piece a 54 6) (from_be_bytes w16 (piece a 60 2)) (from_be_bytes w16 (piece a 62 2))) (same 50 4 (omega arith))
    ∙ ap (λ (l : List ℕ). parts (from_be_bytes w16 (piece b 0 2)) (piece b 2 48) (from_be_bytes w32 (piece b 50 4)) l (from_be_bytes w16 (piece a 60 2)) (from_be_bytes w16 (piece a 62 2))) (same 54 6 (omega arith))
    ∙ ap (λ (l : List ℕ). parts (from_be_bytes w16 (piece b 0 2)) (piece b 2 48) (from_be_bytes w32 (piece b 50 4)) (piece b 54 6) (from_be_bytes w16 l) (from_be_bytes w16 (piece a 62 2))) (same 60 2 (omega arith))
    ∙ ap (λ (l : List ℕ). parts (from_be_bytes w16 (piece b 0 2)) (piece b 2 48) (from_be_bytes w32 (piece b 50 4)) (piece b 54 6) (from_be_bytes w16 (piece b 60 2)) (from_be_bytes w16 l)) (same 62 2 (omega arith))
