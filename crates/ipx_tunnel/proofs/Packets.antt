-- Packets that are read from parts of others.
use Rattle.std.proofs.Common.{◌≡◌, ◌∙◌, refl, sym, ap, ap₂, arith, ℕ, ◌+◌, ◌-◌, ◌≤◌, Bool, false, if◌then◌else◌, nat_lt, inl, inr, List, length, take, drop, get_or-take, length-take-le, Ok, Err}
use Rattle.std.specs.Prelude.{slice_index}
use Rattle.std.specs.Int.{from_be_bytes, w16, w32}
use Rattle.std.proofs.lemmas.Bool.{cases_lt, lt-ltb, le-ltb, false≢true}
use Rattle.std.proofs.lemmas.List.{drop-take, take-take}
use Rattle.ipx_wire.specs.Address.{address_at}
use Rattle.ipx_wire.specs.Header.{header_at, length_field}
use Rattle.ipx_wire.specs.Packet.{Parts, packet_of}
use Rattle.ipx_wire.specs.Piece.{piece}
use Rattle.ipx_wire.specs.declared.header.Header.{Header}
use Rattle.ipx_wire.specs.declared.network.Network.{Network}
use Rattle.ipx_wire.specs.declared.packet.PacketFault.TheVariants.{Short, LengthSmall, LengthBeyond}

-- ---- what is read

read_by : (short small beyond : Bool) (p packet : Parts) → (if short then Err Short else if small then Err LengthSmall else if beyond then Err LengthBeyond else Ok p) ≡ Ok packet
    → (short ≡ false) × (small ≡ false) × (beyond ≡ false) × (packet ≡ p)
read_by short small beyond p packet is = grind arith

read_all : (short small beyond : Bool) (p : Parts) → short ≡ false → small ≡ false → beyond ≡ false
    → (if short then Err Short else if small then Err LengthSmall else if beyond then Err LengthBeyond else Ok p) ≡ Ok p
read_all short small beyond p one two three = rw (one, two, three) refl

not_less : (m n : ℕ) → nat_lt m n ≡ false → n ≤ m
not_less m n is = elim (cases_lt m n) [ inl less ↦ absurd (false≢true (sym is ∙ lt-ltb m n less)) | inr other ↦ other ]

abbrev pub parts_at : List ℕ → ℕ → Parts
parts_at bytes n = record { header = header_at bytes; payload = drop 30 (take n bytes) }

-- a packet has its length, which is that of a header or more, and no more than there are bytes
pub record Reads (bytes : List ℕ) (packet : Parts) : Type 0 where
  pub long : 30 ≤ length_field bytes
  pub within : length_field bytes ≤ length bytes
  pub parts : packet ≡ parts_at bytes (length_field bytes)

pub reads : (bytes : List ℕ) (packet : Parts) → packet_of bytes ≡ Ok packet → Reads bytes packet
unfolding packet_of
reads bytes packet is = grind (arith, read_by, not_less)

pub is_read : (bytes : List ℕ) (n : ℕ) → length_field bytes ≡ n → 30 ≤ n → n ≤ length bytes → packet_of bytes ≡ Ok (parts_at bytes n)
unfolding packet_of
is_read bytes n is long within = grind (arith, read_all, le-ltb)

pub length_is : (bytes : List ℕ) → (header_at bytes).length ≡ length_field bytes
unfolding header_at
length_is bytes = refl

-- ---- headers

-- bytes that have another header's fields, but for the destination's network
pub record SameFields (a b : List ℕ) : Type 0 where
  pub checksum : piece a 0 2 ≡ piece b 0 2
  pub count : piece a 2 2 ≡ piece b 2 2
  pub control : slice_index a 4 ≡ slice_index b 4
  pub kind : slice_index a 5 ≡ slice_index b 5
  pub to_node : piece a 10 6 ≡ piece b 10 6
  pub to_socket : piece a 16 2 ≡ piece b 16 2
  pub from_network : piece a 18 4 ≡ piece b 18 4
  pub from_node : piece a 22 6 ≡ piece b 22 6
  pub from_socket : piece a 28 2 ≡ piece b 28 2

pub same_header : (a b : List ℕ) (to : Network) → SameFields a b → from_be_bytes w32 (piece a 6 4) ≡ to.0
    → header_at a ≡ record (header_at b) { destination = record (header_at b).destination { network = to } }
unfolding header_at address_at
same_header a b to same network = grind arith

pub to_network : (bytes : List ℕ) → (header_at bytes).destination.network.0 ≡ from_be_bytes w32 (piece bytes 6 4)
unfolding header_at address_at
to_network bytes = refl

pub from_network : (bytes : List ℕ) → (header_at bytes).source.network.0 ≡ from_be_bytes w32 (piece bytes 18 4)
unfolding header_at address_at
from_network bytes = refl

-- ---- a packet without what lies behind it

pub piece_within : (bytes : List ℕ) (n place count : ℕ) → place + count ≤ n → piece (take n bytes) place count ≡ piece bytes place count
piece_within bytes n place count fits =
    let whole : n ≡ place + (n - place) = omega (arith, fits) in
    ap (λ (m : ℕ). take count (drop place (take m bytes))) whole
    ∙ ap (take count) (drop-take place (n - place) bytes)
    ∙ take-take count (n - place) (drop place bytes) (omega (arith, fits))

front_fields : (bytes : List ℕ) (n : ℕ) → 30 ≤ n → SameFields (take n bytes) bytes
front_fields bytes n long = record {
  checksum = piece_within bytes n 0 2 (omega (arith, long));
  count = piece_within bytes n 2 2 (omega (arith, long));
  control = get_or-take n bytes 4 0 (omega (arith, long));
  kind = get_or-take n bytes 5 0 (omega (arith, long));
  to_node = piece_within bytes n 10 6 (omega (arith, long));
  to_socket = piece_within bytes n 16 2 (omega (arith, long));
  from_network = piece_within bytes n 18 4 (omega (arith, long));
  from_node = piece_within bytes n 22 6 (omega (arith, long));
  from_socket = piece_within bytes n 28 2 (omega (arith, long));
}

pub front_reads : (bytes : List ℕ) (packet : Parts) → packet_of bytes ≡ Ok packet → packet_of (take packet.header.length bytes) ≡ Ok packet
front_reads bytes packet is =
    let read = reads bytes packet is in
    let n = length_field bytes in
    let counted : packet.header.length ≡ n = ap (λ (p : Parts). p.header.length) read.parts ∙ length_is bytes in
    let front = take n bytes in
    let same = front_fields bytes n read.long in
    let whole : length front ≡ n = length-take-le n bytes read.within in
    let header : header_at front ≡ header_at bytes =
    same_header front bytes (header_at bytes).destination.network same
    (ap (from_be_bytes w32) (piece_within bytes n 6 4 (omega (arith, read.long))) ∙ sym (to_network bytes)) in
    ap (λ (m : ℕ). packet_of (take m bytes)) counted
    ∙ is_read front n (ap (from_be_bytes w16) same.count) read.long (omega (arith, whole))
    ∙ ap₂ (λ (h : Header) (l : List ℕ). Ok (let p : Parts = record { header = h; payload = drop 30 l } in p)) header (take-take n n bytes (omega arith))
    ∙ ap (λ (p : Parts). Ok p) (sym read.parts)
