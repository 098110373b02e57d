use Rattle.std.proofs.Common.{rules}
use Rattle.std.proofs.Common.{append-nil, ◌≡◌, ℕ, ◌+◌, ◌≤◌, ◌<◌, List, [], ◌++◌, length, take, drop, refl, sym, ap, ◌∙◌, arith, subst, append_assoc, length-append, length-drop, length-take, take-take, Ok, Err}
use Rattle.std.proofs.lemmas.List.{take_at, drop_at, take-append-drop}
use Rattle.std.proofs.lemmas.Bool.{lt-ltb, le-ltb}
use Rattle.ipx_wire.specs.Piece.{IsBytes}
use Rattle.ipx_wire.specs.Header.{IsHeader, header_bytes, header_at, length_field}
use Rattle.ipx_wire.specs.inside.Kept.{IsKept}
use Rattle.ipx_wire.specs.Packet.{Parts, IsPacket, packet_of}
use Rattle.ipx_wire.specs.declared.header.Header.{Header}
use Rattle.ipx_wire.specs.declared.packet.PacketFault.TheVariants.{Short, LengthSmall, LengthBeyond}
use Rattle.ipx_wire.proofs.Headers.{length-header_bytes, header_again, header_back, header_ranges}

-- the parts that the fixed places and the length field give
abbrev pub parts_at : List ℕ → Parts
parts_at bytes = record { header = header_at bytes; payload = drop 30 (take (length_field bytes) bytes) }

-- the three comparisons that a packet passes
pub record Counts (bytes : List ℕ) : Type 0 where
  pub enough : 30 ≤ length bytes
  pub long : 30 ≤ length_field bytes
  pub within : length_field bytes ≤ length bytes

field_of_header : (bytes : List ℕ) → (header_at bytes).length ≡ length_field bytes
unfolding header_at
field_of_header bytes = refl

-- what passes the comparisons is a packet
pub is_packet : (bytes : List ℕ) → IsBytes bytes → Counts bytes → IsPacket bytes (parts_at bytes)
is_packet bytes are counts =
    let enough = counts.enough in
    let long = counts.long in
    let within = counts.within in
    let n = length_field bytes in
    let inner : take 30 bytes ≡ take 30 (take n bytes) = sym (take-take 30 n bytes long) in
    let front : header_bytes (header_at bytes) ++ drop 30 (take n bytes) ≡ take n bytes =
    ap (λ (x : List ℕ). x ++ drop 30 (take n bytes)) (header_back bytes are enough ∙ inner) ∙ take-append-drop 30 (take n bytes) in
    record {
      header = header_ranges bytes are enough;
      padding = drop n bytes;
      layout = sym (ap (λ (x : List ℕ). x ++ drop n bytes) front ∙ take-append-drop n bytes);
      counted = field_of_header bytes ∙ (let e : n ≡ 30 + length (drop 30 (take n bytes)) = omega (arith, length-drop 30 (take n bytes), length-take n bytes) in e);
    }

-- a packet's header is what its places say
header_is : (bytes : List ℕ) (p : Parts) → IsPacket bytes p → header_at bytes ≡ p.header
header_is bytes p is = grind (arith, append_assoc, header_again)

-- a packet's length stands in its place
field_is : (bytes : List ℕ) (p : Parts) → IsPacket bytes p → length_field bytes ≡ p.header.length
field_is bytes p is = sym (field_of_header bytes) ∙ ap (λ (h : Header). h.length) (header_is bytes p is)

-- a packet passes the comparisons
pub packet_counts : (bytes : List ℕ) (p : Parts) → IsPacket bytes p → Counts bytes
packet_counts bytes p is =
    let size = length-header_bytes p.header is.header.destination.node is.header.source.node in
    let field = field_is bytes p is in
    let counted = is.counted in
    let all : length bytes ≡ 30 + length p.payload + length is.padding =
    ap length is.layout
    ∙ (let e : length (header_bytes p.header ++ p.payload ++ is.padding) ≡ 30 + length p.payload + length is.padding =
    omega (arith, length-append (header_bytes p.header ++ p.payload) is.padding, length-append (header_bytes p.header) p.payload, size) in e) in
    record { enough = omega (arith, all); long = omega (arith, field, counted); within = omega (arith, field, counted, all) }

-- a packet is what its places say
pub packet_parts : (bytes : List ℕ) (p : Parts) → IsPacket bytes p → parts_at bytes ≡ p
packet_parts bytes p is =
    let size = length-header_bytes p.header is.header.destination.node is.header.source.node in
    let field = field_is bytes p is in
    let front : length (header_bytes p.header ++ p.payload) ≡ length_field bytes =
    length-append (header_bytes p.header) p.payload ∙ ap (λ (k : ℕ). k + length p.payload) size ∙ sym is.counted ∙ sym field in
    let kept : take (length_field bytes) bytes ≡ header_bytes p.header ++ p.payload =
    ap (take (length_field bytes)) is.layout
    ∙ take_at (header_bytes p.header ++ p.payload) is.padding (length_field bytes) front in
    let payload : drop 30 (take (length_field bytes) bytes) ≡ p.payload =
    ap (drop 30) kept ∙ drop_at (header_bytes p.header) p.payload 30 size in
    ap (λ (h : Header). record { header = h; payload = drop 30 (take (length_field bytes) bytes) }) (header_is bytes p is)
    ∙ ap (λ (d : List ℕ). record { header = p.header; payload = d }) payload

-- what passes the comparisons is answered
pub packet_of-counts : (bytes : List ℕ) → Counts bytes → packet_of bytes ≡ Ok (parts_at bytes)
unfolding packet_of
packet_of-counts bytes counts = grind (arith, le-ltb)

-- the three refusals, one for each comparison
pub refused_short : (bytes : List ℕ) → length bytes < 30 → packet_of bytes ≡ Err Short
unfolding packet_of
refused_short bytes short = rw (lt-ltb (length bytes) 30 short) refl

pub refused_small : (bytes : List ℕ) → 30 ≤ length bytes → length_field bytes < 30 → packet_of bytes ≡ Err LengthSmall
unfolding packet_of
refused_small bytes enough small = rw (le-ltb (length bytes) 30 enough, lt-ltb (length_field bytes) 30 small) refl

pub refused_beyond : (bytes : List ℕ) → 30 ≤ length bytes → 30 ≤ length_field bytes → length bytes < length_field bytes → packet_of bytes ≡ Err LengthBeyond
unfolding packet_of
refused_beyond bytes enough long beyond = grind arith

-- the function answers each packet by the relation
pub packet_only : (bytes : List ℕ) (p : Parts) → IsPacket bytes p → packet_of bytes ≡ Ok p
packet_only bytes p is = search (rules, packet_of-counts, packet_counts, packet_parts)

-- what the reader keeps is what the places say
pub kept_parts : (h : Header) (n : ℕ) (bytes : List ℕ) → h ≡ header_at bytes → n ≡ length_field bytes
    → (let p : Parts = record { header = h; payload = drop 30 (take n bytes) } in p) ≡ parts_at bytes
kept_parts h n bytes a b = grind arith

-- what the reader keeps meets the invariant of a packet
pub is_kept : (h : Header) (n : ℕ) (bytes : List ℕ) → IsBytes bytes → Counts bytes → h ≡ header_at bytes → n ≡ length_field bytes
    → IsKept h (take n bytes)
is_kept h n bytes are counts a b =
    let enough = counts.enough in
    let long = counts.long in
    let within = counts.within in
    let far : 30 ≤ n = omega (arith, b) in
    record {
      ranges = subst IsHeader (sym a) (header_ranges bytes are enough);
      front = ap header_bytes a ∙ header_back bytes are enough ∙ sym (take-take 30 n bytes far);
      counted = ap (λ (g : Header). g.length) a ∙ field_of_header bytes ∙ (let e : length_field bytes ≡ length (take n bytes) = omega (arith, b, length-take n bytes) in e);
      enough = omega (arith, b, length-take n bytes);
    }

-- what the reader keeps is a packet without padding
pub kept_is : (h : Header) (whole : List ℕ) → IsKept h whole → IsPacket whole (record { header = h; payload = drop 30 whole })
kept_is h whole kept =
    let counted = kept.counted in
    let enough = kept.enough in
    record {
      header = kept.ranges;
      padding = [];
      layout =
          sym (append-nil (header_bytes h ++ drop 30 whole)
          ∙ ap (λ (x : List ℕ). x ++ drop 30 whole) kept.front
          ∙ take-append-drop 30 whole);
      counted = omega (arith, length-drop 30 whole);
    }

-- a header is read again from the bytes that begin with its own
header_of_front : (h : Header) (whole : List ℕ) → IsHeader h → header_bytes h ≡ take 30 whole → header_at whole ≡ h
header_of_front h whole ranges front =
    sym (ap header_at (ap (λ (x : List ℕ). x ++ drop 30 whole) front ∙ take-append-drop 30 whole)) ∙ header_again h (drop 30 whole) ranges

-- without padding the header is the same
pub front_header : (n : ℕ) (bytes : List ℕ) → IsBytes bytes → Counts bytes → n ≡ length_field bytes → header_at (take n bytes) ≡ header_at bytes
front_header n bytes are counts field =
    let kept = is_kept (header_at bytes) n bytes are counts refl field in
    header_of_front (header_at bytes) (take n bytes) kept.ranges kept.front
