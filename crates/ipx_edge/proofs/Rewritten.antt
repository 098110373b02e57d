-- A packet with other entries of the same size in the place of its own.
use Rattle.std.proofs.Common.{◌≡◌, ◌∙◌, refl, sym, subst, ap, ap₂, arith, ℕ, ◌+◌, ◌-◌, ◌*◌, ◌/◌, ◌^◌, ◌<◌, ◌≤◌, List, [], ◌∷◌, ◌++◌, length, take, drop, append-nil, length-append, length-take-le, Ok}
use Rattle.std.specs.Int.{to_be_bytes, from_be_bytes, w16}
use Rattle.std.specs.List.{concat, flat_map, AllByRecursion}
use Rattle.std.proofs.lemmas.List.{take_at, drop_at, drop-drop, drop-take, drop-append-le, take_all}
use Rattle.std.proofs.lemmas.List.Concat.{concat_is}
use Rattle.std.proofs.lemmas.Nat.{from_be_bytes-to_be_bytes_2}
use Rattle.std.proofs.Math.Nat.{mul-suc}
use Rattle.ipx_wire.specs.Header.{length_field}
use Rattle.ipx_wire.specs.Items.{items}
use Rattle.ipx_wire.specs.Numbers.{no_checksum}
use Rattle.ipx_wire.specs.Packet.{Parts, packet_of}
use Rattle.ipx_wire.specs.Piece.{piece}
use Rattle.ipx_wire.specs.Rip.{operation_field}
use Rattle.ipx_wire.proofs.Items.{items_again}
use Rattle.ipx_edge.specs.Places.{with_at}
use Rattle.ipx_edge.specs.Filtered.{pieces, with_entries}
use Rattle.ipx_edge.specs.declared.listing.Listed.{Listed}
use Rattle.ipx_edge.specs.declared.listing.Listed.TheVariants.{Routes, Services}
use Rattle.ipx_edge.specs.inside.Verdict.{size_of}
use Rattle.ipx_edge.proofs.Headers.{SameAddresses, same_but_length, same_byte, checksum_is}
use Rattle.ipx_edge.proofs.Packets.{parts_at, reads, is_read, has_room}
use Rattle.ipx_edge.proofs.Pieces.{piece_within, length_with, back_with, behind_with, piece_with}

-- ---- entries one behind another

pub length-concat : (size : ℕ) (es : List (List ℕ)) → AllByRecursion (λ e. length e ≡ size) es → length (concat es) ≡ size * length es
length-concat size [] all = (let none : 0 ≡ size * 0 = omega arith in none)
length-concat size (e ∷ es) all = omega (arith, length-append e (concat es), all.0, length-concat size es all.1, mul-suc size (length es))

as_many : (listed : Listed) (n : ℕ) → (2 + size_of listed * n - 2) / size_of listed ≡ n
as_many Routes n = omega arith
as_many Services n = omega arith

module _ (listed : Listed) (es : List (List ℕ)) (all : AllByRecursion (λ e. length e ≡ size_of listed) es) (front : List ℕ) (two : length front ≡ 2) where
  pub length_data : length (front ++ concat es) ≡ 2 + size_of listed * length es
  length_data = length-append front (concat es) ∙ ap₂ (λ (a b : ℕ). a + b) two (length-concat (size_of listed) es all)

  pub count_data : (length (front ++ concat es) - 2) / size_of listed ≡ length es
  count_data = ap (λ (m : ℕ). (m - 2) / size_of listed) length_data ∙ as_many listed (length es)

  pub behind_data : drop 2 (front ++ concat es) ≡ concat es
  behind_data = drop_at front (concat es) 2 two

  pub pieces_data : pieces (size_of listed) (front ++ concat es) ≡ es
  pieces_data =
      let size = size_of listed in
      ap (λ (m : ℕ). items (take size) size m (drop 2 (front ++ concat es))) count_data
      ∙ ap (λ (l : List ℕ). items (take size) size (length es) l)
      (behind_data ∙ concat_is es ∙ sym (append-nil (flat_map (λ (e : List ℕ). e) es)))
      ∙ items_again (take size) (λ (e : List ℕ). e) (λ (e : List ℕ). length e ≡ size) size (λ e h. h) (λ e further h. take_at e further size h) es [] all

  pub operation_data : (payload : List ℕ) → front ≡ take 2 payload → operation_field (front ++ concat es) ≡ operation_field payload
  operation_data payload is = ap (from_be_bytes w16) (take_at front (concat es) 2 two ∙ is)

-- ---- the packet

module _ (bytes : List ℕ) (p : Parts) (is : packet_of bytes ≡ Ok p) (es : List (List ℕ)) (operation : 2 ≤ length p.payload)
    (small : 32 + length (concat es) < 2 ^ 16) where
  abbrev base : List ℕ
  base = take 32 bytes ++ concat es

  abbrev total : ℕ
  total = 32 + length (concat es)

  abbrev counted : List ℕ
  counted = with_at 2 (to_be_bytes w16 total) base

  abbrev pub rewritten : List ℕ
  rewritten = with_entries es bytes

  long : 32 ≤ length bytes
  long = omega (arith, has_room bytes p is, operation)

  length_front : length (take 32 bytes) ≡ 32
  length_front = length-take-le 32 bytes long

  length_base : length base ≡ total
  length_base = length-append (take 32 bytes) (concat es) ∙ ap (λ (m : ℕ). m + length (concat es)) length_front

  room_counted : 2 + 2 ≤ length base
  room_counted = omega (arith, length_base)

  length_counted : length counted ≡ length base
  length_counted = length_with 2 (to_be_bytes w16 total) base room_counted

  room_none : 0 + 2 ≤ length counted
  room_none = omega (arith, length_counted, room_counted)

  length_rewritten : length rewritten ≡ total
  length_rewritten = length_with 0 (to_be_bytes w16 no_checksum) counted room_none ∙ length_counted ∙ length_base

  field_rewritten : length_field rewritten ≡ total
  field_rewritten =
      ap (from_be_bytes w16)
      (behind_with 0 (to_be_bytes w16 no_checksum) counted room_none 2 2 (omega arith) ∙ piece_with 2 (to_be_bytes w16 total) base room_counted 2 refl)
      ∙ from_be_bytes-to_be_bytes_2 total small

  behind_length : (i n : ℕ) → 4 ≤ i → piece rewritten i n ≡ piece base i n
  behind_length i n far =
      behind_with 0 (to_be_bytes w16 no_checksum) counted room_none i n (omega (arith, far)) ∙ behind_with 2 (to_be_bytes w16 total) base room_counted i n far

  in_front : (i n : ℕ) → 4 ≤ i → i + n ≤ 32 → piece rewritten i n ≡ piece bytes i n
  in_front i n far near =
      behind_length i n far
      ∙ sym (piece_within base 32 i n near)
      ∙ ap (λ (l : List ℕ). piece l i n) (take_at (take 32 bytes) (concat es) 32 length_front)
      ∙ piece_within bytes 32 i n near

  abbrev pub again : Parts
  again = parts_at rewritten total

  pub reads_again : packet_of rewritten ≡ Ok again
  reads_again = is_read rewritten total field_rewritten (omega arith) (omega (arith, length_rewritten))

  same_addresses : SameAddresses rewritten bytes
  same_addresses = record {
    control = same_byte rewritten bytes 4 (omega (arith, length_rewritten)) (omega (arith, long)) (in_front 4 1 (omega arith) (omega arith));
    kind = same_byte rewritten bytes 5 (omega (arith, length_rewritten)) (omega (arith, long)) (in_front 5 1 (omega arith) (omega arith));
    to_network = in_front 6 4 (omega arith) (omega arith);
    to_node = in_front 10 6 (omega arith) (omega arith);
    to_socket = in_front 16 2 (omega arith) (omega arith);
    from_network = in_front 18 4 (omega arith) (omega arith);
    from_node = in_front 22 6 (omega arith) (omega arith);
    from_socket = in_front 28 2 (omega arith) (omega arith);
  }

  pub header_again : again.header ≡ record p.header { checksum = again.header.checksum; length = again.header.length }
  header_again =
      subst (λ (r : Parts). again.header ≡ record r.header { checksum = again.header.checksum; length = again.header.length }) (sym (reads bytes p is).parts)
      (same_but_length rewritten bytes same_addresses)

  pub no_checksum_again : again.header.checksum ≡ no_checksum
  no_checksum_again =
      checksum_is rewritten
      ∙ ap (from_be_bytes w16) (piece_with 0 (to_be_bytes w16 no_checksum) counted room_none 2 refl)
      ∙ from_be_bytes-to_be_bytes_2 no_checksum (omega arith)

  abbrev pub front : List ℕ
  front = take 2 p.payload

  pub two : length front ≡ 2
  two = length-take-le 2 p.payload operation

  front_is : take 2 (drop 30 bytes) ≡ front
  front_is =
      let read = reads bytes p is in
      sym (piece_within bytes (length_field bytes) 30 2 (omega (arith, read.size, operation)))
      ∙ ap (λ (r : Parts). take 2 r.payload) (sym read.parts)

  pub payload_again : again.payload ≡ front ++ concat es
  payload_again =
      ap (drop 30) (take_all total rewritten (omega (arith, length_rewritten)))
      ∙ sym (drop-drop 28 2 rewritten)
      ∙ ap (drop 28) (back_with 0 (to_be_bytes w16 no_checksum) counted room_none)
      ∙ drop-drop 28 2 counted
      ∙ sym (drop-drop 26 4 counted)
      ∙ ap (drop 26) (back_with 2 (to_be_bytes w16 total) base room_counted)
      ∙ drop-drop 26 4 base
      ∙ drop-append-le 30 (take 32 bytes) (concat es) (omega (arith, length_front))
      ∙ ap (λ (l : List ℕ). l ++ concat es) (drop-take 30 2 bytes ∙ front_is)
