-- What a copy for another network says.
use Rattle.std.proofs.Common.{◌≡◌, ◌≢◌, ◌∙◌, refl, sym, ap, ap₂, arith, ℕ, ◌+◌, ◌-◌, ◌<◌, ◌≤◌, ◌==◌, Bool, true, false, ◌&&◌, inl, inr, List, ◌++◌, length, take, drop, length-append, length-drop, length-take-le, Result, Ok, Err, rules}
use Rattle.std.specs.Prelude.{slice_index}
use Rattle.std.specs.Int.{to_be_bytes, from_be_bytes, w16, w32}
use Rattle.std.proofs.lemmas.Bool.{cases_eq, ne_eqb, false≢true}
use Rattle.std.proofs.lemmas.List.{drop_at, drop-drop, drop-take, append_assoc, drop-append-le, take-append-le}
use Rattle.ipx_wire.specs.Header.{length_field}
use Rattle.ipx_wire.specs.Packet.{Parts, packet_of}
use Rattle.ipx_wire.specs.Piece.{piece}
use Rattle.ipx_wire.specs.declared.header.Header.{Header}
use Rattle.ipx_wire.specs.declared.network.Network.{Network}
use Rattle.ipx_wire.specs.declared.packet.PacketFault.{PacketFault}
use Rattle.ipx_wire.specs.declared.socket.Socket.{Socket}
use Rattle.ipx_tunnel.specs.Extend.{network_place, network_end, is_extended_by, is_extended_in, is_extended, extended, with_network}
use Rattle.ipx_tunnel.specs.Laws.{IsOrdinary}
use Rattle.ipx_tunnel.proofs.Packets.{SameFields, reads, is_read, same_header, piece_within}

-- ---- pieces of the copy

-- over any list of four bytes in place of the network
module _ (bytes middle : List ℕ) (four : length middle ≡ 4) (long : network_end ≤ length bytes) where
  abbrev copy : List ℕ
  copy = take network_place bytes ++ middle ++ drop network_end bytes

  in_parts : copy ≡ take 6 bytes ++ (middle ++ drop 10 bytes)
  in_parts = append_assoc (take 6 bytes) middle (drop 10 bytes)

  six : length (take 6 bytes) ≡ 6
  six = length-take-le 6 bytes (omega (arith, long))

  before : (place count : ℕ) → place + count ≤ 6 → piece copy place count ≡ piece bytes place count
  before place count fits =
      let room : count ≤ length (drop place (take 6 bytes)) = omega (arith, length-drop place (take 6 bytes), six, fits) in
      ap (λ (l : List ℕ). piece l place count) in_parts
      ∙ ap (take count) (drop-append-le place (take 6 bytes) (middle ++ drop 10 bytes) (omega (arith, six, fits)))
      ∙ take-append-le count (drop place (take 6 bytes)) (middle ++ drop 10 bytes) room
      ∙ piece_within bytes 6 place count fits

  byte_before : (place : ℕ) → place < 6 → slice_index copy place ≡ slice_index bytes place
  byte_before place fits = grind arith

  rest : drop 10 copy ≡ drop 10 bytes
  rest = drop_at (take 6 bytes ++ middle) (drop 10 bytes) 10 (omega (arith, length-append (take 6 bytes) middle, six, four))

  behind : (further count : ℕ) → piece copy (10 + further) count ≡ piece bytes (10 + further) count
  behind further count =
      ap (take count) (sym (drop-drop further 10 copy) ∙ ap (drop further) rest ∙ drop-drop further 10 bytes)

  length_copy : length copy ≡ length bytes
  length_copy = omega (arith, length-append (take 6 bytes ++ middle) (drop 10 bytes), length-append (take 6 bytes) middle, six, four, length-drop 10 bytes, long)

  fields_copy : SameFields copy bytes
  fields_copy = record {
    checksum = before 0 2 (omega arith);
    count = before 2 2 (omega arith);
    control = byte_before 4 (omega arith);
    kind = byte_before 5 (omega arith);
    to_node = behind 0 6;
    to_socket = behind 6 2;
    from_network = behind 8 4;
    from_node = behind 12 6;
    from_socket = behind 18 2;
  }

  payload_copy : (n : ℕ) → 30 ≤ n → drop 30 (take n copy) ≡ drop 30 (take n bytes)
  payload_copy n enough =
      let whole : n ≡ 30 + (n - 30) = omega (arith, enough) in
      let last : drop 30 copy ≡ drop 30 bytes = sym (drop-drop 20 10 copy) ∙ ap (drop 20) rest ∙ drop-drop 20 10 bytes in
      ap (λ (m : ℕ). drop 30 (take m copy)) whole ∙ drop-take 30 (n - 30) copy ∙ ap (take (n - 30)) last
      ∙ sym (drop-take 30 (n - 30) bytes) ∙ ap (λ (m : ℕ). drop 30 (take m bytes)) (sym whole)

-- the number of the network is read from the copy
number_copy : (to : Network) (bytes : List ℕ) → IsOrdinary to → network_end ≤ length bytes → from_be_bytes w32 (piece (extended to bytes) 6 4) ≡ to.0
number_copy to bytes ordinary long = grind arith

pub copy_reads : (to : Network) (bytes : List ℕ) (packet : Parts) → IsOrdinary to → packet_of bytes ≡ Ok packet → packet_of (extended to bytes) ≡ Ok (with_network to packet)
copy_reads to bytes packet ordinary is =
    let read = reads bytes packet is in
    let n = length_field bytes in
    let number = to_be_bytes w32 to.0 in
    let long : network_end ≤ length bytes = omega (arith, read.long, read.within) in
    let same = fields_copy bytes number refl long in
    let header = same_header (extended to bytes) bytes to same (number_copy to bytes ordinary long) in
    is_read (extended to bytes) n (ap (from_be_bytes w16) same.count) read.long (omega (arith, read.within, length_copy bytes number refl long))
    ∙ ap₂ (λ (h : Header) (l : List ℕ). Ok (let p : Parts = record { header = h; payload = l } in p)) header (payload_copy bytes number refl long n read.long)
    ∙ ap (λ (p : Parts). Ok (with_network to p)) (sym read.parts)

-- ---- tests

number_of : (a b : ℕ) → (a == b) ≡ true → a ≡ b
number_of a b is = elim (cases_eq a b) [ inl e ↦ e | inr other ↦ absurd (false≢true (sym (ne_eqb a b other) ∙ is)) ]

third_holds : (a b c d e : Bool) → (a && b && c && d && e) ≡ true → c ≡ true
third_holds a b c d e is = grind arith

-- ---- copied once

-- the source is a network from which the copy is not taken, or the copy isn't for the network where it is heard
refused : (from to other : Network) (named : List Socket) (h : Header) → h.destination.network.0 ≡ to.0 → h.source.network.0 ≡ from.0
    → IsOrdinary to → from.0 ≢ to.0 → is_extended_by other named h ≡ false
refused from to other named h copied source ordinary different = grind arith

never_again : (from to other : Network) (named : List Socket) (bytes : List ℕ) (packet : Parts) → IsOrdinary to → packet_of bytes ≡ Ok packet
    → packet.header.source.network.0 ≡ from.0 → from.0 ≢ to.0 → is_extended other named (extended to bytes) ≡ false
never_again from to other named bytes packet ordinary is source different = search (rules, copy_reads, refused)

-- what is copied came from the network
came : (from to other : Network) (sockets named : List Socket) (bytes : List ℕ) (r : Result Parts PacketFault) → packet_of bytes ≡ r → is_extended_in from sockets r ≡ true
    → IsOrdinary to → from.0 ≢ to.0 → is_extended other named (extended to bytes) ≡ false
came from to other sockets named bytes (Err fault) read is ordinary different = absurd (false≢true is)
came from to other sockets named bytes (Ok packet) read is ordinary different = search (rules, third_holds, never_again, number_of)

pub copied_once : (from to other : Network) (sockets named : List Socket) (bytes : List ℕ) → is_extended from sockets bytes ≡ true
    → IsOrdinary to → from.0 ≢ to.0 → is_extended other named (extended to bytes) ≡ false
copied_once from to other sockets named bytes is ordinary different = came from to other sockets named bytes (packet_of bytes) refl is ordinary different
