-- What is read of a packet, and from which bytes.
use Rattle.std.proofs.Common.{◌≡◌, refl, sym, subst, arith, ℕ, ◌+◌, ◌≤◌, Bool, false, if◌then◌else◌, nat_lt, List, length, take, drop, length-drop, length-take-le, Ok, Err}
use Rattle.std.proofs.lemmas.Bool.{le-ltb}
use Rattle.ipx_wire.specs.Header.{header_at, length_field}
use Rattle.ipx_wire.specs.Packet.{Parts, packet_of}
use Rattle.ipx_wire.specs.declared.packet.PacketFault.TheVariants.{Short, LengthSmall, LengthBeyond}
use Rattle.ipx_edge.proofs.Advertised.{not_less}

read_by : (short small beyond : Bool) (p packet : Parts) → (if short then Err Short else if small then Err LengthSmall else if beyond then Err LengthBeyond else Ok p) ≡ Ok packet
    → (short ≡ false) × (small ≡ false) × (beyond ≡ false) × (packet ≡ p)
read_by short small beyond p packet is = grind arith

read_all : (short small beyond : Bool) (p : Parts) → short ≡ false → small ≡ false → beyond ≡ false
    → (if short then Err Short else if small then Err LengthSmall else if beyond then Err LengthBeyond else Ok p) ≡ Ok p
read_all short small beyond p one two three = rw (one, two, three) refl

abbrev pub parts_at : List ℕ → ℕ → Parts
parts_at bytes n = record { header = header_at bytes; payload = drop 30 (take n bytes) }

-- its length is that of a header or more, and no more than there are bytes
pub record Reads (bytes : List ℕ) (packet : Parts) : Type 0 where
  pub long : 30 ≤ length_field bytes
  pub within : length_field bytes ≤ length bytes
  pub parts : packet ≡ parts_at bytes (length_field bytes)
  pub size : 30 + length packet.payload ≡ length_field bytes

reads_at : (bytes : List ℕ) → 30 ≤ length_field bytes → length_field bytes ≤ length bytes → Reads bytes (parts_at bytes (length_field bytes))
reads_at bytes long within =
    let n = length_field bytes in
    record {
      long = long;
      within = within;
      parts = refl;
      size = omega (arith, length-drop 30 (take n bytes), length-take-le n bytes within);
    }

pub reads : (bytes : List ℕ) (packet : Parts) → packet_of bytes ≡ Ok packet → Reads bytes packet
unfolding packet_of
reads bytes packet is =
    let n = length_field bytes in
    let by = read_by (nat_lt (length bytes) 30) (nat_lt n 30) (nat_lt (length bytes) n) (parts_at bytes n) packet is in
    subst (Reads bytes) (sym by.3) (reads_at bytes (not_less n 30 by.1) (not_less (length bytes) n by.2))

pub is_read : (bytes : List ℕ) (n : ℕ) → length_field bytes ≡ n → 30 ≤ n → n ≤ length bytes → packet_of bytes ≡ Ok (parts_at bytes n)
unfolding packet_of
is_read bytes n is long within = grind (arith, read_all, le-ltb)

-- a packet has room for its header and its data
pub has_room : (bytes : List ℕ) (packet : Parts) → packet_of bytes ≡ Ok packet → 30 + length packet.payload ≤ length bytes
has_room bytes packet is =
    let read = reads bytes packet is in
    omega (arith, read.within, read.size)
