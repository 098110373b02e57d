-- A frame that was written is read again: its kind, and the packet with its padding.
use Rattle.std.proofs.Common.{◌≡◌, ℕ, ◌<◌, ◌≤◌, true, List, [], ◌∷◌, ◌++◌, length, drop, ap, subst, sym, ◌∙◌, arith, Some, length-append, append_assoc, append-nil, rules}
use Rattle.std.proofs.lemmas.Nat.{from_be_bytes-to_be_bytes_2}
use Rattle.std.specs.Int.{from_be_bytes, to_be_bytes, w16}
use Rattle.ipx_capture.specs.Frame.{Kind, EthernetII, Raw, Llc, Snap, IsCounted, IsFrame, frame_of}
use Rattle.ipx_capture.specs.Written.{front_of, may_carry, carried, padding, written, most_carried}
use Rattle.ipx_capture.proofs.Frames.{beginning, frame_only}

twelve_of : (to from : List ℕ) → length to ≡ 6 → length from ≡ 6 → length (to ++ from) ≡ 12
twelve_of to from six six2 = omega (arith, length-append to from, six, six2)

-- a length that is small enough is no type
small_field : (n : ℕ) → n ≤ 1500 → from_be_bytes w16 (to_be_bytes w16 n) < 0x600
small_field n few = subst (λ (k : ℕ). k < 0x600) (sym (from_be_bytes-to_be_bytes_2 n (omega arith))) (omega arith)

counted : (front to from packet pad : List ℕ) (n : ℕ) → length to ≡ 6 → length from ≡ 6 → n ≤ 1500
    → IsCounted front (to ++ from ++ to_be_bytes w16 n ++ front ++ packet ++ pad) (packet ++ pad)
counted front to from packet pad n six six2 few = search (rules, twelve_of, small_field, append_assoc)

is_frame : (kind : Kind) (to from packet : List ℕ) → length to ≡ 6 → length from ≡ 6 → may_carry kind packet ≡ true
    → carried kind packet ≤ most_carried → IsFrame (written kind to from packet) kind (packet ++ padding kind packet)
unfolding written
is_frame EthernetII to from packet six six2 may few = record {
  addresses = to ++ from;
  twelve = twelve_of to from six six2;
  layout = append_assoc (to ++ from ++ (0x81 ∷ 0x37 ∷ []) ++ []) packet (padding EthernetII packet)
      ∙ ap (λ (l : List ℕ). l ++ (packet ++ padding EthernetII packet)) (append-nil (to ++ from ++ (0x81 ∷ 0x37 ∷ [])));
}
is_frame Raw to from packet six six2 may few = (
  counted [] to from packet (padding Raw packet) (carried Raw packet) six six2 few,
  (drop 2 packet ++ padding Raw packet, ap (λ (l : List ℕ). l ++ padding Raw packet) (beginning (0xFF ∷ 0xFF ∷ []) packet may)),
)
is_frame Llc to from packet six six2 may few =
    counted (front_of Llc) to from packet (padding Llc packet) (carried Llc packet) six six2 few
is_frame Snap to from packet six six2 may few =
    counted (front_of Snap) to from packet (padding Snap packet) (carried Snap packet) six six2 few

pub read_again : (kind : Kind) (to from packet : List ℕ) → length to ≡ 6 → length from ≡ 6 → may_carry kind packet ≡ true
    → carried kind packet ≤ most_carried → frame_of (written kind to from packet) ≡ Some (kind, packet ++ padding kind packet)
read_again kind to from packet six six2 may few = search (rules, frame_only, is_frame)
