-- Frames as a relation and as a function of the bytes: each answers for the other.
use Rattle.std.proofs.lemmas.Grind.{common_steps}
use Rattle.std.proofs.Common.{◌≡◌, ℕ, ◌<◌, ◌≤◌, true, List, [], ◌∷◌, ◌++◌, length, take, drop, refl, sym, ap, ◌∙◌, arith, inl, inr, Some, IfSome, take-append-drop, take_at, drop_at, length-take-le, length-append, append_assoc, rules}
use Rattle.std.proofs.lemmas.Bool.{lt-ltb, le-ltb, ne_eqb, eq-eqb, cases_lt, cases_eq, cases_Bool}
use Rattle.std.proofs.lemmas.Nat.{be_bytes_2}
use Rattle.std.specs.Int.{from_be_bytes, w16}
use Rattle.ipx_wire.specs.Piece.{piece, IsBytes}
use Rattle.ipx_capture.specs.Frame.{Kind, EthernetII, IsCounted, IsFrame, llc_front, snap_front, begins, by_front, by_field, frame_of}
use Rattle.ipx_capture.proofs.Pieces.{length_piece, are_bytes}

-- addresses, field and rest of bytes that are enough
parts : (b : List ℕ) → b ≡ take 12 b ++ piece b 12 2 ++ drop 14 b
parts b = grind arith

twelve : (b : List ℕ) → 14 ≤ length b → length (take 12 b) ≡ 12
twelve b h = length-take-le 12 b (omega arith)

-- where the field is 8137h, its bytes are these
type_bytes : (b : List ℕ) → IsBytes b → 14 ≤ length b → from_be_bytes w16 (piece b 12 2) ≡ 0x8137 → piece b 12 2 ≡ 0x81 ∷ 0x37 ∷ []
type_bytes b are h is = sym (be_bytes_2 (piece b 12 2) 0x8137 (length_piece b 12 2 (omega arith)) (are_bytes b 12 2 are) (sym is))

typed : (b : List ℕ) → IsBytes b → 14 ≤ length b → from_be_bytes w16 (piece b 12 2) ≡ 0x8137 → IsFrame b EthernetII (drop 14 b)
typed b are h is = grind (arith, common_steps, twelve, parts, type_bytes)

-- bytes that begin so are that and the rest
pub beginning : (front rest : List ℕ) → begins front rest ≡ true → rest ≡ front ++ drop (length front) rest
beginning front rest h = search (rules, take-append-drop)

counted : (b front packet : List ℕ) → 14 ≤ length b → from_be_bytes w16 (piece b 12 2) < 0x600 → drop 14 b ≡ front ++ packet → IsCounted front b packet
counted b front packet h small rest = record {
  addresses = take 12 b;
  field = piece b 12 2;
  twelve = twelve b h;
  two = length_piece b 12 2 (omega arith);
  small = small;
  layout = parts b ∙ ap (λ l. take 12 b ++ piece b 12 2 ++ l) rest ∙ sym (append_assoc (take 12 b ++ piece b 12 2) front packet);
}

front_found : (b : List ℕ) → 14 ≤ length b → from_be_bytes w16 (piece b 12 2) < 0x600 → IfSome (by_front (drop 14 b)) (λ f. IsFrame b f.0 f.1)
front_found b h small =
    let rest = drop 14 b in
    elim (cases_Bool (begins (0xFF ∷ 0xFF ∷ []) rest)) [
      | inl is ↦ rw is (counted b [] rest h small refl, (drop 2 rest, beginning (0xFF ∷ 0xFF ∷ []) rest is))
      | inr other ↦ elim (cases_Bool (begins llc_front rest)) [
        | inl is ↦ rw (other, is) (counted b llc_front (drop 3 rest) h small (beginning llc_front rest is))
        | inr other2 ↦ elim (cases_Bool (begins snap_front rest)) [
          | inl is ↦ rw (other, other2, is) (counted b snap_front (drop 8 rest) h small (beginning snap_front rest is))
          | inr other3 ↦ rw (other, other2, other3) tt
        ]
      ]
    ]

-- what is answered is a frame by the relation
pub frame_found : (b : List ℕ) → IsBytes b → IfSome (frame_of b) (λ f. IsFrame b f.0 f.1)
frame_found b are = grind (arith, common_steps, cases_lt, lt-ltb, cases_eq, le-ltb, eq-eqb, typed, ne_eqb, front_found)

-- the field and the rest of a frame
field_of : (a f rest : List ℕ) → length a ≡ 12 → length f ≡ 2 → piece (a ++ f ++ rest) 12 2 ≡ f
field_of a f rest twelve two = search (rules, append_assoc, drop_at, twelve, take_at)

rest_of : (a f rest : List ℕ) → length a ≡ 12 → length f ≡ 2 → drop 14 (a ++ f ++ rest) ≡ rest
rest_of a f rest twelve two = drop_at (a ++ f) rest 14 (length-append a f ∙ omega arith)

enough_of : (a f rest : List ℕ) → length a ≡ 12 → length f ≡ 2 → 14 ≤ length (a ++ f ++ rest)
enough_of a f rest twelve two = omega (arith, length-append (a ++ f) rest, length-append a f)

by_parts : (a f rest : List ℕ) → length a ≡ 12 → length f ≡ 2 → frame_of (a ++ f ++ rest) ≡ by_field (from_be_bytes w16 f) rest
by_parts a f rest twelve two = search (rules, le-ltb, enough_of, twelve, field_of, rest_of)

by_length : (a f rest : List ℕ) → length a ≡ 12 → length f ≡ 2 → from_be_bytes w16 f < 0x600 → frame_of (a ++ f ++ rest) ≡ by_front rest
by_length a f rest twelve two small = grind (arith, by_parts, twelve, ne_eqb, lt-ltb)

-- each frame by the relation is answered
pub frame_only : (b : List ℕ) (kind : Kind) (packet : List ℕ) → IsFrame b kind packet → frame_of b ≡ Some (kind, packet)
frame_only b kind packet is = grind (arith, by_parts, append_assoc, by_length)
