-- A packet's block is read as what it is.
use Rattle.std.proofs.Common.{◌≡◌, ℕ, ◌+◌, ◌-◌, ◌%◌, ◌≤◌, subst, List, [], ◌∷◌, ◌++◌, length, take, drop, slice_get, refl, sym, ap, ◌∙◌, arith, length-append, append_assoc, drop-drop, drop_at, take_at}
use Rattle.ipx_wire.specs.Piece.{piece}
use Rattle.ipx_capture.specs.Order.{u16_in, u32_in}
use Rattle.ipx_capture.specs.declared.order.Order.{Order}
use Rattle.ipx_capture.proofs.First.{piece_append}
use Rattle.ipx_recording.specs.Blocks.{Announces, IsPacket, enhanced, old, simple}
use Rattle.ipx_recording.specs.Chain.{Place}
use Rattle.ipx_recording.specs.Differs.{Keeps, IsSound, packet}
use Rattle.ipx_recording.specs.Met.{length_in, kept_by}
use Rattle.ipx_recording.specs.Recorded.{prepend, packets_from}
use Rattle.ipx_recording.specs.declared.due.Due.TheVariants.{Block}
use Rattle.ipx_recording.specs.declared.interface.Interface.{Interface}
use Rattle.ipx_recording.proofs.Behind.{stands}
use Rattle.ipx_recording.proofs.Refusals.{packet_whole, fields_there}

-- what the fields announce depends on their bytes alone
pub announces_same : (order : Order) (interfaces : List Interface) (a c : List ℕ) (of : Interface) (front kept : ℕ)
    → ((at n : ℕ) → at + n ≤ front + 4 → piece a at n ≡ piece c at n) → Announces order interfaces a of front kept → Announces order interfaces c of front kept
announces_same order interfaces a c of _ _ same (enhanced is found) =
    subst (λ k. Announces order interfaces c of 24 k) (sym (ap (u32_in order) (same 20 4 (omega arith))))
    (enhanced (sym (ap (u32_in order) (same 0 4 (omega arith))) ∙ is) (sym (ap (λ l. slice_get interfaces (u32_in order l)) (same 8 4 (omega arith))) ∙ found))
announces_same order interfaces a c of _ _ same (old is found) =
    subst (λ k. Announces order interfaces c of 24 k) (sym (ap (u32_in order) (same 20 4 (omega arith))))
    (old (sym (ap (u32_in order) (same 0 4 (omega arith))) ∙ is) (sym (ap (λ l. slice_get interfaces (u16_in order l)) (same 8 2 (omega arith))) ∙ found))
announces_same order interfaces a c of _ _ same (simple is found) =
    subst (λ k. Announces order interfaces c of 8 k) (sym (ap (λ l. kept_by of.most (u32_in order l)) (same 8 4 (omega arith))))
    (simple (sym (ap (u32_in order) (same 0 4 (omega arith))) ∙ is) found)

pub announced_front : (order : Order) (interfaces : List Interface) (a : List ℕ) (of : Interface) (front kept : ℕ) → Announces order interfaces a of front kept → 8 ≤ front
announced_front order interfaces a of _ _ (enhanced is found) = omega arith
announced_front order interfaces a of _ _ (old is found) = omega arith
announced_front order interfaces a of _ _ (simple is found) = omega arith

-- pieces behind the first list, and the first list itself
pub skip : (x z : List ℕ) (at n j : ℕ) → j ≡ length x + at → piece (x ++ z) j n ≡ piece z at n
skip x z place n j is =
    ap (λ k. piece (x ++ z) k n) is
    ∙ ap (take n) (sym (drop-drop place (length x) (x ++ z)) ∙ ap (drop place) (drop_at x z (length x) refl))

pub front_of : (y z : List ℕ) (n : ℕ) → length y ≡ n → piece (y ++ z) 0 n ≡ y
front_of y z n is = take_at y z n is

module _ (order : Order) (interfaces : List Interface) (n : ℕ) (rest : List ℕ) (link wire : ℕ) (bytes block : List ℕ) (o : IsPacket order interfaces link wire bytes block) where
  abbrev pub here : Place
  here = record { order = order; interfaces = interfaces; number = n }

  abbrev all : List ℕ
  all = o.front ++ (o.on_wire ++ (bytes ++ (o.options ++ (o.again ++ rest))))

  laid : block ++ rest ≡ all
  laid =
      ap (λ (l : List ℕ). l ++ rest) o.layout
      ∙ append_assoc o.front ((o.on_wire ++ bytes) ++ (o.options ++ o.again)) rest
      ∙ ap (λ (l : List ℕ). o.front ++ l) (append_assoc (o.on_wire ++ bytes) (o.options ++ o.again) rest
      ∙ append_assoc o.on_wire bytes ((o.options ++ o.again) ++ rest)
      ∙ ap (λ (l : List ℕ). o.on_wire ++ (bytes ++ l)) (append_assoc o.options o.again rest))

  size_is : length block ≡ length o.front + 4 + length bytes + length o.options + 4
  size_is = omega (
    arith,
    ap length o.layout,
    length-append o.front ((o.on_wire ++ bytes) ++ (o.options ++ o.again)),
    length-append (o.on_wire ++ bytes) (o.options ++ o.again),
    length-append o.on_wire bytes,
    length-append o.options o.again,
    o.four,
    o.long.four,
  )

  eight : 8 ≤ length o.front
  eight = announced_front order interfaces block o.of (length o.front) (length bytes) o.fields

  announced : Announces order interfaces (block ++ rest) o.of (length o.front) (length bytes)
  announced =
      announces_same order interfaces block (block ++ rest) o.of (length o.front) (length bytes)
      (λ place k h. sym (piece_append block rest place k (omega (arith, h, size_is)))) o.fields

  pub says_length : length_in order (block ++ rest) ≡ length block
  says_length =
      ap (λ l. length_in order l) laid
      ∙ ap (u32_in order) (piece_append o.front (o.on_wire ++ (bytes ++ (o.options ++ (o.again ++ rest)))) 4 4 (omega (arith, eight)))
      ∙ o.long.in_front

  pub sound : IsSound here (block ++ rest) (Keeps o.of (length o.front) (length bytes))
  sound = record {
    means = packet announced;
    kept = o.few;
    long = record {
      enough = omega (arith, says_length, size_is);
      fours = ap (λ j. j % 4) says_length ∙ o.long.fours;
    };
    room = tt;
  }

  pub ends : u32_in order (piece (block ++ rest) (length_in order (block ++ rest) - 4) 4) ≡ length_in order (block ++ rest)
  ends =
      let options : ℕ = length o.options in
      ap (λ j. u32_in order (piece (block ++ rest) (j - 4) 4)) says_length
      ∙ ap (λ l. u32_in order (piece l (length block - 4) 4)) laid
      ∙ ap (u32_in order) (skip o.front (o.on_wire ++ (bytes ++ (o.options ++ (o.again ++ rest)))) (4 + length bytes + options) 4 (length block - 4) (omega (arith, size_is))
      ∙ skip o.on_wire (bytes ++ (o.options ++ (o.again ++ rest))) (length bytes + options) 4 (4 + length bytes + options) (omega (arith, o.four))
      ∙ skip bytes (o.options ++ (o.again ++ rest)) options 4 (length bytes + options) refl
      ∙ skip o.options (o.again ++ rest) 0 4 options (omega arith)
      ∙ front_of o.again rest 4 o.long.four)
      ∙ o.long.at_end
      ∙ sym says_length

  wire_there : u32_in order (piece (block ++ rest) (length o.front) 4) ≡ wire
  wire_there =
      ap (λ l. u32_in order (piece l (length o.front) 4)) laid
      ∙ ap (u32_in order) (skip o.front (o.on_wire ++ (bytes ++ (o.options ++ (o.again ++ rest)))) 0 4 (length o.front) (omega arith)
      ∙ front_of o.on_wire (bytes ++ (o.options ++ (o.again ++ rest))) 4 o.four)
      ∙ o.wire_is

  bytes_there : piece (block ++ rest) (length o.front + 4) (length bytes) ≡ bytes
  bytes_there =
      ap (λ l. piece l (length o.front + 4) (length bytes)) laid
      ∙ skip o.front (o.on_wire ++ (bytes ++ (o.options ++ (o.again ++ rest)))) 4 (length bytes) (length o.front + 4) refl
      ∙ skip o.on_wire (bytes ++ (o.options ++ (o.again ++ rest))) 0 (length bytes) 4 (omega (arith, o.four))
      ∙ front_of bytes (o.options ++ (o.again ++ rest)) (length bytes) refl

  pub packet_read : packets_from (stands order interfaces Block) n (block ++ rest)
      ≡ prepend (record { number = n; link = link; wire = wire; bytes = bytes } ∷ []) (packets_from (stands order interfaces Block) (n + 1) rest)
  packet_read =
      let enough : length_in order (block ++ rest) ≤ length (block ++ rest) = omega (arith, says_length, length-append block rest) in
      packet_whole here (block ++ rest) (fields_there here (block ++ rest) (Keeps o.of (length o.front) (length bytes)) sound enough) o.of (length o.front) (length bytes) sound enough ends
      ∙ ap (λ w. prepend (record { number = n; link = o.of.link; wire = w; bytes = piece (block ++ rest) (length o.front + 4) (length bytes) } ∷ [])
      (packets_from (stands order interfaces Block) (n + 1) (drop (length_in order (block ++ rest)) (block ++ rest)))) wire_there
      ∙ ap (λ l. prepend (record { number = n; link = o.of.link; wire = wire; bytes = l } ∷ [])
      (packets_from (stands order interfaces Block) (n + 1) (drop (length_in order (block ++ rest)) (block ++ rest)))) bytes_there
      ∙ ap (λ x. prepend (record { number = n; link = x; wire = wire; bytes = bytes } ∷ [])
      (packets_from (stands order interfaces Block) (n + 1) (drop (length_in order (block ++ rest)) (block ++ rest)))) (sym o.link_is)
      ∙ ap (λ l. prepend (record { number = n; link = link; wire = wire; bytes = bytes } ∷ []) (packets_from (stands order interfaces Block) (n + 1) l))
      (drop_at block rest (length_in order (block ++ rest)) (sym says_length))
