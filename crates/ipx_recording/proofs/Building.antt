-- Sound fields and the same length at the end are a block.
use Rattle.std.proofs.Common.{◌≡◌, ℕ, ◌+◌, ◌-◌, ◌%◌, ◌≤◌, subst, List, ◌++◌, length, take, drop, refl, sym, ap, ◌∙◌, arith, append_assoc, length-take-le}
use Rattle.std.proofs.Math.Seq.{take-add}
use Rattle.std.proofs.lemmas.Nat.{be_bytes_4, le_bytes_4}
use Rattle.ipx_wire.specs.Piece.{piece, IsBytes}
use Rattle.ipx_capture.specs.Order.{u16_in, u32_in}
use Rattle.ipx_capture.specs.declared.order.Order.{Order}
use Rattle.ipx_capture.specs.declared.order.Order.TheVariants.{Big, Little}
use Rattle.ipx_capture.proofs.Pieces.{length_piece, piece_grown, are_bytes}
use Rattle.ipx_recording.specs.Blocks.{IsLong, IsPacket, Announces, mark}
use Rattle.ipx_recording.specs.Chain.{Place, IsBlock, section, interface, packet, other}
use Rattle.ipx_recording.specs.Differs.{BlockMeaning, Begins, Describes, Keeps, Nothing, Means, IsSound, size_in, order_of, shown}
use Rattle.ipx_recording.specs.Differs as say
use Rattle.ipx_recording.specs.Met.{kind_in, length_in, order_by}
use Rattle.ipx_recording.specs.declared.interface.Interface.{Interface}
use Rattle.ipx_recording.proofs.Behind.{last_four}
use Rattle.ipx_recording.proofs.Fields.{inside}
use Rattle.ipx_recording.proofs.Packets.{announces_same, announced_front}
use Rattle.ipx_recording.proofs.Refusals.{shown_there, fields_there}

-- four bytes that are the kind of a section's header, in either byte order
mark_of : (order : Order) (four : List ℕ) → length four ≡ 4 → IsBytes four → u32_in order four ≡ 0x0A0D0D0A → four ≡ mark
mark_of Big four size bytes is = sym (be_bytes_4 four 0x0A0D0D0A size bytes (sym is))
mark_of Little four size bytes is = sym (le_bytes_4 four 0x0A0D0D0A size bytes (sym is))

-- a block in three parts
parts_of : (b : List ℕ) (f n : ℕ) → f + 4 ≤ n → take n b ≡ take f b ++ (piece b f (n - (f + 4)) ++ piece b (n - 4) 4)
parts_of b f n h =
    ap (λ j. take j b) (let sum : n ≡ f + (n - (f + 4) + 4) = omega (arith, h) in sum)
    ∙ take-add f (n - (f + 4) + 4) b
    ∙ ap (λ l. take f b ++ l) (take-add (n - (f + 4)) 4 (drop f b) ∙ ap (λ l. piece b f (n - (f + 4)) ++ l) (last_four f n b h))

length_front : (b : List ℕ) (n : ℕ) → n ≤ length b → length (take n b) ≡ n
length_front b n h = length-take-le n b h

module _ (order : Order) (b : List ℕ) (f : ℕ) (long : f + 4 ≤ length_in order b) (eight : 8 ≤ f) (there : length_in order b ≤ length b) where
  is_long : length_in order b % 4 ≡ 0 → u32_in order (piece b (length_in order b - 4) 4) ≡ length_in order b
      → IsLong order (take f b) (piece b (length_in order b - 4) 4) (length (take (length_in order b) b))
  is_long fours same =
      let size : length (take (length_in order b) b) ≡ length_in order b = length_front b (length_in order b) there in
      record {
        four = length_piece b (length_in order b - 4) 4 (omega (arith, long, there));
        fours = ap (λ j. j % 4) size ∙ fours;
        in_front = ap (u32_in order) (inside b f 4 4 (omega (arith, eight))) ∙ sym size;
        at_end = same ∙ sym size;
      }

module _ (here : Place) (b : List ℕ) where
  abbrev pub ends : BlockMeaning → Type 0
  ends meaning = u32_in (order_of here meaning) (piece b (size_in here b meaning - 4) 4) ≡ size_in here b meaning

-- the block that the bytes begin with
pub data Built (here : Place) (b : List ℕ) (meaning : BlockMeaning) : Type 0 where
  built : {next : Place} → IsBlock here (take (size_in here b meaning) b) (shown here b meaning) next → Built here b meaning

module _ (here : Place) (b : List ℕ) (bytes : IsBytes b) where
  section_built : (own : Order) → IsSound here b (Begins own) → size_in here b (Begins own) ≤ length b → ends here b (Begins own) → Means here b (Begins own) → Built here b (Begins own)
  section_built own sound there same (say.section is found version) =
      let n : ℕ = length_in own b in
      let least : 28 ≤ n = sound.long.enough in
      built (section (record {
        front = take 24 b;
        options = piece b 24 (n - (24 + 4));
        again = piece b (n - 4) 4;
        layout = parts_of b 24 n (omega (arith, least));
        fields = length_front b 24 (omega (arith, least, there));
        mark_is = inside b 24 0 4 (omega arith) ∙ mark_of here.order (piece b 0 4) (length_piece b 0 4 (omega (arith, least, there))) (are_bytes b 0 4 bytes) is;
        order_is = ap order_by (inside b 24 8 4 (omega arith)) ∙ found;
        version = ap (u16_in own) (inside b 24 12 2 (omega arith)) ∙ version;
        long = is_long own b 24 (omega (arith, least)) (omega arith) there sound.long.fours same;
      }))

  interface_built : IsSound here b Describes → size_in here b Describes ≤ length b → ends here b Describes → Means here b Describes → Built here b Describes
  interface_built sound there same (say.interface is) =
      let n : ℕ = length_in here.order b in
      let least : 20 ≤ n = sound.long.enough in
      built (interface {i = record { link = u16_in here.order (piece b 8 2); most = u32_in here.order (piece b 12 4) }} (record {
        front = take 16 b;
        options = piece b 16 (n - (16 + 4));
        again = piece b (n - 4) 4;
        layout = parts_of b 16 n (omega (arith, least));
        fields = length_front b 16 (omega (arith, least, there));
        kind = ap (u32_in here.order) (inside b 16 0 4 (omega arith)) ∙ is;
        link = ap (u16_in here.order) (inside b 16 8 2 (omega arith));
        most = ap (u32_in here.order) (inside b 16 12 4 (omega arith));
        long = is_long here.order b 16 (omega (arith, least)) (omega arith) there sound.long.fours same;
      }) sound.room)

  other_built : IsSound here b Nothing → size_in here b Nothing ≤ length b → ends here b Nothing → Means here b Nothing → Built here b Nothing
  other_built sound there same (say.other n1 n2 n3 n4 n5) =
      let n : ℕ = length_in here.order b in
      let least : 12 ≤ n = sound.long.enough in
      let kind : kind_in here.order (take 8 b) ≡ kind_in here.order b = ap (u32_in here.order) (inside b 8 0 4 (omega arith)) in
      built (other (record {
        front = take 8 b;
        content = piece b 8 (n - (8 + 4));
        again = piece b (n - 4) 4;
        layout = parts_of b 8 n (omega (arith, least));
        fields = length_front b 8 (omega (arith, least, there));
        no_section = λ e. n1 (sym kind ∙ e);
        no_interface = λ e. n2 (sym kind ∙ e);
        no_packet = λ e. n3 (sym kind ∙ e);
        no_old_packet = λ e. n4 (sym kind ∙ e);
        no_simple_packet = λ e. n5 (sym kind ∙ e);
        long = is_long here.order b 8 (omega (arith, least)) (omega arith) there sound.long.fours same;
      }))

  -- a block with a packet has five parts
  packet_parts : (front kept n : ℕ) → front + 4 + kept + 4 ≤ n
      → take n b ≡ take front b ++ ((piece b front 4 ++ piece b (front + 4) kept) ++ (piece b (front + 4 + kept) (n - (front + 4 + kept + 4)) ++ piece b (n - 4) 4))
  packet_parts front kept n h =
      let tail : List ℕ = piece b (front + 4 + kept) (n - (front + 4 + kept + 4)) ++ piece b (n - 4) 4 in
      parts_of b (front + 4 + kept) n h
      ∙ ap (λ j. take j b ++ tail) (let sum : front + 4 + kept ≡ front + (4 + kept) = omega arith in sum)
      ∙ ap (λ l. l ++ tail) (take-add front (4 + kept) b ∙ ap (λ l. take front b ++ l) (piece_grown b front 4 kept))
      ∙ append_assoc (take front b) (piece b front 4 ++ piece b (front + 4) kept) tail

  packet_built : (of : Interface) (front kept : ℕ) → IsSound here b (Keeps of front kept) → size_in here b (Keeps of front kept) ≤ length b → ends here b (Keeps of front kept)
      → Announces here.order here.interfaces b of front kept → Built here b (Keeps of front kept)
  packet_built of front kept sound there same announced =
      let n : ℕ = length_in here.order b in
      let least : front + 4 + kept + 4 ≤ n = sound.long.enough in
      let eight : 8 ≤ front = announced_front here.order here.interfaces b of front kept announced in
      let size : kept ≡ length (piece b (front + 4) kept) = sym (length_piece b (front + 4) kept (omega (arith, least, there))) in
      let fields : front ≡ length (take front b) = sym (length_front b front (omega (arith, least, there))) in
      let again : Announces here.order here.interfaces (take n b) of front kept = announces_same here.order here.interfaces b (take n b) of front kept
      (λ place k h. sym (inside b n place k (omega (arith, h, least)))) announced in
      let is : IsPacket here.order here.interfaces of.link (u32_in here.order (piece b front 4)) (piece b (front + 4) kept) (take n b) = record {
        front = take front b;
        on_wire = piece b front 4;
        options = piece b (front + 4 + kept) (n - (front + 4 + kept + 4));
        again = piece b (n - 4) 4;
        layout = packet_parts front kept n least;
        four = length_piece b front 4 (omega (arith, least, there));
        of = of;
        fields = subst (λ j. Announces here.order here.interfaces (take n b) of j (length (piece b (front + 4) kept))) fields (subst (λ j. Announces here.order here.interfaces (take n b) of front j) size again);
        link_is = refl;
        wire_is = refl;
        few = omega (arith, size, sound.kept);
        long = is_long here.order b front (omega (arith, least)) eight there sound.long.fours same;
      } in
      built (subst (λ rs. IsBlock here (take n b) rs (record { order = here.order; interfaces = here.interfaces; number = here.number + 1 }))
      (sym (shown_there here b (fields_there here b (Keeps of front kept) sound there) of front kept (omega (arith, least, there)))) (packet is))

  pub build : (meaning : BlockMeaning) → IsSound here b meaning → size_in here b meaning ≤ length b → ends here b meaning → Built here b meaning
  build (Begins own) sound there same = section_built own sound there same sound.means
  build Describes sound there same = interface_built sound there same sound.means
  build (Keeps of front kept) sound there same = by sound.means
    where
      by : Means here b (Keeps of front kept) → Built here b (Keeps of front kept)
      by (say.packet announced) = packet_built of front kept sound there same announced
  build Nothing sound there same = other_built sound there same sound.means
