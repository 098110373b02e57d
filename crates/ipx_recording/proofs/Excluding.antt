-- Where a file differs from a recording stands no block.
use Rattle.std.proofs.Common.{◌≡◌, ◌≢◌, ℕ, ◌+◌, ◌-◌, ◌%◌, ◌<◌, ◌≤◌, List, ◌++◌, length, sym, ap, ◌∙◌, arith, Result, Ok, Err, length-append, append_assoc}
use Rattle.ipx_wire.specs.Piece.{piece}
use Rattle.ipx_capture.specs.Order.{u16_in, u32_in}
use Rattle.ipx_capture.specs.declared.order.Order.{Order}
use Rattle.ipx_capture.proofs.First.{piece_append}
use Rattle.ipx_recording.specs.Blocks.{IsLong, IsSection, IsInterface, IsPacket, IsOther}
use Rattle.ipx_recording.specs.Chain.{Place, IsBlock, section, interface, packet, other}
use Rattle.ipx_recording.specs.Differs.{BlockMeaning, Begins, Describes, Keeps, Nothing, IsSound, Differs, size_in, order_of, least, no_kind, no_fields, wrong, cut, two_lengths}
use Rattle.ipx_recording.specs.Differs as say
use Rattle.ipx_recording.specs.Met.{met, fields_of, kind_in, length_in, order_by}
use Rattle.ipx_recording.specs.Recorded.{Recorded}
use Rattle.ipx_recording.specs.declared.due.Due.{Due}
use Rattle.ipx_recording.specs.declared.due.Due.TheVariants.{Block, Packet, Rest}
use Rattle.ipx_recording.specs.declared.interface.Interface.{Interface}
use Rattle.ipx_recording.specs.declared.met.Met.{Met}
use Rattle.ipx_recording.specs.declared.met.Met.TheVariants.{Wants, Passed, Captured, Described, Section}
use Rattle.ipx_recording.specs.declared.recording_fault.RecordingFault.{RecordingFault}
use Rattle.ipx_recording.proofs.Fields.{wrong_met, begins_met, describes_met, keeps_met, nothing_met}
use Rattle.ipx_recording.proofs.Packets.{skip, front_of, sound, says_length, ends}
use Rattle.ipx_recording.proofs.Refusals.{fields_there}
use Rattle.ipx_recording.proofs.Whole.{marked}

-- the bytes begin with a whole block
pub data IsWhole (here : Place) (b : List ℕ) : Type 0 where
  whole : {meaning : BlockMeaning} → IsSound here b meaning → size_in here b meaning ≤ length b
      → u32_in (order_of here meaning) (piece b (size_in here b meaning - 4) 4) ≡ size_in here b meaning → IsWhole here b

-- what is met says how long the block is, and in which byte order
abbrev due_size : Due → ℕ
due_size Block = 0
due_size (Packet link kept left n) = n
due_size (Rest left n) = n

abbrev part_size : Result Met RecordingFault → ℕ
part_size (Err fault) = 0
part_size (Ok (Wants n)) = 0
part_size (Ok (Passed n due)) = due_size due
part_size (Ok (Captured link kept wire due)) = due_size due
part_size (Ok (Described i due)) = due_size due
part_size (Ok (Section order due)) = due_size due

abbrev part_order : Order → Result Met RecordingFault → Order
part_order order (Err fault) = order
part_order order (Ok (Wants n)) = order
part_order order (Ok (Passed n due)) = order
part_order order (Ok (Captured link kept wire due)) = order
part_order order (Ok (Described i due)) = order
part_order order (Ok (Section own due)) = own

module _ (here : Place) (b : List ℕ) (there : fields_of (kind_in here.order b) ≤ length b) where
  abbrev first : Result Met RecordingFault
  first = met here.order here.interfaces Block b

  size_met : (meaning : BlockMeaning) → IsSound here b meaning → size_in here b meaning ≡ part_size first
  size_met (Begins own) is = sym (ap part_size (begins_met here b there own is))
  size_met Describes is = sym (ap part_size (describes_met here b there is))
  size_met (Keeps of front kept) is = sym (ap part_size (keeps_met here b there of front kept is))
  size_met Nothing is = sym (ap part_size (nothing_met here b there is))

  order_met : (meaning : BlockMeaning) → IsSound here b meaning → order_of here meaning ≡ part_order here.order first
  order_met (Begins own) is = sym (ap (part_order here.order) (begins_met here b there own is))
  order_met Describes is = sym (ap (part_order here.order) (describes_met here b there is))
  order_met (Keeps of front kept) is = sym (ap (part_order here.order) (keeps_met here b there of front kept is))
  order_met Nothing is = sym (ap (part_order here.order) (nothing_met here b there is))

  eight_least : (meaning : BlockMeaning) → 8 ≤ least meaning
  eight_least (Begins own) = omega arith
  eight_least Describes = omega arith
  eight_least (Keeps of front kept) = omega arith
  eight_least Nothing = omega arith

  no_size : (fault : RecordingFault) → first ≡ Err fault → part_size first ≡ 0
  no_size fault told = ap part_size told

  module _ (meaning : BlockMeaning) (is : IsSound here b meaning) (enough : size_in here b meaning ≤ length b)
      (same : u32_in (order_of here meaning) (piece b (size_in here b meaning - 4) 4) ≡ size_in here b meaning) where
    not_wrong : (fault : RecordingFault) → first ≡ Err fault → ⊥
    not_wrong fault told = omega (arith, size_met meaning is, no_size fault told, is.long.enough, eight_least meaning)

    not_cut : (another : BlockMeaning) → IsSound here b another → length b < size_in here b another → ⊥
    not_cut another sound few = omega (arith, few, enough, size_met meaning is, size_met another sound)

    not_two : (another : BlockMeaning) → IsSound here b another
        → u32_in (order_of here another) (piece b (size_in here b another - 4) 4) ≢ size_in here b another → ⊥
    not_two another sound differs =
        let size : size_in here b another ≡ size_in here b meaning = size_met another sound ∙ sym (size_met meaning is) in
        let order : order_of here another ≡ order_of here meaning = order_met another sound ∙ sym (order_met meaning is) in
        differs (ap (λ o. u32_in o (piece b (size_in here b another - 4) 4)) order ∙ ap (λ j. u32_in (order_of here meaning) (piece b (j - 4) 4)) size ∙ same ∙ sym size)

not_both : (here : Place) (b : List ℕ) (records : List Recorded) (fault : RecordingFault) → IsWhole here b → Differs here b records fault → ⊥
not_both here b _ _ (whole {meaning} is enough same) (no_kind some few) =
    omega (arith, few, enough, is.long.enough, eight_least here b (fields_there here b meaning is enough) meaning)
not_both here b _ _ (whole {meaning} is enough same) (no_fields some few) = omega (arith, few, fields_there here b meaning is enough)
not_both here b _ _ (whole {meaning} is enough same) (wrong {fault} some there bad) = not_wrong here b there meaning is enough same fault (wrong_met here b there fault bad)
not_both here b _ _ (whole {meaning} is enough same) (cut {meaning = another} there sound few) = not_cut here b there meaning is enough same another sound few
not_both here b _ _ (whole {meaning} is enough same) (two_lengths {meaning = another} sound long differs) =
    not_two here b (fields_there here b meaning is enough) meaning is enough same another sound differs

-- a block of three parts, and what follows it
module _ (order : Order) (front options again block rest : List ℕ) (layout : block ≡ front ++ (options ++ again)) (eight : 8 ≤ length front)
    (long : IsLong order front again (length block)) where
  laid : block ++ rest ≡ front ++ (options ++ (again ++ rest))
  laid =
      ap (λ (l : List ℕ). l ++ rest) layout ∙ append_assoc front (options ++ again) rest ∙ ap (λ (l : List ℕ). front ++ l) (append_assoc options again rest)

  sizes : length block ≡ length front + length options + 4
  sizes = omega (arith, ap length layout, length-append front (options ++ again), length-append options again, long.four)

  in_front : (at n : ℕ) → at + n ≤ length front → piece (block ++ rest) at n ≡ piece front at n
  in_front place n h = ap (λ l. piece l place n) laid ∙ piece_append front (options ++ (again ++ rest)) place n h

  length_there : length_in order (block ++ rest) ≡ length block
  length_there = ap (u32_in order) (in_front 4 4 (omega (arith, eight))) ∙ long.in_front

  last_there : u32_in order (piece (block ++ rest) (length_in order (block ++ rest) - 4) 4) ≡ length_in order (block ++ rest)
  last_there =
      ap (λ j. u32_in order (piece (block ++ rest) (j - 4) 4)) length_there
      ∙ ap (λ l. u32_in order (piece l (length block - 4) 4)) laid
      ∙ ap (u32_in order) (skip front (options ++ (again ++ rest)) (length options) 4 (length block - 4) (omega (arith, sizes))
      ∙ skip options (again ++ rest) 0 4 (length options) (omega arith)
      ∙ front_of again rest 4 long.four)
      ∙ long.at_end
      ∙ sym length_there

  all_there : length_in order (block ++ rest) ≤ length (block ++ rest)
  all_there = omega (arith, length_there, length-append block rest)

  is_length : (fewest : ℕ) → fewest ≤ length block → say.IsLength fewest (length_in order (block ++ rest))
  is_length fewest enough = record { enough = omega (arith, length_there, enough); fours = ap (λ j. j % 4) length_there ∙ long.fours }

module _ (here : Place) (block rest : List ℕ) where
  whole_section : (own : Order) → IsSection own block → IsWhole here (block ++ rest)
  whole_section own o =
      let eight : 8 ≤ length o.front = omega (arith, o.fields) in
      let size : length block ≡ length o.front + length o.options + 4 = sizes own o.front o.options o.again block rest o.layout eight o.long in
      let fields : (at n : ℕ) → at + n ≤ length o.front → piece (block ++ rest) at n ≡ piece o.front at n = in_front own o.front o.options o.again block rest o.layout eight o.long in
      whole {meaning = Begins own} (record {
        means = say.section (ap (u32_in here.order) (fields 0 4 (omega (arith, eight)) ∙ o.mark_is) ∙ marked here.order)
            (ap order_by (fields 8 4 (omega (arith, o.fields))) ∙ o.order_is) (ap (u16_in own) (fields 12 2 (omega (arith, o.fields))) ∙ o.version);
        kept = tt;
        long = is_length own o.front o.options o.again block rest o.layout eight o.long 28 (omega (arith, size, o.fields));
        room = tt;
      })
      (all_there own o.front o.options o.again block rest o.layout eight o.long) (last_there own o.front o.options o.again block rest o.layout eight o.long)

  whole_interface : (i : Interface) → IsInterface here.order i block → length here.interfaces < 256 → IsWhole here (block ++ rest)
  whole_interface i o room =
      let eight : 8 ≤ length o.front = omega (arith, o.fields) in
      let size : length block ≡ length o.front + length o.options + 4 = sizes here.order o.front o.options o.again block rest o.layout eight o.long in
      whole {meaning = Describes} (record {
        means = say.interface (ap (u32_in here.order) (in_front here.order o.front o.options o.again block rest o.layout eight o.long 0 4 (omega (arith, eight))) ∙ o.kind);
        kept = tt;
        long = is_length here.order o.front o.options o.again block rest o.layout eight o.long 20 (omega (arith, size, o.fields));
        room = room;
      })
      (all_there here.order o.front o.options o.again block rest o.layout eight o.long) (last_there here.order o.front o.options o.again block rest o.layout eight o.long)

  whole_other : IsOther here.order block → IsWhole here (block ++ rest)
  whole_other o =
      let eight : 8 ≤ length o.front = omega (arith, o.fields) in
      let size : length block ≡ length o.front + length o.content + 4 = sizes here.order o.front o.content o.again block rest o.layout eight o.long in
      let kind : kind_in here.order (block ++ rest) ≡ kind_in here.order o.front = ap (u32_in here.order) (in_front here.order o.front o.content o.again block rest o.layout eight o.long 0 4 (omega (arith, eight))) in
      whole {meaning = Nothing} (record {
        means = say.other (λ e. o.no_section (sym kind ∙ e)) (λ e. o.no_interface (sym kind ∙ e)) (λ e. o.no_packet (sym kind ∙ e)) (λ e. o.no_old_packet (sym kind ∙ e))
            (λ e. o.no_simple_packet (sym kind ∙ e));
        kept = tt;
        long = is_length here.order o.front o.content o.again block rest o.layout eight o.long 12 (omega (arith, size, o.fields));
        room = tt;
      })
      (all_there here.order o.front o.content o.again block rest o.layout eight o.long) (last_there here.order o.front o.content o.again block rest o.layout eight o.long)

  whole_packet : (link wire : ℕ) (bytes : List ℕ) → IsPacket here.order here.interfaces link wire bytes block → IsWhole here (block ++ rest)
  whole_packet link wire bytes o =
      let says : length_in here.order (block ++ rest) ≡ length block = says_length here.order here.interfaces here.number rest link wire bytes block o in
      whole {meaning = Keeps o.of (length o.front) (length bytes)} (sound here.order here.interfaces here.number rest link wire bytes block o) (omega (arith, says, length-append block rest))
      (ends here.order here.interfaces here.number rest link wire bytes block o)

  whole_block : (records : List Recorded) (next : Place) → IsBlock here block records next → IsWhole here (block ++ rest)
  whole_block _ _ (section {order} is) = whole_section order is
  whole_block _ _ (interface {i} is room) = whole_interface i is room
  whole_block _ _ (packet {link} {wire} {bytes} is) = whole_packet link wire bytes is
  whole_block _ _ (other is) = whole_other is

pub no_block : (here next : Place) (block rest : List ℕ) (records shown : List Recorded) (fault : RecordingFault) → IsBlock here block records next
    → Differs here (block ++ rest) shown fault → ⊥
no_block here next block rest records shown fault is differs = not_both here (block ++ rest) shown fault (whole_block here block rest records next is) differs
