-- A file is read whole just where it is a recording, and refused just where it differs from one.
use Rattle.std.proofs.Common.{◌≡◌, ◌≢◌, true, false, ℕ, suc, ◌+◌, ◌<◌, ◌≤◌, subst, List, [], ◌++◌, length, drop, refl, inl, inr, sym, ap, ◌∙◌, arith, Bool, Option, Result, Ok, Err, Some, None, append-nil, length-append}
use Rattle.std.specs.Prelude.{◌↔◌}
use Rattle.std.proofs.lemmas.Bool.{cases_lt, le-ltb}
use Rattle.ipx_wire.specs.Piece.{piece, IsBytes}
use Rattle.ipx_capture.specs.Order.{u32_in}
use Rattle.ipx_capture.specs.declared.order.Order.{Order}
use Rattle.ipx_capture.specs.declared.order.Order.TheVariants.{Big}
use Rattle.ipx_capture.proofs.First.{piece_append}
use Rattle.ipx_recording.specs.Blocks.{mark, Announces, enhanced, old, simple}
use Rattle.ipx_recording.specs.Chain.{Place, IsBlock, AreBlocks, IsFile, start, section, interface, packet, other, none, more}
use Rattle.ipx_recording.specs.Differs.{IsRefused, short, unmarked, differs}
use Rattle.ipx_recording.specs.Met.{met, kind_in, fields_of, order_by, section_in}
use Rattle.ipx_recording.specs.Met as part
use Rattle.ipx_recording.specs.Recorded.{State, Recorded, Contents, recorded, begins, begun, behind_header, is_recording, is_wanting, size_of, packets, packets_from, prepend, after}
use Rattle.ipx_recording.specs.declared.due.Due.TheVariants.{Block}
use Rattle.ipx_recording.specs.declared.interface.Interface.{Interface}
use Rattle.ipx_recording.specs.declared.met.Met.{Met}
use Rattle.ipx_recording.specs.declared.recording_fault.RecordingFault.{RecordingFault}
use Rattle.ipx_recording.specs.declared.recording_fault.RecordingFault.TheVariants.{CutHeader, Magic}
use Rattle.ipx_recording.proofs.Beginning.{begins_whole, begins_short, beginning_is}
use Rattle.ipx_recording.proofs.Behind.{stands, one_fault}
use Rattle.ipx_recording.proofs.Chained.{all_read, read_until}
use Rattle.ipx_recording.proofs.Deciding.{Outcome, whole, stops, outcome}
use Rattle.ipx_recording.proofs.Fields.{section_met, section_fields}
use Rattle.ipx_recording.proofs.Packets.{announced_front}
use Rattle.ipx_recording.proofs.Parts.{one_part}
use Rattle.ipx_recording.proofs.Refusals.{from}
use Rattle.ipx_recording.proofs.Whole.{mark_front}

-- a section's header takes its fields, and shows no packet
record Heads (b : List ℕ) (m : Met) : Type 0 where
  sure : is_wanting m ≡ false
  size : size_of m ≡ 24
  none : packets 1 b m ≡ []

heads : (found : Option Order) (b : List ℕ) (m : Met) → section_in found b ≡ Ok m → Heads b m
heads found b m told = grind arith

module _ (b : List ℕ) (enough : 24 ≤ length b) (marked : piece b 0 4 ≡ mark) where
  is_marked : is_recording b ≡ true
  is_marked = ap is_recording (sym (append-nil b)) ∙ mark_front b [] enough marked

  kind_is : kind_in Big b ≡ 0x0A0D0D0A
  kind_is = ap (u32_in Big) marked

  start_met : met Big [] Block b ≡ part.section b
  start_met = section_met Big [] b kind_is (omega (arith, enough, ap fields_of kind_is, section_fields))

  begins_so : begins b ≡ begun (part.section b)
  begins_so = begins_whole b enough is_marked

  recorded_by : (r : Result Met RecordingFault) → part.section b ≡ r → recorded b ≡ from start b
  recorded_by (Err fault) told =
      ap (λ x. behind_header x b) (begins_so ∙ ap begun told)
      ∙ sym (one_fault (stands Big [] Block) 1 b fault (start_met ∙ told))
  recorded_by (Ok m) told =
      let h : Heads b m = heads (order_by (piece b 8 4)) b m told in
      let s : State = after (stands Big [] Block) m in
      ap (λ x. behind_header x b) (begins_so ∙ ap begun told)
      ∙ sym (one_part (stands Big [] Block) 1 b m (start_met ∙ told) h.sure
      ∙ ap (λ rs. prepend rs (packets_from s (1 + length rs) (drop (size_of m) b))) h.none
      ∙ ap (λ j. packets_from s 1 (drop j b)) h.size)

  -- a file is blocks from its first byte on
  pub from_start : recorded b ≡ from start b
  from_start = recorded_by (part.section b) refl

-- what begins with the mark and is blocks has a section's header
kind_front : (block front behind rest : List ℕ) → block ≡ front ++ behind → 8 ≤ length front → piece (block ++ rest) 0 4 ≡ mark → kind_in Big front ≡ 0x0A0D0D0A
kind_front block front behind rest layout eight marked =
    let longer : length block ≡ length front + length behind = ap length layout ∙ length-append front behind in
    ap (u32_in Big) (sym (piece_append front behind 0 4 (omega (arith, eight))) ∙ ap (λ l. piece l 0 4) (sym layout) ∙ sym (piece_append block rest 0 4 (omega (arith, longer, eight))) ∙ marked)

no_packet : (order : Order) (interfaces : List Interface) (block : List ℕ) (of : Interface) (front kept : ℕ) → Announces order interfaces block of front kept
    → kind_in order block ≡ 0x0A0D0D0A → ⊥
no_packet order interfaces block of _ _ (enhanced is found) kind = omega (arith, is, kind)
no_packet order interfaces block of _ _ (old is found) kind = omega (arith, is, kind)
no_packet order interfaces block of _ _ (simple is found) kind = omega (arith, is, kind)

first_long : (block rest : List ℕ) (records : List Recorded) (next : Place) → IsBlock start block records next → piece (block ++ rest) 0 4 ≡ mark → 24 ≤ length (block ++ rest)
first_long block rest _ _ (section o) marked =
    omega (arith, length-append block rest, ap length o.layout, length-append o.front (o.options ++ o.again), o.fields)
first_long block rest _ _ (interface o room) marked =
    absurd (omega (arith, kind_front block o.front (o.options ++ o.again) rest o.layout (omega (arith, o.fields)) marked, o.kind))
first_long block rest _ _ (packet {link} {wire} {bytes} o) marked =
    let eight : 8 ≤ length o.front = announced_front Big [] block o.of (length o.front) (length bytes) o.fields in
    let longer : length block ≡ length o.front + length ((o.on_wire ++ bytes) ++ (o.options ++ o.again)) = ap length o.layout ∙ length-append o.front ((o.on_wire ++ bytes) ++ (o.options ++ o.again)) in
    absurd (no_packet Big [] block o.of (length o.front) (length bytes) o.fields
    (ap (u32_in Big) (sym (piece_append block rest 0 4 (omega (arith, longer, eight))) ∙ marked)))
first_long block rest _ _ (other o) marked =
    absurd (o.no_section (kind_front block o.front (o.content ++ o.again) rest o.layout (omega (arith, o.fields)) marked))

file_long : (b : List ℕ) (records : List Recorded) (end : Place) → AreBlocks start b records end → piece b 0 4 ≡ mark → 24 ≤ length b
file_long _ _ _ none marked = absurd (let size : 0 ≡ 4 = ap length marked in omega (arith, size))
file_long _ _ _ (more {next} {block} {rest} {first} is are) marked = first_long block rest first next is marked

file_read : (b : List ℕ) (records : List Recorded) → IsFile b records → recorded b ≡ record { records = records; fault = None }
file_read b records file = from_start b (file_long b records file.end file.blocks file.marked) file.marked ∙ all_read start file.end b records file.blocks

-- what is shorter than a header, or begins with another kind
short_read : (b : List ℕ) → length b < 24 → recorded b ≡ record { records = []; fault = Some CutHeader }
short_read b few = ap (λ x. behind_header x b) (begins_short b few)

no_mark : (b : List ℕ) → 24 ≤ length b → is_recording b ≡ false → begins b ≡ Err Magic
unfolding begins
no_mark b enough is = rw (le-ltb (length b) 24 enough) (rw is refl)

mark_there : (b : List ℕ) → is_recording b ≡ true → piece b 0 4 ≡ mark
mark_there b is = ap (λ l. piece l 0 4) (beginning_is b is)

by_mark : (b : List ℕ) (found : Bool) → is_recording b ≡ found → piece b 0 4 ≢ mark → is_recording b ≡ false
by_mark b true is another = absurd (another (mark_there b is))
by_mark b false is another = is

unmarked_read : (b : List ℕ) → 24 ≤ length b → piece b 0 4 ≢ mark → recorded b ≡ record { records = []; fault = Some Magic }
unmarked_read b enough another = ap (λ x. behind_header x b) (no_mark b enough (by_mark b (is_recording b) refl another))

refusal_read : (b : List ℕ) (records : List Recorded) (fault : RecordingFault) → IsRefused b records fault → recorded b ≡ record { records = records; fault = Some fault }
refusal_read b _ _ (short few) = short_read b few
refusal_read b _ _ (unmarked enough another) = unmarked_read b enough another
refusal_read b _ _ (differs {front} {rest} {before} {more} {here} {fault} enough marked layout are there) =
    from_start b enough marked ∙ ap (from start) layout ∙ read_until start here front rest before more fault are there

-- each file is a recording, or refused
data Reading (b : List ℕ) : Type 0 where
  file : {records : List Recorded} → IsFile b records → Reading b
  refusal : {records : List Recorded} {fault : RecordingFault} → IsRefused b records fault → Reading b

by_outcome : (b : List ℕ) → 24 ≤ length b → piece b 0 4 ≡ mark → Outcome start b → Reading b
by_outcome b enough marked (whole {records} {end} are) = file {records = records} (record { marked = marked; end = end; blocks = are })
by_outcome b enough marked (stops layout are there) = refusal (differs enough marked layout are there)

by_recording : (b : List ℕ) → IsBytes b → 24 ≤ length b → (found : Bool) → is_recording b ≡ found → Reading b
by_recording b bytes enough true is = by_outcome b enough (mark_there b is) (outcome (suc (length b)) start b (omega arith) bytes)
by_recording b bytes enough false is = refusal (unmarked enough (λ marked. true_false (sym (is_marked b enough marked) ∙ is)))
  where
    true_false : true ≡ false → ⊥
    true_false e = cc

reading : (b : List ℕ) → IsBytes b → Reading b
reading b bytes =
    elim (cases_lt (length b) 24) [
      | inl few ↦ refusal (short few)
      | inr enough ↦ by_recording b bytes enough (is_recording b) refl
    ]

-- records and fault are those of the reading
file_of : (b : List ℕ) (records : List Recorded) → Reading b → recorded b ≡ record { records = records; fault = None } → IsFile b records
file_of b records (file {records = others} is) told = subst (IsFile b) (ap (λ (c : Contents). c.records) (sym (file_read b others is) ∙ told)) is
file_of b records (refusal {records = others} {fault} is) told = absurd (no_fault fault (ap (λ (c : Contents). c.fault) (sym (refusal_read b others fault is) ∙ told)))
  where
    no_fault : (fault : RecordingFault) → Some fault ≡ None → ⊥
    no_fault fault e = cc

refusal_of : (b : List ℕ) (records : List Recorded) (fault : RecordingFault) → Reading b → recorded b ≡ record { records = records; fault = Some fault } → IsRefused b records fault
refusal_of b records fault (file {records = others} is) told = absurd (no_fault (ap (λ (c : Contents). c.fault) (sym (file_read b others is) ∙ told)))
  where
    no_fault : None ≡ Some fault → ⊥
    no_fault e = cc
refusal_of b records fault (refusal {records = others} {fault = another} is) told =
    let same : ◌≡◌ {A = Contents} (record { records = others; fault = Some another }) (record { records = records; fault = Some fault }) = sym (refusal_read b others another is) ∙ told in
    let faults : ◌≡◌ {A = Option RecordingFault} (Some another) (Some fault) = ap (λ (c : Contents). c.fault) same in
    let is_fault : another ≡ fault = cc in
    subst (λ x. IsRefused b records x) is_fault (subst (λ l. IsRefused b l another) (ap (λ (c : Contents). c.records) same) is)

pub whole_just : (b : List ℕ) (records : List Recorded) → IsBytes b → IsFile b records ↔ (recorded b ≡ record { records = records; fault = None })
whole_just b records bytes = (file_read b records, file_of b records (reading b bytes))

pub refused_just : (b : List ℕ) (records : List Recorded) (fault : RecordingFault) → IsBytes b
    → IsRefused b records fault ↔ (recorded b ≡ record { records = records; fault = Some fault })
refused_just b records fault bytes = (refusal_read b records fault, refusal_of b records fault (reading b bytes))
