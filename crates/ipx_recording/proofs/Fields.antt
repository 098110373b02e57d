-- What the fields of a block say is what is met.
use Rattle.std.proofs.Common.{◌≡◌, ◌≢◌, ◌==◌, true, false, ℕ, ◌+◌, ◌-◌, ◌%◌, ◌<◌, ◌≤◌, if◌then◌else◌, List, length, take, slice_get, refl, inl, inr, sym, ap, ◌∙◌, arith, Option, Result, Ok, Err, Some, None}
use Rattle.std.proofs.lemmas.Bool.{lt-ltb, le-ltb, lt-leb, le-leb, ne_eqb}
use Rattle.ipx_wire.specs.Piece.{piece}
use Rattle.ipx_capture.specs.Order.{u16_in, u32_in}
use Rattle.ipx_capture.specs.Records.{most_kept}
use Rattle.ipx_capture.specs.declared.order.Order.{Order}
use Rattle.ipx_capture.proofs.Pieces.{piece_within}
use Rattle.ipx_recording.specs.Blocks.{Announces}
use Rattle.ipx_recording.specs.Blocks as form
use Rattle.ipx_recording.specs.Chain.{Place}
use Rattle.ipx_recording.specs.Differs.{BlockMeaning, Begins, Describes, Keeps, Nothing, Means, IsOfNone, IsWrong, IsSound, IsLength, IsNoLength, size_in, least, no_order, other_version, of_none, long, no_length, no_room}
use Rattle.ipx_recording.specs.Differs as say
use Rattle.ipx_recording.specs.Met.{met, section, section_in, interface_in, packet_in, simple_in, skipped, block_in, fields_of, kind_in, length_in, order_by, is_length, kept_by}
use Rattle.ipx_recording.specs.declared.due.Due.TheVariants.{Block, Packet, Rest}
use Rattle.ipx_recording.specs.declared.interface.Interface.{Interface}
use Rattle.ipx_recording.specs.declared.met.Met.{Met}
use Rattle.ipx_recording.specs.declared.met.Met.TheVariants.{Passed, Described, Section}
use Rattle.ipx_recording.specs.declared.recording_fault.RecordingFault.{RecordingFault}
use Rattle.ipx_recording.specs.declared.recording_fault.RecordingFault.TheVariants.{Version, BlockLength, NoInterface, ManyInterfaces, RecordLong}
use Rattle.ipx_recording.proofs.Sizes.{begins_whole}

-- a block by its kind
abbrev pub block_by : ℕ → Order → List Interface → List ℕ → Result Met RecordingFault
block_by kind order interfaces front =
    if kind == 0x0A0D0D0A then section front
    else if kind == 1 then interface_in order interfaces front
    else if kind == 3 then simple_in order (slice_get interfaces 0) front
    else if kind == 6 then packet_in 32 24 (u32_in order (piece front 20 4)) (length_in order front) (slice_get interfaces (u32_in order (piece front 8 4)))
    else if kind == 2 then packet_in 32 24 (u32_in order (piece front 20 4)) (length_in order front) (slice_get interfaces (u16_in order (piece front 8 2)))
    else skipped (length_in order front)

pub block_is : (order : Order) (interfaces : List Interface) (front : List ℕ) → block_in order interfaces front ≡ block_by (kind_in order front) order interfaces front
unfolding block_in
block_is order interfaces front = refl

-- how many bytes of fields they have
pub section_fields : fields_of 0x0A0D0D0A ≡ 24
unfolding fields_of
section_fields = refl

pub interface_fields : fields_of 1 ≡ 16
unfolding fields_of
interface_fields = refl

pub packet_fields : fields_of 6 ≡ 24
unfolding fields_of
packet_fields = refl

pub old_fields : fields_of 2 ≡ 24
unfolding fields_of
old_fields = refl

pub simple_fields : fields_of 3 ≡ 12
unfolding fields_of
simple_fields = refl

pub fields_other : (k : ℕ) → k ≢ 0x0A0D0D0A → k ≢ 1 → k ≢ 6 → k ≢ 2 → k ≢ 3 → fields_of k ≡ 8
unfolding fields_of
fields_other k a b c d e = rw (ne_eqb k 0x0A0D0D0A a) (rw (ne_eqb k 1 b) (rw (ne_eqb k 3 e) (rw (ne_eqb k 6 c) (rw (ne_eqb k 2 d) refl))))

pub by_other : (k : ℕ) (order : Order) (interfaces : List Interface) (front : List ℕ) → k ≢ 0x0A0D0D0A → k ≢ 1 → k ≢ 6 → k ≢ 2 → k ≢ 3
    → block_by k order interfaces front ≡ skipped (length_in order front)
by_other k order interfaces front a b c d e = rw (ne_eqb k 0x0A0D0D0A a) (rw (ne_eqb k 1 b) (rw (ne_eqb k 3 e) (rw (ne_eqb k 6 c) (rw (ne_eqb k 2 d) refl))))

-- lengths that may be, and others
pub long_enough : (fewest n : ℕ) → fewest ≤ n → n % 4 ≡ 0 → is_length fewest n ≡ true
long_enough fewest n h e = grind (arith, le-leb)

not_long : (fewest n : ℕ) → IsNoLength fewest n → is_length fewest n ≡ false
not_long fewest n (inl few) = rw (lt-leb fewest n few) refl
not_long fewest n (inr uneven) = grind (arith, ne_eqb)

-- pieces of the first bytes
pub inside : (b : List ℕ) (f at n : ℕ) → at + n ≤ f → piece (take f b) at n ≡ piece b at n
inside b f place n h = piece_within b 0 f place n h ∙ ap (λ j. piece b j n) (let same : 0 + place ≡ place = omega arith in same)

module _ (order : Order) (interfaces : List Interface) (b : List ℕ) where
  fields_met : (kind f : ℕ) → kind_in order b ≡ kind → fields_of kind ≡ f → 8 ≤ f → fields_of (kind_in order b) ≤ length b
      → met order interfaces Block b ≡ block_by kind order interfaces (take f b)
  unfolding met
  fields_met kind f is size fewest enough =
      let fields : fields_of (kind_in order b) ≡ f = ap fields_of is ∙ size in
      begins_whole order interfaces b (omega (arith, fewest, fields, enough)) enough
      ∙ ap (λ j. block_in order interfaces (take j b)) fields
      ∙ block_is order interfaces (take f b)
      ∙ ap (λ k. block_by k order interfaces (take f b)) (ap (u32_in order) (inside b f 0 4 (omega (arith, fewest))) ∙ is)

  pub section_met : kind_in order b ≡ 0x0A0D0D0A → fields_of (kind_in order b) ≤ length b → met order interfaces Block b ≡ section b
  section_met is enough =
      fields_met 0x0A0D0D0A 24 is section_fields (omega arith) enough
      ∙ ap (λ l. section_in (order_by l) (take 24 b)) (inside b 24 8 4 (omega arith))
      ∙ section_same (order_by (piece b 8 4))
    where
      section_same : (o : Option Order) → section_in o (take 24 b) ≡ section_in o b
      section_same None = refl
      section_same (Some own) = grind (arith, inside)

  interface_met : kind_in order b ≡ 1 → fields_of (kind_in order b) ≤ length b → met order interfaces Block b ≡ interface_in order interfaces b
  interface_met is enough = fields_met 1 16 is interface_fields (omega arith) enough ∙ same
    where
      same : interface_in order interfaces (take 16 b) ≡ interface_in order interfaces b
      same = grind (arith, inside)

  simple_met : kind_in order b ≡ 3 → fields_of (kind_in order b) ≤ length b → met order interfaces Block b ≡ simple_in order (slice_get interfaces 0) b
  simple_met is enough =
      fields_met 3 12 is simple_fields (omega arith) enough
      ∙ by_first (slice_get interfaces 0)
    where
      by_first : (first : Option Interface) → simple_in order first (take 12 b) ≡ simple_in order first b
      by_first None = refl
      by_first (Some i) =
          ap (λ l. packet_in 16 8 (kept_by i.most (u32_in order l)) (length_in order (take 12 b)) (Some i)) (inside b 12 8 4 (omega arith))
          ∙ ap (λ l. packet_in 16 8 (kept_by i.most (u32_in order (piece b 8 4))) (u32_in order l) (Some i)) (inside b 12 4 4 (omega arith))

  packet_same : (found : List ℕ → Option Interface) → found (take 24 b) ≡ found b
      → packet_in 32 24 (u32_in order (piece (take 24 b) 20 4)) (length_in order (take 24 b)) (found (take 24 b))
      ≡ packet_in 32 24 (u32_in order (piece b 20 4)) (length_in order b) (found b)
  packet_same found same =
      ap (λ l. packet_in 32 24 (u32_in order l) (length_in order (take 24 b)) (found (take 24 b))) (inside b 24 20 4 (omega arith))
      ∙ ap (λ l. packet_in 32 24 (u32_in order (piece b 20 4)) (u32_in order l) (found (take 24 b))) (inside b 24 4 4 (omega arith))
      ∙ ap (packet_in 32 24 (u32_in order (piece b 20 4)) (length_in order b)) same

  enhanced_met : kind_in order b ≡ 6 → fields_of (kind_in order b) ≤ length b
      → met order interfaces Block b ≡ packet_in 32 24 (u32_in order (piece b 20 4)) (length_in order b) (slice_get interfaces (u32_in order (piece b 8 4)))
  enhanced_met is enough =
      fields_met 6 24 is packet_fields (omega arith) enough
      ∙ packet_same (λ l. slice_get interfaces (u32_in order (piece l 8 4))) (ap (λ l. slice_get interfaces (u32_in order l)) (inside b 24 8 4 (omega arith)))

  old_met : kind_in order b ≡ 2 → fields_of (kind_in order b) ≤ length b
      → met order interfaces Block b ≡ packet_in 32 24 (u32_in order (piece b 20 4)) (length_in order b) (slice_get interfaces (u16_in order (piece b 8 2)))
  old_met is enough =
      fields_met 2 24 is old_fields (omega arith) enough
      ∙ packet_same (λ l. slice_get interfaces (u16_in order (piece l 8 2))) (ap (λ l. slice_get interfaces (u16_in order l)) (inside b 24 8 2 (omega arith)))

  pub announced_met : (of : Interface) (front kept : ℕ) → Announces order interfaces b of front kept → fields_of (kind_in order b) ≤ length b
      → met order interfaces Block b ≡ packet_in (front + 8) front kept (length_in order b) (Some of)
  announced_met of _ _ (form.enhanced is found) enough = enhanced_met is enough ∙ ap (packet_in 32 24 (u32_in order (piece b 20 4)) (length_in order b)) found
  announced_met of _ _ (form.old is found) enough = old_met is enough ∙ ap (packet_in 32 24 (u32_in order (piece b 20 4)) (length_in order b)) found
  announced_met of _ _ (form.simple is found) enough = simple_met is enough ∙ ap (λ o. simple_in order o b) found

  other_met : kind_in order b ≢ 0x0A0D0D0A → kind_in order b ≢ 1 → kind_in order b ≢ 6 → kind_in order b ≢ 2 → kind_in order b ≢ 3
      → fields_of (kind_in order b) ≤ length b → met order interfaces Block b ≡ skipped (length_in order b)
  other_met n1 n2 n3 n4 n5 enough =
      fields_met (kind_in order b) 8 refl (fields_other (kind_in order b) n1 n2 n3 n4 n5) (omega arith) enough
      ∙ by_other (kind_in order b) order interfaces (take 8 b) n1 n2 n3 n4 n5
      ∙ ap (λ l. skipped (u32_in order l)) (inside b 8 4 4 (omega arith))

module _ (here : Place) (b : List ℕ) (enough : fields_of (kind_in here.order b) ≤ length b) where
  -- each fault of fields is met
  of_none_met : IsOfNone here b → met here.order here.interfaces Block b ≡ Err NoInterface
  of_none_met (say.enhanced is missing) =
      enhanced_met here.order here.interfaces b is enough ∙ ap (packet_in 32 24 (u32_in here.order (piece b 20 4)) (length_in here.order b)) missing
  of_none_met (say.old is missing) = old_met here.order here.interfaces b is enough ∙ ap (packet_in 32 24 (u32_in here.order (piece b 20 4)) (length_in here.order b)) missing
  of_none_met (say.simple is missing) = simple_met here.order here.interfaces b is enough ∙ ap (λ o. simple_in here.order o b) missing

  too_long : (of : Interface) (front kept : ℕ) → Means here b (Keeps of front kept) → most_kept < kept → met here.order here.interfaces Block b ≡ Err RecordLong
  too_long of front kept (say.packet announced) many = announced_met here.order here.interfaces b of front kept announced enough ∙ (rw (lt-ltb most_kept kept many) refl)

  section_length : (own : Order) (found : Option Order) → found ≡ Some own → u16_in own (piece b 12 2) ≡ 1 → is_length 28 (length_in own b) ≡ false → section_in found b ≡ Err BlockLength
  section_length own found is version bad = grind arith

  packet_length : (of : Interface) (front kept : ℕ) → kept ≤ most_kept → IsNoLength (front + 4 + kept + 4) (length_in here.order b)
      → packet_in (front + 8) front kept (length_in here.order b) (Some of) ≡ Err BlockLength
  packet_length of front kept few bad =
      let sum : front + 4 + kept + 4 ≡ front + 8 + kept = omega arith in
      rw (le-ltb most_kept kept few) (rw (ap (λ j. is_length j (length_in here.order b)) (sym sum) ∙ not_long (front + 4 + kept + 4) (length_in here.order b) bad) refl)

  bad_length : (meaning : BlockMeaning) → Means here b meaning → say.IsKept meaning → IsNoLength (least meaning) (size_in here b meaning) → met here.order here.interfaces Block b ≡ Err BlockLength
  bad_length (Begins own) (say.section is order version) few bad =
      section_met here.order here.interfaces b is enough ∙ section_length own (order_by (piece b 8 4)) order version (not_long 28 (length_in own b) bad)
  bad_length Describes (say.interface is) few bad = interface_met here.order here.interfaces b is enough ∙ (rw (not_long 20 (length_in here.order b) bad) refl)
  bad_length (Keeps of front kept) (say.packet announced) few bad =
      announced_met here.order here.interfaces b of front kept announced enough ∙ packet_length of front kept few bad
  bad_length Nothing (say.other n1 n2 n3 n4 n5) few bad =
      other_met here.order here.interfaces b n1 n2 n3 n4 n5 enough ∙ (rw (not_long 12 (length_in here.order b) bad) refl)

  too_many : Means here b Describes → IsLength 20 (size_in here b Describes) → 256 ≤ length here.interfaces → met here.order here.interfaces Block b ≡ Err ManyInterfaces
  too_many (say.interface is) good many =
      interface_met here.order here.interfaces b is enough ∙ (rw (long_enough 20 (length_in here.order b) good.enough good.fours) (rw (le-leb 256 (length here.interfaces) many) refl))

  version_met : (own : Order) (found : Option Order) → found ≡ Some own → u16_in own (piece b 12 2) ≢ 1 → section_in found b ≡ Err Version
  version_met own found is another = ap (λ o. section_in o b) is ∙ (rw (ne_eqb (u16_in own (piece b 12 2)) 1 another) refl)

  pub wrong_met : (fault : RecordingFault) → IsWrong here b fault → met here.order here.interfaces Block b ≡ Err fault
  wrong_met _ (no_order is missing) = section_met here.order here.interfaces b is enough ∙ ap (λ o. section_in o b) missing
  wrong_met _ (other_version {order} is found another) = section_met here.order here.interfaces b is enough ∙ version_met order (order_by (piece b 8 4)) found another
  wrong_met _ (of_none missing) = of_none_met missing
  wrong_met _ (long {of} {front} {kept} says many) = too_long of front kept says many
  wrong_met _ (no_length {meaning} says few bad) = bad_length meaning says few bad
  wrong_met _ (no_room says good many) = too_many says good many

  -- fields without a fault
  section_good : (own : Order) (found : Option Order) → found ≡ Some own → u16_in own (piece b 12 2) ≡ 1 → is_length 28 (length_in own b) ≡ true
      → section_in found b ≡ Ok (Section own (Rest (length_in own b - 28) (length_in own b)))
  section_good own found is version good = grind arith

  pub begins_met : (own : Order) → IsSound here b (Begins own) → met here.order here.interfaces Block b ≡ Ok (Section own (Rest (length_in own b - (24 + 4)) (length_in own b)))
  begins_met own sound = by sound.means
    where
      by : Means here b (Begins own) → met here.order here.interfaces Block b ≡ Ok (Section own (Rest (length_in own b - (24 + 4)) (length_in own b)))
      by (say.section is order version) =
          section_met here.order here.interfaces b is enough
          ∙ section_good own (order_by (piece b 8 4)) order version (long_enough 28 (length_in own b) sound.long.enough sound.long.fours)

  pub describes_met : IsSound here b Describes
      → met here.order here.interfaces Block b
      ≡ Ok (Described (record { link = u16_in here.order (piece b 8 2); most = u32_in here.order (piece b 12 4) }) (Rest (length_in here.order b - (16 + 4)) (length_in here.order b)))
  describes_met sound = by sound.means
    where
      by : Means here b Describes
          → met here.order here.interfaces Block b
          ≡ Ok (Described (record { link = u16_in here.order (piece b 8 2); most = u32_in here.order (piece b 12 4) }) (Rest (length_in here.order b - (16 + 4)) (length_in here.order b)))
      by (say.interface is) =
          interface_met here.order here.interfaces b is enough
          ∙ (rw (long_enough 20 (length_in here.order b) sound.long.enough sound.long.fours) (rw (lt-leb 256 (length here.interfaces) sound.room) refl))

  pub nothing_met : IsSound here b Nothing → met here.order here.interfaces Block b ≡ Ok (Passed 8 (Rest (length_in here.order b - (8 + 4)) (length_in here.order b)))
  nothing_met sound = by sound.means
    where
      by : Means here b Nothing → met here.order here.interfaces Block b ≡ Ok (Passed 8 (Rest (length_in here.order b - (8 + 4)) (length_in here.order b)))
      by (say.other n1 n2 n3 n4 n5) =
          other_met here.order here.interfaces b n1 n2 n3 n4 n5 enough ∙ (rw (long_enough 12 (length_in here.order b) sound.long.enough sound.long.fours) refl)

  packet_good : (of : Interface) (front kept n : ℕ) → kept ≤ most_kept → IsLength (front + 4 + kept + 4) n
      → packet_in (front + 8) front kept n (Some of) ≡ Ok (Passed front (Packet of.link kept (n - (front + 4 + kept + 4)) n))
  packet_good of front kept n few good =
      let sum : front + 8 + kept ≡ front + 4 + kept + 4 = omega arith in
      rw (le-ltb most_kept kept few) (rw (long_enough (front + 8 + kept) n (omega (arith, good.enough)) good.fours) (ap (λ j. Ok (Passed front (Packet of.link kept (n - j) n))) sum))

  pub keeps_met : (of : Interface) (front kept : ℕ) → IsSound here b (Keeps of front kept)
      → met here.order here.interfaces Block b ≡ Ok (Passed front (Packet of.link kept (length_in here.order b - (front + 4 + kept + 4)) (length_in here.order b)))
  keeps_met of front kept sound = by sound.means
    where
      by : Means here b (Keeps of front kept)
          → met here.order here.interfaces Block b ≡ Ok (Passed front (Packet of.link kept (length_in here.order b - (front + 4 + kept + 4)) (length_in here.order b)))
      by (say.packet announced) = announced_met here.order here.interfaces b of front kept announced enough ∙ packet_good of front kept (length_in here.order b) sound.kept sound.long
