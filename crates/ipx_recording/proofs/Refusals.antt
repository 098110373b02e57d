-- Bytes that begin with no block are refused, and those that begin with one aren't.
use Rattle.std.proofs.Common.{◌≡◌, ◌≢◌, ℕ, ◌+◌, ◌-◌, ◌<◌, ◌≤◌, List, [], ◌∷◌, ◌++◌, length, drop, refl, inl, inr, sym, ap, ◌∙◌, arith, Ok, Some, length-drop, drop-drop}
use Rattle.std.proofs.lemmas.Bool.{lt-leb, le-leb, cases_lt}
use Rattle.ipx_wire.specs.Piece.{piece}
use Rattle.ipx_capture.specs.Order.{u16_in, u32_in}
use Rattle.ipx_capture.specs.declared.order.Order.{Order}
use Rattle.ipx_recording.specs.Blocks.{Announces}
use Rattle.ipx_recording.specs.Blocks as form
use Rattle.ipx_recording.specs.Chain.{Place}
use Rattle.ipx_recording.specs.Differs.{BlockMeaning, Begins, Describes, Keeps, Nothing, Means, IsSound, Differs, size_in, order_of, least, shown, no_kind, no_fields, wrong, cut, two_lengths}
use Rattle.ipx_recording.specs.Differs as say
use Rattle.ipx_recording.specs.Met.{met, fields_of, kind_in, length_in}
use Rattle.ipx_recording.specs.Recorded.{State, Recorded, Contents, prepend, packets_from, end_at}
use Rattle.ipx_recording.specs.declared.due.Due.TheVariants.{Block, Packet, Rest}
use Rattle.ipx_recording.specs.declared.interface.Interface.{Interface}
use Rattle.ipx_recording.specs.declared.met.Met.TheVariants.{Wants, Passed, Described, Section}
use Rattle.ipx_recording.specs.declared.recording_fault.RecordingFault.{RecordingFault}
use Rattle.ipx_recording.specs.declared.recording_fault.RecordingFault.TheVariants.{LengthAgain, CutBlock}
use Rattle.ipx_recording.proofs.Behind.{stands, one_fault, packet_cut, packet_there, close_cut, close_wrong, close_right}
use Rattle.ipx_recording.proofs.Fields.{section_fields, interface_fields, packet_fields, old_fields, simple_fields, fields_other, wrong_met, begins_met, describes_met, keeps_met, nothing_met}
use Rattle.ipx_recording.proofs.Parts.{one_part, ended}
use Rattle.ipx_recording.proofs.Sizes.{begins_few, begins_cut}

-- what is read from a place on
abbrev pub from : Place → List ℕ → Contents
from here b = packets_from (stands here.order here.interfaces Block) here.number b

-- too few bytes for a block
end_some : (b : List ℕ) → 0 < length b → end_at Block b ≡ Some CutBlock
end_some [] some = absurd (omega arith)
end_some (x ∷ b) some = refl

module _ (here : Place) (b : List ℕ) where
  kind_met : length b < 8 → met here.order here.interfaces Block b ≡ Ok (Wants 8)
  unfolding met
  kind_met few = begins_few here.order here.interfaces b few

  fields_met : 8 ≤ length b → length b < fields_of (kind_in here.order b) → met here.order here.interfaces Block b ≡ Ok (Wants (fields_of (kind_in here.order b)))
  unfolding met
  fields_met some few = begins_cut here.order here.interfaces b some few

  cut_kind : 0 < length b → length b < 8 → from here b ≡ record { records = []; fault = Some CutBlock }
  cut_kind some few =
      ended (stands here.order here.interfaces Block) here.number b 8 (kind_met few) ∙ ap (λ x. record { records = []; fault = x }) (end_some b some)

  cut_fields : 8 ≤ length b → length b < fields_of (kind_in here.order b) → from here b ≡ record { records = []; fault = Some CutBlock }
  cut_fields some few =
      ended (stands here.order here.interfaces Block) here.number b (fields_of (kind_in here.order b)) (fields_met some few)
      ∙ ap (λ x. record { records = []; fault = x }) (end_some b (omega (arith, some)))

  -- the fields of a block are part of it
  announced_within : (of : Interface) (front kept : ℕ) → Announces here.order here.interfaces b of front kept → fields_of (kind_in here.order b) ≤ front + 4
  announced_within _ _ _ (form.enhanced is found) = omega (arith, ap fields_of is, packet_fields)
  announced_within _ _ _ (form.old is found) = omega (arith, ap fields_of is, old_fields)
  announced_within _ _ _ (form.simple is found) = omega (arith, ap fields_of is, simple_fields)

  says_within : (meaning : BlockMeaning) → Means here b meaning → fields_of (kind_in here.order b) ≤ least meaning
  says_within _ (say.section is order version) = omega (arith, ap fields_of is, section_fields)
  says_within _ (say.interface is) = omega (arith, ap fields_of is, interface_fields)
  says_within _ (say.packet {of} {front} {kept} announced) = omega (arith, announced_within of front kept announced)
  says_within _ (say.other n1 n2 n3 n4 n5) = omega (arith, fields_other (kind_in here.order b) n1 n2 n3 n4 n5)

  pub fields_there : (meaning : BlockMeaning) → IsSound here b meaning → size_in here b meaning ≤ length b → fields_of (kind_in here.order b) ≤ length b
  fields_there meaning sound enough = omega (arith, says_within meaning sound.means, sound.long.enough, enough)

  -- where a block goes on behind its fields
  no_more : here.number + 0 ≡ here.number
  no_more = omega arith

module _ (here : Place) (b : List ℕ) (there : fields_of (kind_in here.order b) ≤ length b) where
  behind_section : (own : Order) → IsSound here b (Begins own)
      → from here b ≡ packets_from (stands own [] (Rest (length_in own b - (24 + 4)) (length_in own b))) here.number (drop 24 b)
  behind_section own sound =
      one_part (stands here.order here.interfaces Block) here.number b (Section own (Rest (length_in own b - (24 + 4)) (length_in own b))) (begins_met here b there own sound) refl
      ∙ ap (λ j. packets_from (stands own [] (Rest (length_in own b - (24 + 4)) (length_in own b))) j (drop 24 b)) (no_more here b)

  behind_interface : IsSound here b Describes
      → from here b
      ≡ packets_from (stands here.order (here.interfaces ++ record { link = u16_in here.order (piece b 8 2); most = u32_in here.order (piece b 12 4) } ∷ [])
      (Rest (length_in here.order b - (16 + 4)) (length_in here.order b))) here.number (drop 16 b)
  behind_interface sound =
      let i : Interface = record { link = u16_in here.order (piece b 8 2); most = u32_in here.order (piece b 12 4) } in
      one_part (stands here.order here.interfaces Block) here.number b (Described i (Rest (length_in here.order b - (16 + 4)) (length_in here.order b))) (describes_met here b there sound) refl
      ∙ ap (λ j. packets_from (stands here.order (here.interfaces ++ i ∷ []) (Rest (length_in here.order b - (16 + 4)) (length_in here.order b))) j (drop 16 b)) (no_more here b)

  behind_nothing : IsSound here b Nothing
      → from here b ≡ packets_from (stands here.order here.interfaces (Rest (length_in here.order b - (8 + 4)) (length_in here.order b))) here.number (drop 8 b)
  behind_nothing sound =
      one_part (stands here.order here.interfaces Block) here.number b (Passed 8 (Rest (length_in here.order b - (8 + 4)) (length_in here.order b))) (nothing_met here b there sound) refl
      ∙ ap (λ j. packets_from (stands here.order here.interfaces (Rest (length_in here.order b - (8 + 4)) (length_in here.order b))) j (drop 8 b)) (no_more here b)

  behind_packet : (of : Interface) (front kept : ℕ) → IsSound here b (Keeps of front kept)
      → from here b
      ≡ packets_from (stands here.order here.interfaces (Packet of.link kept (length_in here.order b - (front + 4 + kept + 4)) (length_in here.order b))) here.number (drop front b)
  behind_packet of front kept sound =
      one_part (stands here.order here.interfaces Block) here.number b (Passed front (Packet of.link kept (length_in here.order b - (front + 4 + kept + 4)) (length_in here.order b)))
      (keeps_met here b there of front kept sound) refl
      ∙ ap (λ j. packets_from (stands here.order here.interfaces (Packet of.link kept (length_in here.order b - (front + 4 + kept + 4)) (length_in here.order b))) j (drop front b))
      (no_more here b)

  -- the packet of a block
  abbrev pub kept_packet : Interface → ℕ → ℕ → Recorded
  kept_packet of front kept =
      record { number = here.number; link = of.link; wire = u32_in here.order (piece b front 4); bytes = piece b (front + 4) kept }

  packet_bytes : (front kept : ℕ) → piece (drop front b) 4 kept ≡ piece b (front + 4) kept
  packet_bytes front kept = ap (λ l. piece l 0 kept) (drop-drop 4 front b)

  packet_first : (of : Interface) (front kept : ℕ) → IsSound here b (Keeps of front kept) → front + 4 + kept ≤ length b
      → from here b ≡ prepend (kept_packet of front kept ∷ [])
      (packets_from (stands here.order here.interfaces (Rest (length_in here.order b - (front + 4 + kept + 4)) (length_in here.order b))) (here.number + 1) (drop (front + 4 + kept) b))
  packet_first of front kept sound enough =
      let left : ℕ = length_in here.order b - (front + 4 + kept + 4) in
      let n : ℕ = length_in here.order b in
      let after : State = stands here.order here.interfaces (Rest left n) in
      behind_packet of front kept sound
      ∙ packet_there here.order here.interfaces of.link kept left n here.number (drop front b) (omega (arith, length-drop front b, enough))
      ∙ ap (λ l. prepend (record { number = here.number; link = of.link; wire = u32_in here.order (piece b front 4); bytes = l } ∷ []) (packets_from after (here.number + 1) (drop (4 + kept) (drop front b))))
      (packet_bytes front kept)
      ∙ ap (λ l. prepend (kept_packet of front kept ∷ []) (packets_from after (here.number + 1) l))
      (drop-drop (4 + kept) front b ∙ ap (λ j. drop j b) (let sum : front + (4 + kept) ≡ front + 4 + kept = omega arith in sum))

  pub shown_there : (of : Interface) (front kept : ℕ) → front + 4 + kept ≤ length b → shown here b (Keeps of front kept) ≡ kept_packet of front kept ∷ []
  shown_there of front kept enough = rw (le-leb (front + 4 + kept) (length b) enough) refl

  shown_cut : (of : Interface) (front kept : ℕ) → length b < front + 4 + kept → shown here b (Keeps of front kept) ≡ []
  shown_cut of front kept few = rw (lt-leb (front + 4 + kept) (length b) few) refl

  abbrev refusing : BlockMeaning → RecordingFault → Contents
  refusing meaning fault = record { records = shown here b meaning; fault = Some fault }

  -- a file that ends inside a block
  cut_inside : (meaning : BlockMeaning) → IsSound here b meaning → length b < size_in here b meaning → from here b ≡ refusing meaning CutBlock
  cut_inside (Begins own) sound few =
      behind_section own sound ∙ close_cut own [] 24 (length_in own b) here.number b (omega (arith, sound.long.enough)) few
  cut_inside Describes sound few =
      behind_interface sound
      ∙ close_cut here.order (here.interfaces ++ record { link = u16_in here.order (piece b 8 2); most = u32_in here.order (piece b 12 4) } ∷ []) 16 (length_in here.order b) here.number b (omega (arith, sound.long.enough)) few
  cut_inside (Keeps of front kept) sound few =
      elim (cases_lt (length b) (front + 4 + kept)) [
        | inl less ↦
            behind_packet of front kept sound
            ∙ packet_cut here.order here.interfaces of.link kept (length_in here.order b - (front + 4 + kept + 4)) (length_in here.order b) here.number (drop front b) (omega (arith, length-drop front b, less))
            ∙ ap (λ rs. record { records = rs; fault = Some CutBlock }) (sym (shown_cut of front kept less))
        | inr enough ↦
            packet_first of front kept sound enough
            ∙ ap (prepend (kept_packet of front kept ∷ []))
            (close_cut here.order here.interfaces (front + 4 + kept) (length_in here.order b) (here.number + 1) b sound.long.enough few)
            ∙ ap (λ rs. record { records = rs; fault = Some CutBlock }) (sym (shown_there of front kept enough))
      ]
  cut_inside Nothing sound few =
      behind_nothing sound ∙ close_cut here.order here.interfaces 8 (length_in here.order b) here.number b (omega (arith, sound.long.enough)) few

  abbrev last : BlockMeaning → ℕ
  last meaning = u32_in (order_of here meaning) (piece b (size_in here b meaning - 4) 4)

  -- a block with two lengths
  lengths_differ : (meaning : BlockMeaning) → IsSound here b meaning → size_in here b meaning ≤ length b → last meaning ≢ size_in here b meaning → from here b ≡ refusing meaning LengthAgain
  lengths_differ (Begins own) sound enough another =
      behind_section own sound ∙ close_wrong own [] 24 (length_in own b) here.number b (omega (arith, sound.long.enough)) enough another
  lengths_differ Describes sound enough another =
      behind_interface sound
      ∙ close_wrong here.order (here.interfaces ++ record { link = u16_in here.order (piece b 8 2); most = u32_in here.order (piece b 12 4) } ∷ []) 16 (length_in here.order b) here.number b
      (omega (arith, sound.long.enough)) enough another
  lengths_differ (Keeps of front kept) sound enough another =
      let whole : front + 4 + kept ≤ length b = omega (arith, sound.long.enough, enough) in
      packet_first of front kept sound whole
      ∙ ap (prepend (kept_packet of front kept ∷ []))
      (close_wrong here.order here.interfaces (front + 4 + kept) (length_in here.order b) (here.number + 1) b sound.long.enough enough another)
      ∙ ap (λ rs. record { records = rs; fault = Some LengthAgain }) (sym (shown_there of front kept whole))
  lengths_differ Nothing sound enough another =
      behind_nothing sound ∙ close_wrong here.order here.interfaces 8 (length_in here.order b) here.number b (omega (arith, sound.long.enough)) enough another

  -- a packet in a whole block
  pub packet_whole : (of : Interface) (front kept : ℕ) → IsSound here b (Keeps of front kept) → length_in here.order b ≤ length b
      → u32_in here.order (piece b (length_in here.order b - 4) 4) ≡ length_in here.order b
      → from here b ≡ prepend (kept_packet of front kept ∷ []) (packets_from (stands here.order here.interfaces Block) (here.number + 1) (drop (length_in here.order b) b))
  packet_whole of front kept sound enough same =
      packet_first of front kept sound (omega (arith, sound.long.enough, enough))
      ∙ ap (prepend (kept_packet of front kept ∷ []))
      (close_right here.order here.interfaces (front + 4 + kept) (length_in here.order b) (here.number + 1) b sound.long.enough enough same)

-- whatever differs is refused
pub differing : (here : Place) (b : List ℕ) (records : List Recorded) (fault : RecordingFault) → Differs here b records fault
    → from here b ≡ record { records = records; fault = Some fault }
differing here b _ _ (no_kind some few) = cut_kind here b some few
differing here b _ _ (no_fields some few) = cut_fields here b some few
differing here b _ _ (wrong {fault} some there is) =
    one_fault (stands here.order here.interfaces Block) here.number b fault (wrong_met here b there fault is)
differing here b _ _ (cut {meaning} there sound few) = cut_inside here b there meaning sound few
differing here b _ _ (two_lengths {meaning} sound enough another) = lengths_differ here b (fields_there here b meaning sound enough) meaning sound enough another
