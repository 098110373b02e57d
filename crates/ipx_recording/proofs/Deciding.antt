-- Whatever the bytes are, they are a recording, or they differ from one at a block.
use Rattle.std.proofs.Common.{◌≡◌, ◌≢◌, ℕ, zero, suc, ◌+◌, ◌-◌, ◌%◌, ◌<◌, ◌≤◌, subst, List, [], ◌∷◌, ◌++◌, length, take, drop, slice_get, refl, inl, inr, sym, ap, ◌∙◌, arith, Option, Some, None, append_assoc, length-drop}
use Rattle.std.proofs.lemmas.Bool.{cases_lt, cases_eq}
use Rattle.std.proofs.lemmas.List.{get_or-drop, take-append-drop}
use Rattle.ipx_wire.specs.Piece.{piece, IsBytes}
use Rattle.ipx_capture.specs.Order.{u16_in, u32_in}
use Rattle.ipx_capture.specs.Records.{most_kept}
use Rattle.ipx_capture.specs.declared.order.Order.{Order}
use Rattle.ipx_recording.specs.Blocks.{Announces}
use Rattle.ipx_recording.specs.Blocks as form
use Rattle.ipx_recording.specs.Chain.{Place, IsBlock, AreBlocks, none, more}
use Rattle.ipx_recording.specs.Differs.{BlockMeaning, Begins, Describes, Keeps, Nothing, Means, IsOfNone, IsWrong, IsSound, IsKept, HasRoom, IsLength, IsNoLength, Differs, size_in, least, order_of, shown, no_order, other_version, of_none, long, no_length, no_room, no_kind, no_fields, wrong, cut, two_lengths}
use Rattle.ipx_recording.specs.Differs as say
use Rattle.ipx_recording.specs.Met.{fields_of, kind_in, order_by}
use Rattle.ipx_recording.specs.Recorded.{Recorded}
use Rattle.ipx_recording.specs.declared.interface.Interface.{Interface}
use Rattle.ipx_recording.specs.declared.recording_fault.RecordingFault.{RecordingFault}
use Rattle.ipx_recording.proofs.Building.{Built, built, build}

-- fields have a fault, or say something
data Fields (here : Place) (b : List ℕ) : Type 0 where
  faulty : {fault : RecordingFault} → IsWrong here b fault → Fields here b
  telling : {meaning : BlockMeaning} → Means here b meaning → Fields here b

module _ (here : Place) (b : List ℕ) where
  section_fields : kind_in here.order b ≡ 0x0A0D0D0A → (found : Option Order) → order_by (piece b 8 4) ≡ found → Fields here b
  section_fields is None missing = faulty (no_order is missing)
  section_fields is (Some own) found =
      elim (cases_eq (u16_in own (piece b 12 2)) 1) [
        | inl version ↦ telling (say.section is found version)
        | inr another ↦ faulty (other_version is found another)
      ]

  simple_fields : kind_in here.order b ≡ 3 → (found : Option Interface) → slice_get here.interfaces 0 ≡ found → Fields here b
  simple_fields is None missing = faulty (of_none (say.simple is missing))
  simple_fields is (Some of) found = telling (say.packet (form.simple is found))

  enhanced_fields : kind_in here.order b ≡ 6 → (found : Option Interface) → slice_get here.interfaces (u32_in here.order (piece b 8 4)) ≡ found → Fields here b
  enhanced_fields is None missing = faulty (of_none (say.enhanced is missing))
  enhanced_fields is (Some of) found = telling (say.packet (form.enhanced is found))

  old_fields : kind_in here.order b ≡ 2 → (found : Option Interface) → slice_get here.interfaces (u16_in here.order (piece b 8 2)) ≡ found → Fields here b
  old_fields is None missing = faulty (of_none (say.old is missing))
  old_fields is (Some of) found = telling (say.packet (form.old is found))

  packet_fields : kind_in here.order b ≢ 0x0A0D0D0A → kind_in here.order b ≢ 1 → Fields here b
  packet_fields n1 n2 =
      elim (cases_eq (kind_in here.order b) 6) [
        | inl is ↦ enhanced_fields is (slice_get here.interfaces (u32_in here.order (piece b 8 4))) refl
        | inr n3 ↦ elim (cases_eq (kind_in here.order b) 2) [
          | inl is ↦ old_fields is (slice_get here.interfaces (u16_in here.order (piece b 8 2))) refl
          | inr n4 ↦ elim (cases_eq (kind_in here.order b) 3) [
            | inl is ↦ simple_fields is (slice_get here.interfaces 0) refl
            | inr n5 ↦ telling (say.other n1 n2 n3 n4 n5)
          ]
        ]
      ]

  fields : Fields here b
  fields =
      elim (cases_eq (kind_in here.order b) 0x0A0D0D0A) [
        | inl is ↦ section_fields is (order_by (piece b 8 4)) refl
        | inr n1 ↦ elim (cases_eq (kind_in here.order b) 1) [
          | inl is ↦ telling (say.interface is)
          | inr n2 ↦ packet_fields n1 n2
        ]
      ]

-- what says something has a fault, or is sound
data Sound (here : Place) (b : List ℕ) (meaning : BlockMeaning) : Type 0 where
  bad : {fault : RecordingFault} → IsWrong here b fault → Sound here b meaning
  good : IsSound here b meaning → Sound here b meaning

module _ (here : Place) (b : List ℕ) where
  with_room : (meaning : BlockMeaning) → Means here b meaning → IsKept meaning → IsLength (least meaning) (size_in here b meaning) → Sound here b meaning
  with_room (Begins own) says kept length = good (record { means = says; kept = kept; long = length; room = tt })
  with_room Describes says kept size =
      elim (cases_lt (length here.interfaces) 256) [
        | inl room ↦ good (record { means = says; kept = kept; long = size; room = room })
        | inr many ↦ bad (no_room says size many)
      ]
  with_room (Keeps of front kept) says few length = good (record { means = says; kept = few; long = length; room = tt })
  with_room Nothing says kept length = good (record { means = says; kept = kept; long = length; room = tt })

  with_length : (meaning : BlockMeaning) → Means here b meaning → IsKept meaning → Sound here b meaning
  with_length meaning says kept =
      elim (cases_lt (size_in here b meaning) (least meaning)) [
        | inl few ↦ bad (no_length says kept (inl few))
        | inr enough ↦ elim (cases_eq (size_in here b meaning % 4) 0) [
          | inl fours ↦ with_room meaning says kept (record { enough = enough; fours = fours })
          | inr uneven ↦ bad (no_length says kept (inr uneven))
        ]
      ]

  sound : (meaning : BlockMeaning) → Means here b meaning → Sound here b meaning
  sound (Begins own) says = with_length (Begins own) says tt
  sound Describes says = with_length Describes says tt
  sound (Keeps of front kept) says =
      elim (cases_lt most_kept kept) [
        | inl many ↦ bad (long says many)
        | inr few ↦ with_length (Keeps of front kept) says few
      ]
  sound Nothing says = with_length Nothing says tt

-- bytes begin with a block, or differ
data First (here : Place) (b : List ℕ) : Type 0 where
  block : {n : ℕ} {records : List Recorded} {next : Place} → 0 < n → n ≤ length b → IsBlock here (take n b) records next → First here b
  differs : {records : List Recorded} {fault : RecordingFault} → Differs here b records fault → First here b

module _ (here : Place) (b : List ℕ) (bytes : IsBytes b) where
  some_least : (meaning : BlockMeaning) → 0 < least meaning
  some_least (Begins own) = omega arith
  some_least Describes = omega arith
  some_least (Keeps of front kept) = omega arith
  some_least Nothing = omega arith

  first_built : (meaning : BlockMeaning) → IsSound here b meaning → size_in here b meaning ≤ length b → Built here b meaning → First here b
  first_built meaning is enough (built made) = block (omega (arith, is.long.enough, some_least meaning)) enough made

  first_sound : (meaning : BlockMeaning) → fields_of (kind_in here.order b) ≤ length b → IsSound here b meaning → First here b
  first_sound meaning there is =
      elim (cases_lt (length b) (size_in here b meaning)) [
        | inl few ↦ differs (cut there is few)
        | inr enough ↦ elim (cases_eq (u32_in (order_of here meaning) (piece b (size_in here b meaning - 4) 4)) (size_in here b meaning)) [
          | inl same ↦ first_built meaning is enough (build here b bytes meaning is enough same)
          | inr another ↦ differs (two_lengths is enough another)
        ]
      ]

  first_told : 8 ≤ length b → fields_of (kind_in here.order b) ≤ length b → (meaning : BlockMeaning) → Sound here b meaning → First here b
  first_told some there meaning (bad is) = differs (wrong some there is)
  first_told some there meaning (good is) = first_sound meaning there is

  first_fields : 8 ≤ length b → fields_of (kind_in here.order b) ≤ length b → Fields here b → First here b
  first_fields some there (faulty is) = differs (wrong some there is)
  first_fields some there (telling {meaning} says) = first_told some there meaning (sound here b meaning says)

  first : 0 < length b → First here b
  first some =
      elim (cases_lt (length b) 8) [
        | inl few ↦ differs (no_kind some few)
        | inr enough ↦ elim (cases_lt (length b) (fields_of (kind_in here.order b))) [
          | inl few ↦ differs (no_fields enough few)
          | inr there ↦ first_fields enough there (fields here b)
        ]
      ]

-- all bytes are blocks, or differ behind some
pub data Outcome (here : Place) (b : List ℕ) : Type 0 where
  whole : {records : List Recorded} {end : Place} → AreBlocks here b records end → Outcome here b
  stops : {front rest : List ℕ} {before shown : List Recorded} {end : Place} {fault : RecordingFault} → b ≡ front ++ rest → AreBlocks here front before end
      → Differs end rest shown fault → Outcome here b

bytes_behind : (n : ℕ) (b : List ℕ) → IsBytes b → IsBytes (drop n b)
bytes_behind n b bytes = λ k. rw (get_or-drop n b k 0) (bytes (n + k))

module _ (here next : Place) (n : ℕ) (b : List ℕ) (records : List Recorded) (is : IsBlock here (take n b) records next) where
  one_more : Outcome next (drop n b) → Outcome here b
  one_more (whole {records = later} {end} are) = whole (subst (λ l. AreBlocks here l (records ++ later) end) (take-append-drop n b) (more is are))
  one_more (stops {front} {rest} layout are there) =
      stops (sym (take-append-drop n b) ∙ ap (λ l. take n b ++ l) layout ∙ sym (append_assoc (take n b) front rest)) (more is are) there

by_first : (here : Place) (b : List ℕ) → ((next : Place) (n : ℕ) → 0 < n → n ≤ length b → Outcome next (drop n b)) → First here b → Outcome here b
by_first here b later (block {n} {records} {next} some there is) = one_more here next n b records is (later next n some there)
by_first here b later (differs is) = stops {front = []} refl none is

pub outcome : (most : ℕ) (here : Place) (b : List ℕ) → length b < most → IsBytes b → Outcome here b
outcome zero here b few bytes = absurd (omega arith)
outcome (suc most) here [] few bytes = whole none
outcome (suc most) here (x ∷ b) few bytes =
    by_first here (x ∷ b)
    (λ next n some there. outcome most next (drop n (x ∷ b)) (omega (arith, length-drop n (x ∷ b), few, some, there)) (bytes_behind n (x ∷ b) bytes))
    (first here (x ∷ b) bytes (omega arith))
