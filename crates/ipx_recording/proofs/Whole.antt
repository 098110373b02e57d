-- Whole blocks are read as what they are.
use Rattle.std.proofs.Common.{◌≡◌, true, false, ℕ, ◌+◌, ◌-◌, ◌%◌, ◌<◌, ◌≤◌, min, List, [], ◌∷◌, ◌++◌, length, take, drop, refl, sym, ap, ◌∙◌, arith, Option, Ok, Some, length-append, append_assoc, drop_at}
use Rattle.std.proofs.lemmas.Bool.{le-ltb, lt-leb}
use Rattle.ipx_wire.specs.Piece.{piece}
use Rattle.ipx_capture.specs.Order.{u16_in, u32_in}
use Rattle.ipx_capture.specs.declared.order.Order.{Order}
use Rattle.ipx_recording.specs.Blocks.{IsSection, IsInterface, IsOther}
use Rattle.ipx_recording.specs.Met.{met, section, section_in, interface_in, skipped, block_in, ends_block, fields_of, kind_in, length_in, order_by}
use Rattle.ipx_recording.specs.Recorded.{State, Recorded, size_of, is_wanting, packets, after, prepend, packets_from, recorded, begins, begun, behind_header, is_recording}
use Rattle.ipx_recording.specs.declared.due.Due.TheVariants.{Block, Rest}
use Rattle.ipx_recording.specs.declared.interface.Interface.{Interface}
use Rattle.ipx_recording.specs.declared.met.Met.{Met}
use Rattle.ipx_recording.specs.declared.met.Met.TheVariants.{Passed, Described, Section}
use Rattle.ipx_recording.proofs.Behind.{stands}
use Rattle.ipx_recording.proofs.Fields.{block_by, block_is, long_enough, fields_other, by_other, section_fields, interface_fields}
use Rattle.ipx_recording.proofs.Parts.{taken, skip_some, resting}
use Rattle.ipx_recording.proofs.Sizes.{begins_whole}
use Rattle.ipx_recording.proofs.Beginning.{begins_whole as begins_whole_file}
use Rattle.ipx_capture.proofs.First.{piece_append}
use Rattle.ipx_capture.specs.Frame.{begins as begins_with}
use Rattle.ipx_capture.specs.declared.order.Order.TheVariants.{Big, Little}

drop_all : (a : List ℕ) → drop (length a) a ≡ []
drop_all [] = refl
drop_all (x ∷ a) = drop_all a

take_all : (a : List ℕ) → take (length a) a ≡ a
take_all [] = refl
take_all (x ∷ a) = ap (λ l. x ∷ l) (take_all a)

piece_all : (a : List ℕ) → length a ≡ 4 → piece a 0 4 ≡ a
piece_all a four = ap (λ j. take j a) (sym four) ∙ take_all a

-- a part that is just these bytes
alone : (s t : State) (n k : ℕ) (a b : List ℕ) (m : Met) (ps : List Recorded) → met s.order s.interfaces s.due a ≡ Ok m → is_wanting m ≡ false → size_of m ≡ length a
    → after s m ≡ t → packets n a m ≡ ps → n + length ps ≡ k → packets_from s n (a ++ b) ≡ prepend ps (packets_from t k b)
alone s t n k a b m ps told sure size next shows count =
    let rest : drop (size_of m) a ++ b ≡ b = ap (λ j. drop j a ++ b) size ∙ ap (λ (l : List ℕ). l ++ b) (drop_all a) in
    taken s n a b m told sure
    ∙ ap (λ l. prepend l (packets_from (after s m) (n + length l) (drop (size_of m) a ++ b))) shows
    ∙ ap (λ l. prepend ps (packets_from (after s m) (n + length ps) l)) rest
    ∙ ap (λ x. prepend ps (packets_from x (n + length ps) b)) next
    ∙ ap (λ j. prepend ps (packets_from t j b)) count

-- the end of a block
again_is : (order : Order) (size : ℕ) (again : List ℕ) → length again ≡ 4 → u32_in order again ≡ size → ends_block order 0 size again ≡ Ok (Passed 4 Block)
again_is order size again four same = grind (arith, le-ltb, piece_all)

again_met : (order : Order) (interfaces : List Interface) (size : ℕ) (again : List ℕ) → length again ≡ 4 → u32_in order again ≡ size
    → met order interfaces (Rest 0 size) again ≡ Ok (Passed 4 Block)
unfolding met
again_met order interfaces size again four same = again_is order size again four same

pub block_ends : (order : Order) (interfaces : List Interface) (left size n : ℕ) (content again rest : List ℕ) → length content ≡ left → length again ≡ 4 → u32_in order again ≡ size
    → packets_from (stands order interfaces (Rest left size)) n (content ++ (again ++ rest)) ≡ packets_from (stands order interfaces Block) n rest
block_ends order interfaces left size n content again rest is four same =
    let all : left ≡ min left (length (content ++ (again ++ rest))) = omega (arith, is, length-append content (again ++ rest)) in
    skip_some order interfaces left size n left (content ++ (again ++ rest)) all
    ∙ ap (λ j. packets_from (resting order interfaces j size) n (drop left (content ++ (again ++ rest)))) (let none : left - left ≡ 0 = omega arith in none)
    ∙ ap (packets_from (resting order interfaces 0 size) n) (drop_at content (again ++ rest) left is)
    ∙ alone (resting order interfaces 0 size) (stands order interfaces Block) n n again rest (Passed 4 Block) [] (again_met order interfaces size again four same) refl (sym four) refl refl (omega arith)

-- the fields of a block, and no byte more
front_met : (order : Order) (interfaces : List Interface) (front : List ℕ) (kind : ℕ) → kind_in order front ≡ kind → 8 ≤ length front → fields_of kind ≡ length front
    → met order interfaces Block front ≡ block_by kind order interfaces front
unfolding met
front_met order interfaces front kind is some whole =
    let size : fields_of (kind_in order front) ≡ length front = ap fields_of is ∙ whole in
    begins_whole order interfaces front some (omega (arith, size))
    ∙ ap (λ j. block_in order interfaces (take j front)) size
    ∙ ap (block_in order interfaces) (take_all front)
    ∙ block_is order interfaces front
    ∙ ap (λ k. block_by k order interfaces front) is

skips : (n m : ℕ) → n ≡ m → 12 ≤ m → m % 4 ≡ 0 → skipped n ≡ Ok (Passed 8 (Rest (m - 12) m))
skips n m is h e = rw is (rw (long_enough 12 m h e) refl)

section_is : (other : Order) (front : List ℕ) (size : ℕ) (found : Option Order) → found ≡ Some other → u16_in other (piece front 12 2) ≡ 1 → length_in other front ≡ size
    → 28 ≤ size → size % 4 ≡ 0 → section_in found front ≡ Ok (Section other (Rest (size - 28) size))
section_is other front size found is version long h e = grind (arith, long_enough)

pub marked : (order : Order) → u32_in order (0x0A ∷ 0x0D ∷ 0x0D ∷ 0x0A ∷ []) ≡ 0x0A0D0D0A
marked Big = refl
marked Little = refl

module _ (order : Order) (interfaces : List Interface) (n : ℕ) (rest : List ℕ) where
  pub other_read : (block : List ℕ) → IsOther order block
      → packets_from (stands order interfaces Block) n (block ++ rest) ≡ packets_from (stands order interfaces Block) n rest
  other_read block o =
      let size : ℕ = length block in
      let sum : size ≡ 12 + length o.content = omega (arith, ap length o.layout, length-append o.front (o.content ++ o.again), length-append o.content o.again, o.fields, o.long.four) in
      let told : met order interfaces Block o.front ≡ Ok (Passed 8 (Rest (size - 12) size)) =
      front_met order interfaces o.front (kind_in order o.front) refl (omega (arith, o.fields))
      (fields_other (kind_in order o.front) o.no_section o.no_interface o.no_packet o.no_old_packet o.no_simple_packet ∙ sym o.fields)
      ∙ by_other (kind_in order o.front) order interfaces o.front o.no_section o.no_interface o.no_packet o.no_old_packet o.no_simple_packet
      ∙ skips (length_in order o.front) size o.long.in_front (omega (arith, sum)) o.long.fours in
      ap (λ (l : List ℕ). packets_from (stands order interfaces Block) n (l ++ rest)) o.layout
      ∙ ap (packets_from (stands order interfaces Block) n) (append_assoc o.front (o.content ++ o.again) rest ∙ ap (λ (l : List ℕ). o.front ++ l) (append_assoc o.content o.again rest))
      ∙ alone (stands order interfaces Block) (stands order interfaces (Rest (size - 12) size)) n n o.front (o.content ++ (o.again ++ rest)) (Passed 8 (Rest (size - 12) size)) []
      told refl (sym o.fields) refl refl (omega arith)
      ∙ block_ends order interfaces (size - 12) size n o.content o.again rest (omega (arith, sum)) o.long.four o.long.at_end

  interface_fits : (front : List ℕ) (i : Interface) (size : ℕ) → u16_in order (piece front 8 2) ≡ i.link → u32_in order (piece front 12 4) ≡ i.most → length_in order front ≡ size
      → 20 ≤ size → size % 4 ≡ 0 → length interfaces < 256 → interface_in order interfaces front ≡ Ok (Described i (Rest (size - 20) size))
  interface_fits front i size link most is h e few = grind (arith, long_enough, lt-leb)

  pub interface_read : (i : Interface) (block : List ℕ) → IsInterface order i block → length interfaces < 256
      → packets_from (stands order interfaces Block) n (block ++ rest) ≡ packets_from (stands order (interfaces ++ i ∷ []) Block) n rest
  interface_read i block o few =
      let size : ℕ = length block in
      let sum : size ≡ 20 + length o.options = omega (arith, ap length o.layout, length-append o.front (o.options ++ o.again), length-append o.options o.again, o.fields, o.long.four) in
      let told : met order interfaces Block o.front ≡ Ok (Described i (Rest (size - 20) size)) =
      front_met order interfaces o.front 1 o.kind (omega (arith, o.fields)) (interface_fields ∙ sym o.fields)
      ∙ interface_fits o.front i size o.link o.most o.long.in_front (omega (arith, sum)) o.long.fours few in
      ap (λ (l : List ℕ). packets_from (stands order interfaces Block) n (l ++ rest)) o.layout
      ∙ ap (packets_from (stands order interfaces Block) n) (append_assoc o.front (o.options ++ o.again) rest ∙ ap (λ (l : List ℕ). o.front ++ l) (append_assoc o.options o.again rest))
      ∙ alone (stands order interfaces Block) (stands order (interfaces ++ i ∷ []) (Rest (size - 20) size)) n n o.front (o.options ++ (o.again ++ rest)) (Described i (Rest (size - 20) size)) []
      told refl (sym o.fields) refl refl (omega arith)
      ∙ block_ends order (interfaces ++ i ∷ []) (size - 20) size n o.options o.again rest (omega (arith, sum)) o.long.four o.long.at_end

  pub section_read : (other : Order) (block : List ℕ) → IsSection other block
      → packets_from (stands order interfaces Block) n (block ++ rest) ≡ packets_from (stands other [] Block) n rest
  section_read other block o =
      let size : ℕ = length block in
      let sum : size ≡ 28 + length o.options = omega (arith, ap length o.layout, length-append o.front (o.options ++ o.again), length-append o.options o.again, o.fields, o.long.four) in
      let told : met order interfaces Block o.front ≡ Ok (Section other (Rest (size - 28) size)) =
      front_met order interfaces o.front 0x0A0D0D0A (ap (u32_in order) o.mark_is ∙ marked order) (omega (arith, o.fields)) (section_fields ∙ sym o.fields)
      ∙ section_is other o.front size (order_by (piece o.front 8 4)) o.order_is o.version o.long.in_front (omega (arith, sum)) o.long.fours in
      ap (λ (l : List ℕ). packets_from (stands order interfaces Block) n (l ++ rest)) o.layout
      ∙ ap (packets_from (stands order interfaces Block) n) (append_assoc o.front (o.options ++ o.again) rest ∙ ap (λ (l : List ℕ). o.front ++ l) (append_assoc o.options o.again rest))
      ∙ alone (stands order interfaces Block) (stands other [] (Rest (size - 28) size)) n n o.front (o.options ++ (o.again ++ rest)) (Section other (Rest (size - 28) size)) []
      told refl (sym o.fields) refl refl (omega arith)
      ∙ block_ends other [] (size - 28) size n o.options o.again rest (omega (arith, sum)) o.long.four o.long.at_end

-- a file begins with a section
section_in_front : (a b : List ℕ) → 24 ≤ length a → section (a ++ b) ≡ section a
section_in_front a b enough = grind (arith, piece_append)

pub mark_front : (front rest : List ℕ) → 24 ≤ length front → piece front 0 4 ≡ 0x0A ∷ 0x0D ∷ 0x0D ∷ 0x0A ∷ [] → is_recording (front ++ rest) ≡ true
unfolding is_recording
mark_front [] rest enough e = absurd (omega arith)
mark_front (a ∷ []) rest enough e = absurd (omega arith)
mark_front (a ∷ b ∷ []) rest enough e = absurd (omega arith)
mark_front (a ∷ b ∷ c ∷ []) rest enough e = absurd (omega arith)
mark_front (a ∷ b ∷ c ∷ d ∷ l) rest enough e =
    let list : a ∷ b ∷ c ∷ d ∷ [] ≡ 0x0A ∷ 0x0D ∷ 0x0D ∷ 0x0A ∷ [] = e in
    ap (λ (x : List ℕ). begins_with (0x0A ∷ 0x0D ∷ 0x0D ∷ 0x0A ∷ []) (x ++ (l ++ rest))) list

pub file_read : (other : Order) (block rest : List ℕ) → IsSection other block → recorded (block ++ rest) ≡ packets_from (stands other [] Block) 1 rest
file_read other block rest o =
    let size : ℕ = length block in
    let tail : List ℕ = o.options ++ (o.again ++ rest) in
    let sum : size ≡ 28 + length o.options = omega (arith, ap length o.layout, length-append o.front (o.options ++ o.again), length-append o.options o.again, o.fields, o.long.four) in
    let enough : 24 ≤ length (o.front ++ tail) = omega (arith, length-append o.front tail, o.fields) in
    let fields : 24 ≤ length o.front = omega (arith, o.fields) in
    let all : block ++ rest ≡ o.front ++ tail = ap (λ (l : List ℕ). l ++ rest) o.layout ∙ append_assoc o.front (o.options ++ o.again) rest ∙ ap (λ (l : List ℕ). o.front ++ l) (append_assoc o.options o.again rest) in
    let told : begins (o.front ++ tail) ≡ Ok (stands other [] (Rest (size - 28) size)) =
    begins_whole_file (o.front ++ tail) enough (mark_front o.front tail fields o.mark_is)
    ∙ ap begun (section_in_front o.front tail fields ∙ section_is other o.front size (order_by (piece o.front 8 4)) o.order_is o.version o.long.in_front (omega (arith, sum)) o.long.fours) in
    ap recorded all
    ∙ ap (λ x. behind_header x (o.front ++ tail)) told
    ∙ ap (packets_from (stands other [] (Rest (size - 28) size)) 1) (drop_at o.front tail 24 o.fields)
    ∙ block_ends other [] (size - 28) size 1 o.options o.again rest (omega (arith, sum)) o.long.four o.long.at_end
