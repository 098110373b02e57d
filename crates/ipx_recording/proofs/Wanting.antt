-- What is wanted, and what is refused.
use Rattle.std.proofs.Common.{◌≡◌, ◌==◌, true, false, ℕ, ◌+◌, ◌<◌, ◌≤◌, Bool, not, subst, if◌then◌else◌, List, ◌++◌, length, take, slice_get, refl, inl, inr, sym, ap, ◌∙◌, arith, Option, Result, Ok, Err, length-append}
use Rattle.std.proofs.lemmas.Bool.{lt-ltb, le-ltb, ne_eqb, cases_lt}
use Rattle.ipx_wire.specs.Piece.{piece}
use Rattle.ipx_capture.specs.Order.{u16_in, u32_in}
use Rattle.ipx_capture.specs.declared.order.Order.{Order}
use Rattle.ipx_recording.specs.Met.{met, section_in, section, interface_in, packet_in, simple_in, skipped, block_in, begins_block, ends_block, fields_of, kind_in, length_in, order_by, packet_at}
use Rattle.ipx_recording.specs.Recorded.{State, begins, begun, is_final, is_recording}
use Rattle.ipx_recording.specs.declared.due.Due.{Due}
use Rattle.ipx_recording.specs.declared.due.Due.TheVariants.{Block, Packet, Rest}
use Rattle.ipx_recording.specs.declared.interface.Interface.{Interface}
use Rattle.ipx_recording.specs.declared.met.Met.{Met}
use Rattle.ipx_recording.specs.declared.met.Met.TheVariants.{Wants}
use Rattle.ipx_recording.specs.declared.recording_fault.RecordingFault.{RecordingFault}
use Rattle.ipx_recording.specs.declared.recording_fault.RecordingFault.TheVariants.{Magic}
use Rattle.ipx_recording.proofs.Sizes.{begins_whole, begins_few, begins_cut, block_takes}
use Rattle.ipx_recording.proofs.Sure.{kind_append}

-- each fault that is met is final
section_final : (o : Option Order) (front : List ℕ) (f : RecordingFault) → section_in o front ≡ Err f → is_final f ≡ true
section_final o front f told = grind arith

interface_final : (order : Order) (interfaces : List Interface) (front : List ℕ) (f : RecordingFault) → interface_in order interfaces front ≡ Err f → is_final f ≡ true
interface_final order interfaces front f told = grind arith

packet_final : (around size kept n : ℕ) (i : Option Interface) (f : RecordingFault) → packet_in around size kept n i ≡ Err f → is_final f ≡ true
packet_final around size kept n i f told = grind arith

simple_final : (order : Order) (i : Option Interface) (front : List ℕ) (f : RecordingFault) → simple_in order i front ≡ Err f → is_final f ≡ true
simple_final order i front f told = grind (arith, packet_final)

skipped_final : (n : ℕ) (f : RecordingFault) → skipped n ≡ Err f → is_final f ≡ true
skipped_final n f told = grind arith

either : (b : Bool) (x y : Result Met RecordingFault) (f : RecordingFault) → (x ≡ Err f → is_final f ≡ true) → (y ≡ Err f → is_final f ≡ true)
    → (if b then x else y) ≡ Err f → is_final f ≡ true
either true x y f one two told = one told
either false x y f one two told = two told

block_final : (order : Order) (interfaces : List Interface) (front : List ℕ) (f : RecordingFault) → block_in order interfaces front ≡ Err f → is_final f ≡ true
unfolding block_in
block_final order interfaces front f told =
    let kind = kind_in order front in
    either (kind == 0x0A0D0D0A) (section front) _ f (λ t. section_final (order_by (piece front 8 4)) front f t) (λ t2.
    either (kind == 1) (interface_in order interfaces front) _ f (λ t. interface_final order interfaces front f t) (λ t3.
    either (kind == 3) (simple_in order (slice_get interfaces 0) front) _ f (λ t. simple_final order (slice_get interfaces 0) front f t) (λ t4.
    either (kind == 6) _ _ f (λ t. packet_final 32 24 (u32_in order (piece front 20 4)) (length_in order front) (slice_get interfaces (u32_in order (piece front 8 4))) f t) (λ t5.
    either (kind == 2) _ _ f (λ t. packet_final 32 24 (u32_in order (piece front 20 4)) (length_in order front) (slice_get interfaces (u16_in order (piece front 8 2))) f t)
    (λ t6. skipped_final (length_in order front) f t6) t5) t4) t3) t2) told

begins_final : (order : Order) (interfaces : List Interface) (a : List ℕ) (f : RecordingFault) → begins_block order interfaces a ≡ Err f → is_final f ≡ true
begins_final order interfaces a f told =
    elim (cases_lt (length a) 8) [
      | inl few ↦ absurd (let wrong : Ok (Wants 8) ≡ Err f = sym (begins_few order interfaces a few) ∙ told in cc)
      | inr some ↦ elim (cases_lt (length a) (fields_of (kind_in order a))) [
        | inl few ↦ absurd (let wrong : Ok (Wants (fields_of (kind_in order a))) ≡ Err f = sym (begins_cut order interfaces a some few) ∙ told in cc)
        | inr whole ↦ block_final order interfaces (take (fields_of (kind_in order a)) a) f (sym (begins_whole order interfaces a some whole) ∙ told)
      ]
    ]

ends_final : (order : Order) (left n : ℕ) (a : List ℕ) (f : RecordingFault) → ends_block order left n a ≡ Err f → is_final f ≡ true
ends_final order left n a f told = grind arith

pub met_final : (order : Order) (interfaces : List Interface) (due : Due) (a : List ℕ) (f : RecordingFault) → met order interfaces due a ≡ Err f → is_final f ≡ true
unfolding met
met_final order interfaces Block a f told = begins_final order interfaces a f told
met_final order interfaces (Packet link kept left n) a f told = absurd cc
met_final order interfaces (Rest left n) a f told = ends_final order left n a f told

-- what is wanted is wanted until it is there
begins_wants : (order : Order) (interfaces : List Interface) (a b : List ℕ) (k : ℕ) → begins_block order interfaces a ≡ Ok (Wants k) → length (a ++ b) < k
    → begins_block order interfaces (a ++ b) ≡ Ok (Wants k)
begins_wants order interfaces a b k told few =
    let longer : length (a ++ b) ≡ length a + length b = length-append a b in
    elim (cases_lt (length a) 8) [
      | inl short ↦
          let eight : Ok (Wants k) ≡ Ok (Wants 8) = sym told ∙ begins_few order interfaces a short in
          let is : k ≡ 8 = cc in
          begins_few order interfaces (a ++ b) (omega (arith, few, is)) ∙ sym eight
      | inr some ↦ elim (cases_lt (length a) (fields_of (kind_in order a))) [
        | inl short ↦
            let fields : Ok (Wants k) ≡ Ok (Wants (fields_of (kind_in order a))) = sym told ∙ begins_cut order interfaces a some short in
            let is : k ≡ fields_of (kind_in order a) = cc in
            let same = kind_append order a b some in
            begins_cut order interfaces (a ++ b) (omega (arith, longer, some)) (omega (arith, few, is, ap fields_of same))
            ∙ ap (λ (j : ℕ). Ok (Wants (fields_of j))) same ∙ sym fields
        | inr whole ↦
            let t = block_takes order interfaces (take (fields_of (kind_in order a)) a) (Wants k) (sym (begins_whole order interfaces a some whole) ∙ told) in
            absurd (let wrong = t.sure in cc)
      ]
    ]

packet_wants : (order : Order) (a b : List ℕ) (link kept : ℕ) (rest : Due) (k : ℕ) → packet_at order a link kept rest ≡ Wants k → length (a ++ b) < k
    → packet_at order (a ++ b) link kept rest ≡ Wants k
packet_wants order a b link kept rest k told few = grind (arith, lt-ltb)

ends_wants : (order : Order) (left n : ℕ) (a b : List ℕ) (k : ℕ) → ends_block order left n a ≡ Ok (Wants k) → length (a ++ b) < k
    → ends_block order left n (a ++ b) ≡ Ok (Wants k)
ends_wants order left n a b k told few = grind (arith, lt-ltb, ne_eqb)

pub met_wants : (order : Order) (interfaces : List Interface) (due : Due) (a b : List ℕ) (k : ℕ) → met order interfaces due a ≡ Ok (Wants k) → length (a ++ b) < k
    → met order interfaces due (a ++ b) ≡ Ok (Wants k)
unfolding met
met_wants order interfaces Block a b k told few = begins_wants order interfaces a b k told few
met_wants order interfaces (Packet link kept left n) a b k told few =
    ap Ok (packet_wants order a b link kept (Rest left n) k (let e : Ok (packet_at order a link kept (Rest left n)) ≡ Ok (Wants k) = told in cc) few)
met_wants order interfaces (Rest left n) a b k told few = ends_wants order left n a b k told few

-- and more than there is
pub wants_more : (order : Order) (interfaces : List Interface) (due : Due) (a : List ℕ) (k : ℕ) → met order interfaces due a ≡ Ok (Wants k) → length a < k
unfolding met
wants_more order interfaces Block a k told =
    elim (cases_lt (length a) 8) [
      | inl short ↦
          let eight : Ok (Wants k) ≡ Ok (Wants 8) = sym told ∙ begins_few order interfaces a short in
          let is : k ≡ 8 = cc in omega (arith, short, is)
      | inr some ↦ elim (cases_lt (length a) (fields_of (kind_in order a))) [
        | inl short ↦
            let fields : Ok (Wants k) ≡ Ok (Wants (fields_of (kind_in order a))) = sym told ∙ begins_cut order interfaces a some short in
            let is : k ≡ fields_of (kind_in order a) = cc in omega (arith, short, is)
        | inr whole ↦
            let t = block_takes order interfaces (take (fields_of (kind_in order a)) a) (Wants k) (sym (begins_whole order interfaces a some whole) ∙ told) in
            absurd (let wrong = t.sure in cc)
      ]
    ]
wants_more order interfaces (Packet link kept left n) a k told = grind (arith, le-ltb)
wants_more order interfaces (Rest left n) a k told = grind (arith, le-ltb)

-- so is each fault of a header that is there
abbrev header_by : Bool → List ℕ → Result State RecordingFault
header_by is a = if not is then Err Magic else begun (section a)

begun_final : (r : Result Met RecordingFault) (f : RecordingFault) → ((g : RecordingFault) → r ≡ Err g → is_final g ≡ true) → begun r ≡ Err f → is_final f ≡ true
begun_final (Ok m) f h told = absurd cc
begun_final (Err g) f h told = h f (let e : Err g ≡ Err f = told in cc)

header_final : (is : Bool) (o : Option Order) (a : List ℕ) (f : RecordingFault) → header_by is a ≡ Err f → is_final f ≡ true
header_final false o a f told = (let e : Err Magic ≡ Err f = told in let is : Magic ≡ f = cc in subst (λ x. is_final x ≡ true) is refl)
header_final true o a f told = begun_final (section a) f (λ g e. section_final (order_by (piece a 8 4)) a g e) told

pub beginning_final : (a : List ℕ) (f : RecordingFault) → 24 ≤ length a → begins a ≡ Err f → is_final f ≡ true
unfolding begins
beginning_final a f enough told = header_final (is_recording a) (order_by (piece a 8 4)) a f ((let whole : begins a ≡ header_by (is_recording a) a = rw (le-ltb (length a) 24 enough) refl in sym whole) ∙ told)
