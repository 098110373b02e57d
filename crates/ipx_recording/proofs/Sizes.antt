-- How many bytes the parts of a recording take.
use Rattle.std.proofs.Common.{◌≡◌, ◌==◌, true, false, ℕ, ◌<◌, ◌≤◌, Bool, if◌then◌else◌, List, length, take, slice_get, refl, inl, inr, sym, ap, ◌∙◌, arith, Option, Result, Ok}
use Rattle.std.proofs.lemmas.Bool.{lt-ltb, le-ltb, ne_eqb, cases_lt}
use Rattle.ipx_wire.specs.Piece.{piece}
use Rattle.ipx_capture.specs.Order.{u16_in, u32_in}
use Rattle.ipx_capture.specs.declared.order.Order.{Order}
use Rattle.ipx_capture.proofs.Pieces.{piece_within}
use Rattle.ipx_recording.specs.Met.{met, section_in, section, interface_in, packet_in, simple_in, skipped, block_in, begins_block, ends_block, fields_of, kind_in, length_in, order_by, packet_at}
use Rattle.ipx_recording.specs.Recorded.{size_of, is_wanting}
use Rattle.ipx_recording.specs.declared.due.Due.{Due}
use Rattle.ipx_recording.specs.declared.due.Due.TheVariants.{Block, Packet, Rest}
use Rattle.ipx_recording.specs.declared.interface.Interface.{Interface}
use Rattle.ipx_recording.specs.declared.met.Met.{Met}
use Rattle.ipx_recording.specs.declared.met.Met.TheVariants.{Wants}
use Rattle.ipx_recording.specs.declared.recording_fault.RecordingFault.{RecordingFault}

-- what was met takes so many bytes
pub record Takes (m : Met) (n : ℕ) : Type 0 where
  pub some : 1 ≤ size_of m
  pub few : size_of m ≤ n
  pub sure : is_wanting m ≡ false

section_takes : (o : Option Order) (front : List ℕ) (m : Met) → section_in o front ≡ Ok m → Takes m 24
section_takes o front m told = grind arith

interface_takes : (order : Order) (interfaces : List Interface) (front : List ℕ) (m : Met) → interface_in order interfaces front ≡ Ok m → Takes m 16
interface_takes order interfaces front m told = grind arith

packet_takes : (around size kept n : ℕ) (i : Option Interface) (m : Met) → 1 ≤ size → packet_in around size kept n i ≡ Ok m → Takes m size
packet_takes around size kept n i m some told = grind arith

simple_takes : (order : Order) (i : Option Interface) (front : List ℕ) (m : Met) → simple_in order i front ≡ Ok m → Takes m 8
simple_takes order i front m told = grind (arith, packet_takes)

skipped_takes : (n : ℕ) (m : Met) → skipped n ≡ Ok m → Takes m 8
skipped_takes n m told = grind arith

-- by a test
either : (b : Bool) (x y : Result Met RecordingFault) (m : Met) (k j : ℕ) → (x ≡ Ok m → Takes m k) → (y ≡ Ok m → Takes m j)
    → (if b then x else y) ≡ Ok m → Takes m (if b then k else j)
either true x y m k j one two told = one told
either false x y m k j one two told = two told

fewer : (m : Met) (k j : ℕ) → k ≤ j → Takes m k → Takes m j
fewer m k j h t = grind arith

pub block_takes : (order : Order) (interfaces : List Interface) (front : List ℕ) (m : Met) → block_in order interfaces front ≡ Ok m → Takes m (fields_of (kind_in order front))
unfolding block_in fields_of
block_takes order interfaces front m told =
    let kind = kind_in order front in
    either (kind == 0x0A0D0D0A) (section front) _ m 24 _ (λ t. section_takes (order_by (piece front 8 4)) front m t) (λ t2.
    either (kind == 1) (interface_in order interfaces front) _ m 16 _ (λ t. interface_takes order interfaces front m t) (λ t3.
    either (kind == 3) (simple_in order (slice_get interfaces 0) front) _ m 12 _ (λ t. fewer m 8 12 (omega arith) (simple_takes order (slice_get interfaces 0) front m t)) (λ t4.
    either (kind == 6) _ _ m 24 _ (λ t. packet_takes 32 24 (u32_in order (piece front 20 4)) (length_in order front) (slice_get interfaces (u32_in order (piece front 8 4))) m (omega arith) t) (λ t5.
    either (kind == 2) _ _ m 24 8 (λ t. packet_takes 32 24 (u32_in order (piece front 20 4)) (length_in order front) (slice_get interfaces (u16_in order (piece front 8 2))) m (omega arith) t) (λ t6. skipped_takes (length_in order front) m t6) t5) t4) t3) t2) told

-- a block begins, by how many bytes there are
pub begins_whole : (order : Order) (interfaces : List Interface) (a : List ℕ) → 8 ≤ length a → fields_of (kind_in order a) ≤ length a
    → begins_block order interfaces a ≡ block_in order interfaces (take (fields_of (kind_in order a)) a)
begins_whole order interfaces a some whole = rw (le-ltb (length a) 8 some) (rw (le-ltb (length a) (fields_of (kind_in order a)) whole) refl)

pub begins_few : (order : Order) (interfaces : List Interface) (a : List ℕ) → length a < 8 → begins_block order interfaces a ≡ Ok (Wants 8)
begins_few order interfaces a few = rw (lt-ltb (length a) 8 few) refl

pub begins_cut : (order : Order) (interfaces : List Interface) (a : List ℕ) → 8 ≤ length a → length a < fields_of (kind_in order a)
    → begins_block order interfaces a ≡ Ok (Wants (fields_of (kind_in order a)))
begins_cut order interfaces a some few = rw (le-ltb (length a) 8 some) (rw (lt-ltb (length a) (fields_of (kind_in order a)) few) refl)

fields_least : (k : ℕ) → 8 ≤ fields_of k
unfolding fields_of
fields_least k = grind arith

-- the kind stands among the fields
kind_of_fields : (order : Order) (a : List ℕ) (n : ℕ) → 8 ≤ n → kind_in order (take n a) ≡ kind_in order a
kind_of_fields order a n h = ap (u32_in order) (piece_within a 0 n 0 4 (omega arith))

begins_takes : (order : Order) (interfaces : List Interface) (a : List ℕ) (m : Met) → begins_block order interfaces a ≡ Ok m → is_wanting m ≡ false
    → Takes m (length a)
begins_takes order interfaces a m told sure =
    elim (cases_lt (length a) 8) [
      | inl few ↦ absurd (let wrong : Ok (Wants 8) ≡ Ok m = sym (begins_few order interfaces a few) ∙ told in cc)
      | inr some ↦ elim (cases_lt (length a) (fields_of (kind_in order a))) [
        | inl few ↦ absurd (let wrong : Ok (Wants (fields_of (kind_in order a))) ≡ Ok m = sym (begins_cut order interfaces a some few) ∙ told in cc)
        | inr whole ↦
            let f : ℕ = fields_of (kind_in order a) in
            let t = block_takes order interfaces (take f a) m (sym (begins_whole order interfaces a some whole) ∙ told) in
            let kind = kind_of_fields order a f (fields_least (kind_in order a)) in
            fewer m (fields_of (kind_in order (take f a))) (length a) (omega (arith, whole, ap fields_of kind)) t
      ]
    ]

packet_at_takes : (order : Order) (bytes : List ℕ) (link kept : ℕ) (rest : Due) → is_wanting (packet_at order bytes link kept rest) ≡ false
    → Takes (packet_at order bytes link kept rest) (length bytes)
packet_at_takes order bytes link kept rest sure = grind (arith, lt-ltb)

ends_takes : (order : Order) (left n : ℕ) (bytes : List ℕ) (m : Met) → ends_block order left n bytes ≡ Ok m → is_wanting m ≡ false → Takes m (length bytes)
ends_takes order left n bytes m told sure = grind (arith, lt-ltb, ne_eqb)

pub met_takes : (order : Order) (interfaces : List Interface) (due : Due) (bytes : List ℕ) (m : Met) → met order interfaces due bytes ≡ Ok m → is_wanting m ≡ false
    → Takes m (length bytes)
unfolding met
met_takes order interfaces Block bytes m told sure = begins_takes order interfaces bytes m told sure
met_takes order interfaces (Packet link kept left n) bytes m told sure = grind (arith, packet_at_takes)
met_takes order interfaces (Rest left n) bytes m told sure = ends_takes order left n bytes m told sure
