-- What the first bytes tell is told of all of them.
use Rattle.std.proofs.Common.{◌≡◌, true, false, ℕ, ◌+◌, ◌≤◌, Bool, not, List, [], ◌∷◌, ◌++◌, length, take, refl, inl, inr, sym, ap, ◌∙◌, arith, Result, Ok, Err, length-append}
use Rattle.std.proofs.lemmas.Bool.{lt-ltb, le-ltb, cases_lt}
use Rattle.std.proofs.lemmas.List.{take-append-le}
use Rattle.ipx_capture.specs.Order.{u32_in}
use Rattle.ipx_capture.specs.declared.order.Order.{Order}
use Rattle.ipx_capture.proofs.First.{piece_append}
use Rattle.ipx_recording.specs.Met.{met, block_in, begins_block, ends_block, length_again, fields_of, kind_in, packet_at}
use Rattle.ipx_recording.specs.Recorded.{size_of, is_wanting, packets}
use Rattle.ipx_recording.specs.declared.due.Due.{Due}
use Rattle.ipx_recording.specs.declared.due.Due.TheVariants.{Block, Packet, Rest}
use Rattle.ipx_recording.specs.declared.interface.Interface.{Interface}
use Rattle.ipx_recording.specs.declared.met.Met.{Met}
use Rattle.ipx_recording.specs.declared.met.Met.TheVariants.{Wants, Passed, Captured, Described, Section}
use Rattle.ipx_recording.specs.declared.recording_fault.RecordingFault.{RecordingFault}
use Rattle.ipx_recording.proofs.Sizes.{begins_whole, begins_few, begins_cut}

-- whether more bytes change nothing
abbrev pub is_sure : Result Met RecordingFault → Bool
is_sure (Err fault) = true
is_sure (Ok m) = not (is_wanting m)

pub kind_append : (order : Order) (a b : List ℕ) → 8 ≤ length a → kind_in order (a ++ b) ≡ kind_in order a
kind_append order a b h = ap (u32_in order) (piece_append a b 0 4 (omega arith))

begins_append : (order : Order) (interfaces : List Interface) (a b : List ℕ) → is_sure (begins_block order interfaces a) ≡ true
    → begins_block order interfaces (a ++ b) ≡ begins_block order interfaces a
begins_append order interfaces a b sure =
    elim (cases_lt (length a) 8) [
      | inl few ↦ absurd (let wrong : is_sure (Ok (Wants 8)) ≡ true = sym (ap is_sure (begins_few order interfaces a few)) ∙ sure in cc)
      | inr some ↦ elim (cases_lt (length a) (fields_of (kind_in order a))) [
        | inl few ↦ absurd (let wrong : is_sure (Ok (Wants (fields_of (kind_in order a)))) ≡ true = sym (ap is_sure (begins_cut order interfaces a some few)) ∙ sure in cc)
        | inr whole ↦
            let same = kind_append order a b some in
            let longer : length (a ++ b) ≡ length a + length b = length-append a b in
            begins_whole order interfaces (a ++ b) (omega (arith, longer, some)) (omega (arith, longer, whole, ap fields_of same))
            ∙ ap (λ (k : ℕ). block_in order interfaces (take (fields_of k) (a ++ b))) same
            ∙ ap (block_in order interfaces) (take-append-le (fields_of (kind_in order a)) a b whole)
            ∙ sym (begins_whole order interfaces a some whole)
      ]
    ]

pub not_true : (b : Bool) → not b ≡ true → b ≡ false
not_true true e = sym e
not_true false e = refl

packet_append : (order : Order) (a b : List ℕ) (link kept : ℕ) (rest : Due) → is_wanting (packet_at order a link kept rest) ≡ false
    → packet_at order (a ++ b) link kept rest ≡ packet_at order a link kept rest
packet_append order a b link kept rest sure = grind (arith, lt-ltb, le-ltb, piece_append, length-append)

again_append : (order : Order) (n : ℕ) (a b : List ℕ) → is_sure (length_again order n a) ≡ true → length_again order n (a ++ b) ≡ length_again order n a
again_append order n a b sure = grind (arith, lt-ltb, le-ltb, piece_append, length-append)

-- all parts but those that are skipped
abbrev pub IsWhole : Due → Type 0
IsWhole Block = Unit {0}
IsWhole (Packet link kept left n) = Unit {0}
IsWhole (Rest left n) = left ≡ 0

pub met_append : (order : Order) (interfaces : List Interface) (due : Due) (a b : List ℕ) → IsWhole due → is_sure (met order interfaces due a) ≡ true
    → met order interfaces due (a ++ b) ≡ met order interfaces due a
unfolding met
met_append order interfaces Block a b whole sure = begins_append order interfaces a b sure
met_append order interfaces (Packet link kept left n) a b whole sure =
    ap Ok (packet_append order a b link kept (Rest left n) (not_true (is_wanting (packet_at order a link kept (Rest left n))) sure))
met_append order interfaces (Rest left n) a b whole sure =
    let again : (c : List ℕ) → ends_block order left n c ≡ length_again order n c = λ c. (rw whole refl) in
    again (a ++ b) ∙ again_append order n a b (sym (ap is_sure (again a)) ∙ sure) ∙ sym (again a)

pub packets_append : (n : ℕ) (a b : List ℕ) (m : Met) → size_of m ≤ length a → packets n (a ++ b) m ≡ packets n a m
packets_append n a b (Wants k) few = refl
packets_append n a b (Passed k due) few = refl
packets_append n a b (Captured link kept wire due) few =
    ap (λ (l : List ℕ). record { number = n; link = link; wire = wire; bytes = l } ∷ []) (piece_append a b 4 kept few)
packets_append n a b (Described i due) few = refl
packets_append n a b (Section order due) few = refl
