-- How a recording begins.
use Rattle.std.proofs.Common.{◌≡◌, true, false, ℕ, ◌+◌, ◌<◌, ◌≤◌, Bool, List, [], ◌∷◌, ◌++◌, length, drop, refl, inl, inr, sym, ap, ◌∙◌, arith, Ok, Err, length-append, append_assoc}
use Rattle.std.proofs.lemmas.Bool.{lt-ltb, le-ltb, cases_lt}
use Rattle.ipx_capture.specs.Header.{header_of}
use Rattle.ipx_capture.specs.declared.order.Order.{Order}
use Rattle.ipx_capture.proofs.First.{piece_append}
use Rattle.ipx_capture.proofs.Frames.{beginning}
use Rattle.ipx_recording.specs.Met.{section}
use Rattle.ipx_recording.specs.Recorded.{State, is_recording, begins, begun}
use Rattle.ipx_recording.specs.declared.recording_fault.RecordingFault.TheVariants.{CutHeader}

abbrev pub mark : List ℕ
mark = 0x0A ∷ 0x0D ∷ 0x0D ∷ 0x0A ∷ []

-- what begins so is a recording, whatever follows
marked : (rest : List ℕ) → is_recording (mark ++ rest) ≡ true
unfolding is_recording
marked rest = grind arith

pub beginning_is : (bytes : List ℕ) → is_recording bytes ≡ true → bytes ≡ mark ++ drop 4 bytes
unfolding is_recording
beginning_is bytes is = beginning mark bytes is

pub recording_append : (bytes more : List ℕ) → is_recording bytes ≡ true → is_recording (bytes ++ more) ≡ true
recording_append bytes more is =
    ap (λ (l : List ℕ). is_recording (l ++ more)) (beginning_is bytes is) ∙ ap is_recording (append_assoc mark (drop 4 bytes) more) ∙ marked (drop 4 bytes ++ more)

-- no capture of the other kind begins so
marked_header : (rest : List ℕ) (order : Order) → header_of (mark ++ rest) ≡ Ok order → ⊥
unfolding header_of
marked_header rest order told = grind arith

by_bool : (b : Bool) → (b ≡ true → ⊥) → b ≡ false
by_bool true h = absurd (h refl)
by_bool false h = refl

pub no_recording : (bytes : List ℕ) (order : Order) → header_of bytes ≡ Ok order → is_recording bytes ≡ false
no_recording bytes order told = by_bool (is_recording bytes) (λ is. marked_header (drop 4 bytes) order (sym (ap header_of (beginning_is bytes is)) ∙ told))

-- the fields of a section are those of its first bytes
section_append : (a b : List ℕ) → 24 ≤ length a → section (a ++ b) ≡ section a
section_append a b enough = grind (arith, piece_append)

pub begins_whole : (a : List ℕ) → 24 ≤ length a → is_recording a ≡ true → begins a ≡ begun (section a)
unfolding begins
begins_whole a enough is = rw (le-ltb (length a) 24 enough) (rw is refl)

pub begins_append : (a b : List ℕ) → 24 ≤ length a → is_recording a ≡ true → begins (a ++ b) ≡ begins a
begins_append a b enough is =
    let longer : length (a ++ b) ≡ length a + length b = length-append a b in
    begins_whole (a ++ b) (omega (arith, longer, enough)) (recording_append a b is) ∙ ap begun (section_append a b enough) ∙ sym (begins_whole a enough is)

pub begins_short : (a : List ℕ) → length a < 24 → begins a ≡ Err CutHeader
unfolding begins
begins_short a few = rw (lt-ltb (length a) 24 few) refl

-- what begins well is long enough
pub begins_long : (a : List ℕ) (s : State) → begins a ≡ Ok s → 24 ≤ length a
begins_long a s told =
    elim (cases_lt (length a) 24) [
      | inl few ↦ absurd (let wrong : Err CutHeader ≡ Ok s = sym (begins_short a few) ∙ told in cc)
      | inr enough ↦ enough
    ]
