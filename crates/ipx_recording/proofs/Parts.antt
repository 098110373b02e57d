-- Part by part, a recording's packets are those of all its bytes.
use Rattle.std.proofs.Common.{◌≡◌, Some, true, false, ℕ, zero, suc, ◌+◌, ◌-◌, ◌<◌, min, not, List, [], ◌++◌, length, drop, refl, inl, inr, sym, ap, ◌∙◌, arith, Result, Ok, Err, length-append, length-drop, drop-drop}
use Rattle.std.proofs.lemmas.Bool.{ne_eqb, cases_eq}
use Rattle.std.proofs.lemmas.List.{drop-append-le}
use Rattle.ipx_capture.specs.declared.order.Order.{Order}
use Rattle.ipx_recording.specs.Met.{met}
use Rattle.ipx_recording.specs.Recorded.{State, Contents, size_of, is_wanting, packets, after, prepend, parts, packets_from, from_met, end_at}
use Rattle.ipx_recording.specs.declared.due.Due.{Due}
use Rattle.ipx_recording.specs.declared.due.Due.TheVariants.{Block, Packet, Rest}
use Rattle.ipx_recording.specs.declared.interface.Interface.{Interface}
use Rattle.ipx_recording.specs.declared.met.Met.{Met}
use Rattle.ipx_recording.specs.declared.met.Met.TheVariants.{Wants, Passed, Captured, Described, Section}
use Rattle.ipx_recording.specs.declared.recording_fault.RecordingFault.{RecordingFault}
use Rattle.ipx_recording.proofs.Sizes.{Takes, met_takes}
use Rattle.ipx_recording.proofs.Sure.{is_sure, IsWhole, met_append, packets_append}

-- any number of parts that is enough gives the same
met_same : (s : State) (n : ℕ) (b : List ℕ) (one two : State → ℕ → List ℕ → Contents) (r : Result Met RecordingFault) → met s.order s.interfaces s.due b ≡ r
    → ((m : Met) → Takes m (length b) → (t : State) (k : ℕ) → one t k (drop (size_of m) b) ≡ two t k (drop (size_of m) b))
    → from_met s n b one r ≡ from_met s n b two r
met_same s n b one two (Err fault) told same = refl
met_same s n b one two (Ok (Wants k)) told same = refl
met_same s n b one two (Ok (Passed k due)) told same =
    ap (prepend []) (same (Passed k due) (met_takes s.order s.interfaces s.due b (Passed k due) told refl) (after s (Passed k due)) (n + 0))
met_same s n b one two (Ok (Captured link kept wire due)) told same =
    let m = Captured link kept wire due in
    ap (prepend (packets n b m)) (same m (met_takes s.order s.interfaces s.due b m told refl) (after s m) (n + 1))
met_same s n b one two (Ok (Described i due)) told same =
    ap (prepend []) (same (Described i due) (met_takes s.order s.interfaces s.due b (Described i due) told refl) (after s (Described i due)) (n + 0))
met_same s n b one two (Ok (Section order due)) told same =
    ap (prepend []) (same (Section order due) (met_takes s.order s.interfaces s.due b (Section order due) told refl) (after s (Section order due)) (n + 0))

enough : (m k : ℕ) (s : State) (n : ℕ) (b : List ℕ) → length b < m → length b < k → parts m s n b ≡ parts k s n b
enough zero k s n b h g = absurd (omega arith)
enough (suc m) zero s n b h g = absurd (omega arith)
enough (suc m) (suc k) s n b h g = met_same s n b (parts m) (parts k) (met s.order s.interfaces s.due b) refl
    (λ x takes t j. enough m k t j (drop (size_of x) b) (omega (arith, h, takes.some, takes.few, length-drop (size_of x) b)) (omega (arith, g, takes.some, takes.few, length-drop (size_of x) b)))

-- a part that is there, and what follows it
pub one_part : (s : State) (n : ℕ) (b : List ℕ) (m : Met) → met s.order s.interfaces s.due b ≡ Ok m → is_wanting m ≡ false
    → packets_from s n b ≡ prepend (packets n b m) (packets_from (after s m) (n + length (packets n b m)) (drop (size_of m) b))
unfolding packets_from
one_part s n b m told sure =
    let takes = met_takes s.order s.interfaces s.due b m told sure in
    let rest : List ℕ = drop (size_of m) b in
    let few : length rest < length b = omega (arith, takes.some, takes.few, length-drop (size_of m) b) in
    ap (from_met s n b (parts (length b))) told
    ∙ (rw sure refl)
    ∙ ap (prepend (packets n b m)) (enough (length b) (suc (length rest)) (after s m) (n + length (packets n b m)) rest few (omega arith))

-- nothing before them
prepend_none : (c : Contents) → prepend [] c ≡ c
prepend_none c = refl

-- a part told by the first bytes
whole_part : (s : State) (n : ℕ) (a b : List ℕ) (m : Met) → IsWhole s.due → met s.order s.interfaces s.due a ≡ Ok m → is_wanting m ≡ false
    → packets_from s n (a ++ b) ≡ prepend (packets n a m) (packets_from (after s m) (n + length (packets n a m)) (drop (size_of m) a ++ b))
whole_part s n a b m whole told sure =
    let takes = met_takes s.order s.interfaces s.due a m told sure in
    let sure2 : is_sure (met s.order s.interfaces s.due a) ≡ true = ap is_sure told ∙ ap not sure in
    let told2 : met s.order s.interfaces s.due (a ++ b) ≡ Ok m = met_append s.order s.interfaces s.due a b whole sure2 ∙ told in
    one_part s n (a ++ b) m told2 sure
    ∙ ap (λ rs. prepend rs (packets_from (after s m) (n + length rs) (drop (size_of m) (a ++ b)))) (packets_append n a b m takes.few)
    ∙ ap (λ l. prepend (packets n a m) (packets_from (after s m) (n + length (packets n a m)) l)) (drop-append-le (size_of m) a b takes.few)

-- what is skipped, in one part or in several
abbrev pub resting : Order → List Interface → ℕ → ℕ → State
resting order interfaces left size = record { order = order; interfaces = interfaces; due = Rest left size }

skip_met : (order : Order) (interfaces : List Interface) (left size k : ℕ) (bytes : List ℕ) → 0 < left → 0 < length bytes → k ≡ min left (length bytes)
    → met order interfaces (Rest left size) bytes ≡ Ok (Passed k (Rest (left - k) size))
unfolding met
skip_met order interfaces left size k bytes some more is = grind (arith, ne_eqb)

pub skip_some : (order : Order) (interfaces : List Interface) (left size n k : ℕ) (bytes : List ℕ) → k ≡ min left (length bytes)
    → packets_from (resting order interfaces left size) n bytes ≡ packets_from (resting order interfaces (left - k) size) n (drop k bytes)
skip_some order interfaces left size n k bytes is =
    elim (cases_eq k 0) [
      | inl none ↦
          ap (λ j. packets_from (resting order interfaces j size) n bytes) (let same : left ≡ left - k = omega (arith, none) in same)
          ∙ ap (λ j. packets_from (resting order interfaces (left - k) size) n (drop j bytes)) (sym none)
      | inr some ↦
          let told = skip_met order interfaces left size k bytes (omega (arith, is, some)) (omega (arith, is, some)) is in
          one_part (resting order interfaces left size) n bytes (Passed k (Rest (left - k) size)) told refl
          ∙ ap (λ j. packets_from (resting order interfaces (left - k) size) j (drop k bytes)) (let same : n + 0 ≡ n = omega arith in same)
    ]

-- which of them come together
skip_parted : (order : Order) (interfaces : List Interface) (left size n k : ℕ) (a b : List ℕ) → k ≡ min left (length a)
    → packets_from (resting order interfaces left size) n (a ++ b) ≡ packets_from (resting order interfaces (left - k) size) n (drop k a ++ b)
skip_parted order interfaces left size n k a b is =
    let all = min left (length (a ++ b)) in
    let more = min (left - k) (length (drop k a ++ b)) in
    let sum : all ≡ k + more = omega (arith, is, length-append a b, length-append (drop k a) b, length-drop k a) in
    let lefts : left - all ≡ left - k - more = omega (arith, sum) in
    let within : drop k (a ++ b) ≡ drop k a ++ b = drop-append-le k a b (omega (arith, is)) in
    let lists : drop all (a ++ b) ≡ drop more (drop k a ++ b) = ap (λ j. drop j (a ++ b)) sum ∙ sym (drop-drop more k (a ++ b)) ∙ ap (drop more) within in
    skip_some order interfaces left size n all (a ++ b) refl
    ∙ ap (λ j. packets_from (resting order interfaces j size) n (drop all (a ++ b))) lefts
    ∙ ap (packets_from (resting order interfaces (left - k - more) size) n) lists
    ∙ sym (skip_some order interfaces (left - k) size n more (drop k a ++ b) refl)

skip_part : (order : Order) (interfaces : List Interface) (left size n : ℕ) (a b : List ℕ) (m : Met) → 0 < left
    → met order interfaces (Rest left size) a ≡ Ok m → is_wanting m ≡ false
    → packets_from (resting order interfaces left size) n (a ++ b)
    ≡ prepend (packets n a m) (packets_from (after (resting order interfaces left size) m) (n + length (packets n a m)) (drop (size_of m) a ++ b))
skip_part order interfaces left size n a b m some told sure =
    elim (cases_eq (length a) 0) [
      | inl none ↦ absurd (let takes = met_takes order interfaces (Rest left size) a m told sure in omega (arith, takes.some, takes.few, none))
      | inr more ↦
          let k = min left (length a) in
          let is : m ≡ Passed k (Rest (left - k) size) = (let e : Ok m ≡ Ok (Passed k (Rest (left - k) size)) = sym told ∙ skip_met order interfaces left size k a some (omega (arith, more)) refl in cc) in
          rw is (skip_parted order interfaces left size n k a b refl
          ∙ ap (λ j. packets_from (resting order interfaces (left - k) size) j (drop k a ++ b)) (let same : n ≡ n + 0 = omega arith in same))
    ]

taken_at : (order : Order) (interfaces : List Interface) (due : Due) (n : ℕ) (a b : List ℕ) (m : Met) → met order interfaces due a ≡ Ok m → is_wanting m ≡ false
    → packets_from (record { order = order; interfaces = interfaces; due = due }) n (a ++ b)
    ≡ prepend (packets n a m) (packets_from (after (record { order = order; interfaces = interfaces; due = due }) m) (n + length (packets n a m)) (drop (size_of m) a ++ b))
taken_at order interfaces Block n a b m told sure = whole_part (record { order = order; interfaces = interfaces; due = Block }) n a b m tt told sure
taken_at order interfaces (Packet link kept left size) n a b m told sure =
    whole_part (record { order = order; interfaces = interfaces; due = Packet link kept left size }) n a b m tt told sure
taken_at order interfaces (Rest left size) n a b m told sure =
    elim (cases_eq left 0) [
      | inl none ↦ whole_part (record { order = order; interfaces = interfaces; due = Rest left size }) n a b m none told sure
      | inr some ↦ skip_part order interfaces left size n a b m (omega (arith, some)) told sure
    ]

-- a part is taken from the front, whatever follows
pub taken : (s : State) (n : ℕ) (a b : List ℕ) (m : Met) → met s.order s.interfaces s.due a ≡ Ok m → is_wanting m ≡ false
    → packets_from s n (a ++ b) ≡ prepend (packets n a m) (packets_from (after s m) (n + length (packets n a m)) (drop (size_of m) a ++ b))
taken s n a b m told sure = taken_at s.order s.interfaces s.due n a b m told sure

-- a fault at the front stays
refused_whole : (s : State) (n : ℕ) (a b : List ℕ) (fault : RecordingFault) → IsWhole s.due → met s.order s.interfaces s.due a ≡ Err fault
    → packets_from s n (a ++ b) ≡ record { records = []; fault = Some fault }
unfolding packets_from
refused_whole s n a b fault whole told =
    ap (from_met s n (a ++ b) (parts (length (a ++ b)))) (met_append s.order s.interfaces s.due a b whole (ap is_sure told) ∙ told)

no_fault : (order : Order) (interfaces : List Interface) (left size : ℕ) (a : List ℕ) (fault : RecordingFault) → 0 < left
    → met order interfaces (Rest left size) a ≡ Err fault → ⊥
unfolding met
no_fault order interfaces left size a fault some told = grind (arith, ne_eqb)

refused_at : (order : Order) (interfaces : List Interface) (due : Due) (n : ℕ) (a b : List ℕ) (fault : RecordingFault) → met order interfaces due a ≡ Err fault
    → packets_from (record { order = order; interfaces = interfaces; due = due }) n (a ++ b) ≡ record { records = []; fault = Some fault }
refused_at order interfaces Block n a b fault told = refused_whole (record { order = order; interfaces = interfaces; due = Block }) n a b fault tt told
refused_at order interfaces (Packet link kept left size) n a b fault told =
    refused_whole (record { order = order; interfaces = interfaces; due = Packet link kept left size }) n a b fault tt told
refused_at order interfaces (Rest left size) n a b fault told =
    elim (cases_eq left 0) [
      | inl none ↦ refused_whole (record { order = order; interfaces = interfaces; due = Rest left size }) n a b fault none told
      | inr some ↦ absurd (no_fault order interfaces left size a fault (omega (arith, some)) told)
    ]

pub refused : (s : State) (n : ℕ) (a b : List ℕ) (fault : RecordingFault) → met s.order s.interfaces s.due a ≡ Err fault
    → packets_from s n (a ++ b) ≡ record { records = []; fault = Some fault }
refused s n a b fault told = refused_at s.order s.interfaces s.due n a b fault told

-- bytes that tell nothing are the end, or are cut
pub ended : (s : State) (n : ℕ) (a : List ℕ) (k : ℕ) → met s.order s.interfaces s.due a ≡ Ok (Wants k)
    → packets_from s n a ≡ record { records = []; fault = end_at s.due a }
unfolding packets_from
ended s n a k told = ap (from_met s n a (parts (length a))) told
