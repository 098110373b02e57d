-- What further bytes do to the packets of a recording.
use Rattle.std.proofs.Common.{◌≡◌, false, ℕ, zero, suc, ◌+◌, ◌<◌, List, [], ◌∷◌, ◌++◌, length, drop, refl, inl, inr, sym, ap, ◌∙◌, arith, Result, Ok, Err, None, length-drop, append-nil, append_assoc}
use Rattle.ipx_recording.specs.Met.{met}
use Rattle.ipx_recording.specs.Recorded.{State, Contents, Recorded, size_of, is_wanting, packets, after, prepend, packets_from, end_at, final}
use Rattle.ipx_recording.specs.Further.{Continues}
use Rattle.ipx_recording.specs.declared.due.Due.{Due}
use Rattle.ipx_recording.specs.declared.due.Due.TheVariants.{Block, Packet, Rest}
use Rattle.ipx_recording.specs.declared.met.Met.{Met}
use Rattle.ipx_recording.specs.declared.met.Met.TheVariants.{Wants, Passed, Captured, Described, Section}
use Rattle.ipx_recording.specs.declared.recording_fault.RecordingFault.{RecordingFault}
use Rattle.ipx_recording.proofs.Sizes.{met_takes}
use Rattle.ipx_recording.proofs.Parts.{taken, refused, ended}

-- an end that is met too soon is taken back
not_final : (due : Due) (a : List ℕ) → final (end_at due a) ≡ None
not_final Block [] = refl
not_final Block (x ∷ a) = refl
not_final (Packet link kept left n) a = refl
not_final (Rest left n) a = refl

-- packets before both
behind : (rs : List Recorded) (c d : Contents) → Continues c d → Continues (prepend rs c) (prepend rs d)
behind rs c d (inl same) = inl (ap (prepend rs) same)
behind rs c d (inr on) = inr (record {
  opened = on.opened;
  rest = on.rest;
  is = ap (prepend rs) on.is ∙ ap (λ (l : List Recorded). record { records = l; fault = on.rest.fault }) (sym (append_assoc rs c.records on.rest.records));
})

module _ (s : State) (n : ℕ) (a b : List ℕ) where
  by_part : (m : Met) → met s.order s.interfaces s.due a ≡ Ok m → is_wanting m ≡ false
      → Continues (packets_from (after s m) (n + length (packets n a m)) (drop (size_of m) a)) (packets_from (after s m) (n + length (packets n a m)) (drop (size_of m) a ++ b))
      → Continues (packets_from s n a) (packets_from s n (a ++ b))
  by_part m told sure later =
      let one : packets_from s n a ≡ prepend (packets n a m) (packets_from (after s m) (n + length (packets n a m)) (drop (size_of m) a)) =
      ap (packets_from s n) (sym (append-nil a)) ∙ taken s n a [] m told sure
      ∙ ap (λ l. prepend (packets n a m) (packets_from (after s m) (n + length (packets n a m)) l)) (append-nil (drop (size_of m) a)) in
      rw one (rw (taken s n a b m told sure) (behind (packets n a m) _ _ later))

  by_end : (k : ℕ) → met s.order s.interfaces s.due a ≡ Ok (Wants k) → Continues (packets_from s n a) (packets_from s n (a ++ b))
  by_end k told = rw (ended s n a k told) (inr (record { opened = not_final s.due a; rest = packets_from s n (a ++ b); is = refl }))

  by_fault : (fault : RecordingFault) → met s.order s.interfaces s.due a ≡ Err fault → Continues (packets_from s n a) (packets_from s n (a ++ b))
  by_fault fault told = inl (refused s n a b fault told ∙ sym (ap (packets_from s n) (sym (append-nil a)) ∙ refused s n a [] fault told))

by_met : (s : State) (n : ℕ) (a b : List ℕ) (r : Result Met RecordingFault) → met s.order s.interfaces s.due a ≡ r
    → ((m : Met) → met s.order s.interfaces s.due a ≡ Ok m → is_wanting m ≡ false
    → Continues (packets_from (after s m) (n + length (packets n a m)) (drop (size_of m) a)) (packets_from (after s m) (n + length (packets n a m)) (drop (size_of m) a ++ b)))
    → Continues (packets_from s n a) (packets_from s n (a ++ b))
by_met s n a b (Err fault) told later = by_fault s n a b fault told
by_met s n a b (Ok (Wants k)) told later = by_end s n a b k told
by_met s n a b (Ok (Passed k due)) told later = by_part s n a b (Passed k due) told refl (later (Passed k due) told refl)
by_met s n a b (Ok (Captured link kept wire due)) told later = by_part s n a b (Captured link kept wire due) told refl (later (Captured link kept wire due) told refl)
by_met s n a b (Ok (Described i due)) told later = by_part s n a b (Described i due) told refl (later (Described i due) told refl)
by_met s n a b (Ok (Section order due)) told later = by_part s n a b (Section order due) told refl (later (Section order due) told refl)

fewer_than : (most : ℕ) (s : State) (n : ℕ) (a b : List ℕ) → length a < most → Continues (packets_from s n a) (packets_from s n (a ++ b))
fewer_than zero s n a b few = absurd (omega arith)
fewer_than (suc most) s n a b few = by_met s n a b (met s.order s.interfaces s.due a) refl (λ m told sure.
    let takes = met_takes s.order s.interfaces s.due a m told sure in
    fewer_than most (after s m) (n + length (packets n a m)) (drop (size_of m) a) b (omega (arith, few, takes.some, takes.few, length-drop (size_of m) a)))

-- a fault stays, or packets follow
pub continues : (s : State) (n : ℕ) (a b : List ℕ) → Continues (packets_from s n a) (packets_from s n (a ++ b))
continues s n a b = fewer_than (suc (length a)) s n a b (omega arith)
