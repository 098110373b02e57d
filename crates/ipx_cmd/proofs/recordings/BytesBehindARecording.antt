-- Bytes behind those of a recording.
use Rattle.std.proofs.Common.{◌≡◌, ℕ, ◌+◌, ◌≤◌, true, false, List, [], ◌++◌, length, drop, refl, sym, ap, ◌∙◌, inl, inr, arith, Option, Some, Result, Ok, Err, append_assoc, append-nil}
use Rattle.std.proofs.lemmas.Bool.{cases_lt}
use Rattle.std.proofs.lemmas.Grind.{flat_map-append}
use Rattle.std.proofs.lemmas.List.{drop-append-le}
use Rattle.std.specs.List.{flat_map}
use Rattle.ipx_recording.specs.Further.{GoesOn}
use Rattle.ipx_recording.specs.Further as further
use Rattle.ipx_recording.specs.Recorded.{State, Contents, is_recording, begins, packets_from, final}
use Rattle.ipx_recording.specs.declared.recording_fault.RecordingFault.{RecordingFault}
use Rattle.ipx_recording.specs.declared.recording_fault.RecordingFault.TheVariants.{CutHeader}
use Rattle.ipx_recording.proofs.Beginning.{recording_append, begins_append, begins_short}
use Rattle.ipx_recording.proofs.Further.{continues}
use Rattle.ipx_cmd.specs.Continues.{Continues}
use Rattle.ipx_cmd.specs.Decoded.{IsFront}
use Rattle.ipx_cmd.specs.RecordedText.{Said, said, contents_said, behind_fields, recording_said, recorded_text, fault_line, end_by, is_fault}
use Rattle.ipx_cmd.specs.Shown.{shown, shown_end, sofar, judged}
use Rattle.ipx_cmd.specs.declared.ended.Ended.TheVariants.{BadInput}

-- what is said of a recording
pub says : (bytes : List ℕ) → is_recording bytes ≡ true
    → (shown bytes ≡ (recording_said bytes).shown) × (shown_end bytes ≡ (recording_said bytes).ended) × (sofar bytes ≡ (recording_said bytes).sofar) × (judged bytes ≡ (recording_said bytes).judged)
unfolding shown shown_end sofar judged
says bytes is = (rw is refl, rw is refl, rw is refl, rw is refl)

pub said_by_fields : (bytes : List ℕ) (h : Result State RecordingFault) → begins bytes ≡ h → recording_said bytes ≡ behind_fields h bytes
unfolding recording_said
said_by_fields bytes h e = ap (λ x. behind_fields x bytes) e

-- what more bytes do to what is said
record GoesOnSaying (one two : Said) : Type 0 where
  pub front : IsFront one.sofar two.shown
  pub whole : one.judged ≡ true → two.shown ≡ one.sofar
  pub bad : one.judged ≡ true → two.ended ≡ BadInput

final_fault : (fault : Option RecordingFault) → is_fault (final fault) ≡ true → (final fault ≡ fault) × (end_by fault ≡ BadInput)
final_fault fault e = grind arith

front_at : (lines : List ℕ) (n : ℕ) (fault : Option RecordingFault) → IsFront (lines ++ fault_line n (final fault)) (lines ++ fault_line n fault)
front_at lines n fault = grind (arith, append-nil)

same_said : (lines : List ℕ) (n : ℕ) (fault : Option RecordingFault) → GoesOnSaying (said lines n fault) (said lines n fault)
same_said lines n fault = record {
  front = front_at lines n fault;
  whole = λ is. ap (λ (x : Option RecordingFault). lines ++ fault_line n x) (sym (final_fault fault is).0);
  bad = λ is. (final_fault fault is).1;
}

more_said : (c d : Contents) → GoesOn c d → GoesOnSaying (contents_said c) (contents_said d)
more_said c d on =
    let e : Contents = on.rest in
    let text : List ℕ = flat_map recorded_text c.records in
    let n : ℕ = length (c.records ++ e.records) + 1 in
    let tail : List ℕ = flat_map recorded_text e.records ++ fault_line n e.fault in
    let none : (contents_said c).sofar ≡ text = ap (λ (x : Option RecordingFault). text ++ fault_line (length c.records + 1) x) on.opened ∙ append-nil text in
    let opened : (contents_said c).judged ≡ false = ap is_fault on.opened in
    record {
      front = record {
        rest = tail;
        is = ap (λ (x : Contents). (contents_said x).shown) on.is
            ∙ ap (λ (x : List ℕ). x ++ fault_line n e.fault) (flat_map-append recorded_text c.records e.records)
            ∙ append_assoc text (flat_map recorded_text e.records) (fault_line n e.fault)
            ∙ ap (λ (x : List ℕ). x ++ tail) (sym none);
      };
      whole = λ is. absurd (let wrong : false ≡ true = sym opened ∙ is in cc);
      bad = λ is. absurd (let wrong : false ≡ true = sym opened ∙ is in cc);
    }

contents_go_on : (c d : Contents) → further.Continues c d → GoesOnSaying (contents_said c) (contents_said d)
contents_go_on c d (inl same) = rw same (same_said (flat_map recorded_text c.records) (length c.records + 1) c.fault)
contents_go_on c d (inr on) = more_said c d on

-- nothing is said of a header that is cut
nothing_yet : (two : Said) → GoesOnSaying (said [] 0 (Some CutHeader)) two
nothing_yet two = record { front = record { rest = two.shown; is = refl }; whole = λ is. absurd cc; bad = λ is. absurd cc }

by_fields : (bytes more : List ℕ) (h : Result State RecordingFault) → begins bytes ≡ h → begins (bytes ++ more) ≡ begins bytes → 24 ≤ length bytes
    → GoesOnSaying (recording_said bytes) (recording_said (bytes ++ more))
by_fields bytes more (Err fault) e same enough =
    rw (said_by_fields bytes (Err fault) e) (rw (said_by_fields (bytes ++ more) (Err fault) (same ∙ e)) (same_said [] 0 (Some fault)))
by_fields bytes more (Ok s) e same enough =
    rw (said_by_fields bytes (Ok s) e) (rw (said_by_fields (bytes ++ more) (Ok s) (same ∙ e) ∙ ap (λ (l : List ℕ). contents_said (packets_from s 1 l)) (drop-append-le 24 bytes more enough))
    (contents_go_on (packets_from s 1 (drop 24 bytes)) (packets_from s 1 (drop 24 bytes ++ more)) (continues s 1 (drop 24 bytes) more)))

said_on : (bytes more : List ℕ) → is_recording bytes ≡ true → GoesOnSaying (recording_said bytes) (recording_said (bytes ++ more))
said_on bytes more is = elim (cases_lt (length bytes) 24) [
  | inl few ↦ rw (said_by_fields bytes (Err CutHeader) (begins_short bytes few)) (nothing_yet (recording_said (bytes ++ more)))
  | inr enough ↦ by_fields bytes more (begins bytes) refl (begins_append bytes more enough is) enough
]

pub recording_continues : (bytes more : List ℕ) → is_recording bytes ≡ true → Continues bytes more
recording_continues bytes more is =
    let one = says bytes is in
    let two = says (bytes ++ more) (recording_append bytes more is) in
    let on = said_on bytes more is in
    record {
      front = record { rest = on.front.rest; is = two.0 ∙ on.front.is ∙ ap (λ (l : List ℕ). l ++ on.front.rest) (sym one.2) };
      whole = λ j. two.0 ∙ on.whole (sym one.3 ∙ j) ∙ sym one.2;
      bad = λ j. two.1 ∙ on.bad (sym one.3 ∙ j);
    }
