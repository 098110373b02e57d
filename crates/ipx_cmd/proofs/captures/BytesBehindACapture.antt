-- Bytes behind those of a capture.
use Rattle.std.proofs.Common.{◌≡◌, ◌⊎◌, ℕ, zero, suc, ◌+◌, ◌<◌, ◌≤◌, Bool, true, false, List, [], ◌∷◌, ◌++◌, length, drop, refl, sym, ap, ◌∙◌, inl, inr, arith, Option, Some, None, Result, Ok, Err, append_assoc, append-nil, length-append, length-drop}
use Rattle.std.proofs.lemmas.Bool.{cases_lt, cases_eq, lt-ltb}
use Rattle.std.proofs.lemmas.Grind.{flat_map-append}
use Rattle.std.proofs.lemmas.List.{drop-append-le}
use Rattle.std.specs.List.{flat_map}
use Rattle.ipx_capture.specs.Calls.{ending}
use Rattle.ipx_capture.specs.Header.{header_of}
use Rattle.ipx_capture.specs.Records.{Record, Contents, records, records_from, from_front, behind_header, first_record, behind, kept_count}
use Rattle.ipx_capture.specs.declared.capture_fault.CaptureFault.{CaptureFault}
use Rattle.ipx_capture.specs.declared.capture_fault.CaptureFault.TheVariants.{CutHeader, RecordLong, CutRecord}
use Rattle.ipx_capture.specs.declared.order.Order.{Order}
use Rattle.ipx_capture.proofs.Calling.{header_append}
use Rattle.ipx_capture.proofs.First.{first_none, first_cut_header, first_long, first_cut, first_whole, first_size, long_append}
use Rattle.ipx_recording.specs.Recorded.{is_recording}
use Rattle.ipx_cmd.specs.Continues.{Continues}
use Rattle.ipx_cmd.specs.Decoded.{IsFront}
use Rattle.ipx_cmd.specs.RecordText.{record_text}
use Rattle.ipx_cmd.specs.Shown.{shown, sofar, judged, settled, contents_text, ending_text, ended_by, is_some_fault}
use Rattle.ipx_cmd.specs.declared.ended.Ended.TheVariants.{BadInput}
use Rattle.ipx_cmd.proofs.captures.HowARunEnds.{shown_by, end_by, sofar_by, judged_by}
use Rattle.ipx_cmd.proofs.captures.RecordsInFront.{Rows, rows_append, rows_end, rows_split, prepend}
use Rattle.ipx_cmd.proofs.recordings.BytesBehindARecording.{recording_continues}

-- records, and what stands behind them
pub record Parsed (order : Order) (n : ℕ) (bytes : List ℕ) (c : Contents) : Type 0 where
  pub rest : List ℕ
  pub rows : Rows order n bytes c.records rest
  pub end : first_record order (n + length c.records) rest ≡ ending c.fault

parsed_by : (most : ℕ) (order : Order) (n : ℕ) (bytes : List ℕ) (first : Result (Option Record) CaptureFault) → first_record order n bytes ≡ first
    → ((r : Record) → first_record order n bytes ≡ Ok (Some r) → Parsed order (n + 1) (behind r bytes) (records_from most order (n + 1) (behind r bytes)))
    → Parsed order n bytes (from_front first (λ s. records_from most order (n + 1) (behind s bytes)))
parsed_by most order n bytes (Ok None) told later = grind arith
parsed_by most order n bytes (Err fault) told later = grind arith
parsed_by most order n bytes (Ok (Some r)) told later = grind arith

parsed : (most : ℕ) (order : Order) (n : ℕ) (bytes : List ℕ) → length bytes < most → Parsed order n bytes (records_from most order n bytes)
parsed zero order n bytes few = absurd (omega arith)
parsed (suc most) order n bytes few = parsed_by most order n bytes (first_record order n bytes) refl (λ r told.
    parsed most order (n + 1) (behind r bytes) (omega (arith, few, first_size order n bytes r told, length-drop (16 + length r.bytes) bytes)))

-- a record has no other fault than these two
two_faults : (order : Order) (n : ℕ) (b : List ℕ) (fault : CaptureFault) → first_record order n b ≡ Err fault → (fault ≡ CutRecord) ⊎ (fault ≡ RecordLong)
two_faults order n b fault told =
    elim (cases_eq (length b) 0) [
      | inl none ↦ let e = first_none order n b none in absurd cc
      | inr some ↦ elim (cases_lt (length b) 16) [
        | inl few ↦ let e = first_cut_header order n b (omega arith) few in inl cc
        | inr enough ↦ elim (cases_lt 262144 (kept_count order b)) [
          | inl long ↦ let e = first_long order n b enough long in inr cc
          | inr short ↦ elim (cases_lt (length b) (16 + kept_count order b)) [
            | inl cut ↦ let e = first_cut order n b enough short cut in inl cc
            | inr whole ↦ let e = first_whole order n b enough short whole in absurd cc
          ]
        ]
      ]
    ]

-- a header that isn't cut stays as it is
header_stays : (bytes more : List ℕ) → (header_of bytes ≡ Err CutHeader) ⊎ ((24 ≤ length bytes) × (header_of (bytes ++ more) ≡ header_of bytes))
unfolding header_of
header_stays bytes more = grind (arith, cases_lt, lt-ltb, header_append)

-- the text so far is a prefix of the whole, and with a fault that no bytes take back it is all
front_at : (text : List ℕ) (n : ℕ) (fault : Option CaptureFault) → IsFront (text ++ ending_text n (settled fault)) (text ++ ending_text n fault)
front_at text n fault = grind (arith, append-nil)

settled_is : (fault : Option CaptureFault) → is_some_fault (settled fault) ≡ true → (settled fault ≡ fault) × (ended_by fault ≡ BadInput)
settled_is fault e = grind arith

-- the same records and the same end
same_records : (bytes more : List ℕ) (c : Contents) → is_recording bytes ≡ false → is_recording (bytes ++ more) ≡ false → records bytes ≡ c → records (bytes ++ more) ≡ c → Continues bytes more
same_records bytes more c other other2 e f = grind (arith, front_at, shown_by, sofar_by, settled_is, judged_by, end_by)

-- further records behind those of bytes that end well, or too soon
longer : (bytes more : List ℕ) (c d : Contents) → is_recording bytes ≡ false → is_recording (bytes ++ more) ≡ false → records bytes ≡ c → settled c.fault ≡ None → records (bytes ++ more) ≡ prepend c.records d → Continues bytes more
longer bytes more c d other other2 e none f =
    let text : List ℕ = flat_map record_text c.records in
    let tail : List ℕ = flat_map record_text d.records ++ ending_text (length (c.records ++ d.records)) d.fault in
    let opened : judged bytes ≡ false = judged_by bytes c other e ∙ ap is_some_fault none in
    record {
      front = record {
        rest = tail;
        is = shown_by (bytes ++ more) (prepend c.records d) other2 f
            ∙ ap (λ (x : List ℕ). x ++ ending_text (length (c.records ++ d.records)) d.fault) (flat_map-append record_text c.records d.records)
            ∙ append_assoc text (flat_map record_text d.records) (ending_text (length (c.records ++ d.records)) d.fault)
            ∙ ap (λ (x : List ℕ). x ++ tail) (sym (sofar_by bytes c other e ∙ ap (contents_text c) none ∙ append-nil text));
      };
      whole = λ is. absurd (let wrong : false ≡ true = sym opened ∙ is in cc);
      bad = λ is. absurd (let wrong : false ≡ true = sym opened ∙ is in cc);
    }

-- behind a header, by what stands behind the records
behind_records : (bytes more : List ℕ) (order : Order) (c : Contents) (fault : Option CaptureFault) → is_recording bytes ≡ false → is_recording (bytes ++ more) ≡ false → records bytes ≡ c → c.fault ≡ fault → (p : Parsed order 1 (drop 24 bytes) c)
    → records (bytes ++ more) ≡ records_from (suc (length (bytes ++ more))) order 1 (drop 24 bytes ++ more) → Continues bytes more
behind_records bytes more order c None other other2 e is p f =
    let rows = rows_append order c.records 1 (drop 24 bytes) p.rest more p.rows in
    let few : length (drop 24 bytes ++ more) < suc (length (bytes ++ more)) = omega (arith, length-append (drop 24 bytes) more, length-append bytes more, length-drop 24 bytes) in
    let split = rows_split order c.records (suc (length (bytes ++ more))) 1 (drop 24 bytes ++ more) (p.rest ++ more) rows few in
    longer bytes more c (records_from (suc split.left) order (1 + length c.records) (p.rest ++ more)) other other2 e (ap settled is) (f ∙ split.are)
behind_records bytes more order c (Some fault) other other2 e is p f =
    let rows = rows_append order c.records 1 (drop 24 bytes) p.rest more p.rows in
    let few : length (drop 24 bytes ++ more) < suc (length (bytes ++ more)) = omega (arith, length-append (drop 24 bytes) more, length-append bytes more, length-drop 24 bytes) in
    let split = rows_split order c.records (suc (length (bytes ++ more))) 1 (drop 24 bytes ++ more) (p.rest ++ more) rows few in
    let told : first_record order (1 + length c.records) p.rest ≡ Err fault = p.end ∙ ap ending is in
    elim (two_faults order (1 + length c.records) p.rest fault told) [
      | inl cut ↦ longer bytes more c (records_from (suc split.left) order (1 + length c.records) (p.rest ++ more)) other other2 e (ap settled (is ∙ ap Some cut)) (f ∙ split.are)
      | inr long ↦
          let still = long_append order (1 + length c.records) p.rest more (told ∙ ap Err long) in
          same_records bytes more c other other2 e (f
          ∙ rows_end order c.records (suc (length (bytes ++ more))) 1 (1 + length c.records) (drop 24 bytes ++ more) (p.rest ++ more) (Some RecordLong) rows few refl still
          ∙ ap (λ (x : Option CaptureFault). record { records = c.records; fault = x }) (sym (is ∙ ap Some long)))
    ]

by_header : (bytes more : List ℕ) (h : Result Order CaptureFault) → is_recording bytes ≡ false → is_recording (bytes ++ more) ≡ false → header_of bytes ≡ h → header_of (bytes ++ more) ≡ header_of bytes → 24 ≤ length bytes → Continues bytes more
by_header bytes more (Err fault) other other2 e same enough =
    same_records bytes more (record { records = []; fault = Some fault }) other other2 (ap (λ x. behind_header x bytes) e) (ap (λ x. behind_header x (bytes ++ more)) (same ∙ e))
by_header bytes more (Ok order) other other2 e same enough =
    let few : length (drop 24 bytes) < suc (length bytes) = omega (arith, length-drop 24 bytes) in
    let c = records_from (suc (length bytes)) order 1 (drop 24 bytes) in
    behind_records bytes more order c c.fault other other2 (ap (λ x. behind_header x bytes) e) refl (parsed (suc (length bytes)) order 1 (drop 24 bytes) few)
    (ap (λ x. behind_header x (bytes ++ more)) (same ∙ e) ∙ ap (records_from (suc (length (bytes ++ more))) order 1) (drop-append-le 24 bytes more enough))

-- a header that is cut says nothing yet
nothing_yet : (bytes more : List ℕ) → is_recording bytes ≡ false → header_of bytes ≡ Err CutHeader → Continues bytes more
nothing_yet bytes more other cut =
    let c : Contents = record { records = []; fault = Some CutHeader } in
    let are : records bytes ≡ c = ap (λ x. behind_header x bytes) cut in
    let none : sofar bytes ≡ [] = sofar_by bytes c other are in
    let opened : judged bytes ≡ false = judged_by bytes c other are in
    record {
      front = record { rest = shown (bytes ++ more); is = ap (λ (x : List ℕ). x ++ shown (bytes ++ more)) (sym none) };
      whole = λ is. absurd (let wrong : false ≡ true = sym opened ∙ is in cc);
      bad = λ is. absurd (let wrong : false ≡ true = sym opened ∙ is in cc);
    }

-- more bytes make no recording of four
still_none : (bytes more : List ℕ) → 4 ≤ length bytes → is_recording bytes ≡ false → is_recording (bytes ++ more) ≡ false
unfolding is_recording
still_none [] more enough other = absurd (omega arith)
still_none (a ∷ []) more enough other = absurd (omega arith)
still_none (a ∷ b ∷ []) more enough other = absurd (omega arith)
still_none (a ∷ b ∷ c ∷ []) more enough other = absurd (omega arith)
still_none (a ∷ b ∷ c ∷ d ∷ rest) more enough other = other

of_capture : (bytes more : List ℕ) → is_recording bytes ≡ false → Continues bytes more
of_capture bytes more other = elim (header_stays bytes more) [
  | inl cut ↦ nothing_yet bytes more other cut
  | inr kept ↦ by_header bytes more (header_of bytes) other (still_none bytes more (omega (arith, kept.0)) other) refl kept.1 kept.0
]

by_mark : (bytes more : List ℕ) (b : Bool) → is_recording bytes ≡ b → Continues bytes more
by_mark bytes more false other = of_capture bytes more other
by_mark bytes more true is = recording_continues bytes more is

pub continues : (bytes more : List ℕ) → Continues bytes more
continues bytes more = by_mark bytes more (is_recording bytes) refl
