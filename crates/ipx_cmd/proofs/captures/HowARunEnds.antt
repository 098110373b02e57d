-- How a run of `decode` ends, from where it stood.
use Rattle.std.proofs.Common.{◌≡◌, ◌⊎◌, ℕ, suc, ◌+◌, ◌<◌, ◌≤◌, false, true, List, [], ◌++◌, length, take, drop, refl, sym, ap, subst, ◌∙◌, inl, inr, arith, Option, Some, None, Result, Ok, Err, IfOk, IfErr, OnErr, append_assoc, append-nil, length-append, drop_at}
use Rattle.std.proofs.KnownBytes.{Appends-nil, Appends-trans, Consumes-trans}
use Rattle.std.proofs.lemmas.Grind.{flat_map-append}
use Rattle.std.proofs.lemmas.List.{take-append-drop}
use Rattle.std.specs.Io.KnownBytes.{Appends, Consumes, IsAtEnd}
use Rattle.std.specs.List.{flat_map}
use Rattle.ipx_wire.specs.Ends.{Input, Output}
use Rattle.ipx_capture.specs.Calls.{ending}
use Rattle.ipx_capture.specs.Header.{header_of, order_of, checked}
use Rattle.ipx_capture.specs.Window.{least_room}
use Rattle.ipx_capture.specs.declared.order.Order.{Order}
use Rattle.ipx_wire.specs.Piece.{piece}
use Rattle.std.proofs.lemmas.Bool.{lt-ltb, le-ltb, cases_lt}
use Rattle.ipx_capture.specs.Place.{Place, Opened, Takes, Nexts, told}
use Rattle.ipx_capture.specs.Records.{Record, Contents, records, records_from, behind_header, first_record}
use Rattle.ipx_capture.specs.declared.capture.Captured.{Captured}
use Rattle.ipx_capture.specs.declared.capture_fault.CaptureFault.{CaptureFault}
use Rattle.ipx_capture.specs.declared.capture_fault.CaptureFault.TheVariants.{CutHeader, Magic, Version, Link, RecordLong, CutRecord, Read, Memory}
use Rattle.ipx_capture.specs.declared.standing.Standing.TheVariants.{Open}
use Rattle.ipx_capture.proofs.Calling.{header_append}
use Rattle.ipx_capture.proofs.First.{first_none}
use Rattle.ipx_cmd.specs.Decoded.{CutOff, Decoded, IsFront}
use Rattle.ipx_recording.specs.Recorded.{is_recording}
use Rattle.ipx_recording.proofs.Beginning.{no_recording}
use Rattle.ipx_cmd.specs.inside.Moved.{Refuses, Tells}
use Rattle.ipx_cmd.specs.inside.Recording.{HasRead}
use Rattle.ipx_cmd.specs.RecordText.{record_text}
use Rattle.ipx_cmd.specs.WroteFront.{IsFaultOf, WroteAll, WroteFront}
use Rattle.ipx_cmd.specs.Shown.{shown, shown_end, sofar, judged, settled, contents_text, ending_text, ended_by, is_some_fault, capture_fault_text}
use Rattle.ipx_cmd.specs.declared.ended.Ended.{Ended}
use Rattle.ipx_cmd.specs.declared.ended.Ended.TheVariants.{Done, BadInput}
use Rattle.ipx_cmd.specs.declared.ended.RunFault.{RunFault}
use Rattle.ipx_cmd.proofs.captures.BetweenTwoRecords.{Midway}
use Rattle.ipx_cmd.proofs.captures.RecordsInFront.{Rows, rows_append, rows_end, rows_split, prepend}

-- an open capture takes what its call tells
pub takes_of : (p q : Place) (a b : Result (Option Captured) CaptureFault) → p.standing ≡ Open → Nexts p q (told a) → a ≡ b → Takes p q (told b)
takes_of p q a b goes_on h e = grind arith

-- texts by the records of the bytes, which are no recording
pub shown_by : (bytes : List ℕ) (c : Contents) → is_recording bytes ≡ false → records bytes ≡ c → shown bytes ≡ contents_text c c.fault
unfolding shown
shown_by bytes c other e = rw other (ap (λ (x : Contents). contents_text x x.fault) e)

pub end_by : (bytes : List ℕ) (c : Contents) → is_recording bytes ≡ false → records bytes ≡ c → shown_end bytes ≡ ended_by c.fault
unfolding shown_end
end_by bytes c other e = rw other (ap (λ (x : Contents). ended_by x.fault) e)

pub sofar_by : (bytes : List ℕ) (c : Contents) → is_recording bytes ≡ false → records bytes ≡ c → sofar bytes ≡ contents_text c (settled c.fault)
unfolding sofar
sofar_by bytes c other e = rw other (ap (λ (x : Contents). contents_text x (settled x.fault)) e)

pub judged_by : (bytes : List ℕ) (c : Contents) → is_recording bytes ≡ false → records bytes ≡ c → judged bytes ≡ is_some_fault (settled c.fault)
unfolding judged
judged_by bytes c other e = rw other (ap (λ (x : Contents). is_some_fault (settled x.fault)) e)

-- the records of a file are those behind its header
file_records : (before : Input) (p : Place) (opened : Opened before p) (more : List ℕ)
    → records (opened.begun.header ++ more) ≡ records_from (suc (length (opened.begun.header ++ more))) p.order 1 more
file_records before p opened more =
    let h = opened.begun.header in
    let size = opened.begun.size in
    ap (λ x. behind_header x (h ++ more)) (header_append h more (omega (arith, size)) ∙ opened.begun.order_is)
    ∙ ap (records_from (suc (length (h ++ more))) p.order 1) (drop_at h more 24 size)

-- and it is no recording
no_mark : (before : Input) (p : Place) (opened : Opened before p) (more : List ℕ) → is_recording (opened.begun.header ++ more) ≡ false
no_mark before p opened more =
    let h = opened.begun.header in
    no_recording (h ++ more) p.order (header_append h more (omega (arith, opened.begun.size)) ∙ opened.begun.order_is)

-- its records so far, and then some others
file_split : (before : Input) (p : Place) (opened : Opened before p) (more rest : List ℕ) (rs : List Record) → Rows p.order 1 more rs rest
    → (c : Contents) × (records (opened.begun.header ++ more) ≡ prepend rs c)
file_split before p opened more rest rs rows =
    let split = rows_split p.order rs (suc (length (opened.begun.header ++ more))) 1 more rest rows (omega (arith, length-append opened.begun.header more)) in
    (records_from (suc split.left) p.order (1 + length rs) rest, file_records before p opened more ∙ split.are)

-- its records, and what stands behind them
file_end : (before : Input) (p : Place) (opened : Opened before p) (more rest : List ℕ) (rs : List Record) (m : ℕ) (fault : Option CaptureFault) → Rows p.order 1 more rs rest
    → m ≡ 1 + length rs → first_record p.order m rest ≡ ending fault → records (opened.begun.header ++ more) ≡ record { records = rs; fault = fault }
file_end before p opened more rest rs m fault rows same told =
    file_records before p opened more
    ∙ rows_end p.order rs (suc (length (opened.begun.header ++ more))) 1 m more rest fault rows (omega (arith, length-append opened.begun.header more)) same told

-- prefixes of texts
pub front_of : (whole gone text : List ℕ) (k : ℕ) → whole ≡ gone ++ text → IsFront (gone ++ take k text) whole
front_of whole gone text k e = record {
  rest = drop k text;
  is = e ∙ ap (λ (x : List ℕ). gone ++ x) (sym (take-append-drop k text)) ∙ sym (append_assoc gone (take k text) (drop k text));
}

pub front_more : (text whole more longer : List ℕ) → IsFront text whole → longer ≡ whole ++ more → IsFront text longer
front_more text whole more longer front e = grind (arith, append_assoc)

-- nothing was written
pub wrote_none : (o to : Output) (text : List ℕ) → to ≡ o → WroteFront o to text
wrote_none o to text e = record { count = 0; written = subst (λ (x : Output). Appends o.written x.written []) (sym e) (Appends-nil o.written) }

-- the bytes that it was found in, and what they have
pub record Ends (before new : Input) (from o : Output) (text line : List ℕ) (fault : CaptureFault) : Type 0 where
  pub bytes : List ℕ
  pub gone : List ℕ
  pub read : Consumes before.left new.left bytes
  pub wrote : Appends from.written o.written gone
  pub shown_is : shown bytes ≡ gone ++ (text ++ line)
  pub end_is : shown_end bytes ≡ BadInput
  pub sofar_is : settled (Some fault) ≡ Some fault → sofar bytes ≡ gone ++ (text ++ line)
  pub judged_is : settled (Some fault) ≡ Some fault → judged bytes ≡ true

-- it was told
ends_ok : {before new : Input} {from o to : Output} {text : List ℕ} (n : ℕ) {fault : CaptureFault} {ended : Ended}
    → Ends before new from o text (capture_fault_text n fault) fault → IsAtEnd new.left ⊎ (settled (Some fault) ≡ Some fault)
    → ended ≡ BadInput → WroteAll o to (text ++ capture_fault_text n fault) → Decoded before new from to ended
ends_ok {from = from} {o = o} {to = to} {text = text} n {fault = fault} e enough answer w = grind (arith, Appends-trans)

-- or a prefix of it
ends_err : {before new : Input} {from o to : Output} {text : List ℕ} (n : ℕ) {fault : CaptureFault}
    → Ends before new from o text (capture_fault_text n fault) fault → IsAtEnd new.left ⊎ (settled (Some fault) ≡ Some fault)
    → WroteFront o to (text ++ capture_fault_text n fault) → CutOff before new from to
ends_err {from = from} {o = o} {to = to} {text = text} n {fault = fault} e enough w =
    let t : List ℕ = text ++ capture_fault_text n fault in
    record {
      bytes = e.bytes;
      text = e.gone ++ take w.count t;
      read = e.read;
      wrote = Appends-trans from.written o.written to.written e.gone (take w.count t) e.wrote w.written;
      front = elim enough [
        | inl end ↦ inr (end, front_of (shown e.bytes) e.gone t w.count e.shown_is)
        | inr settles ↦ inl (front_of (sofar e.bytes) e.gone t w.count (e.sofar_is settles))
      ];
    }

-- a run between two records
module _ {before : Input} {p q : Place} {from o : Output} {text : List ℕ} {n : ℕ} (opened : Opened before p) (m : Midway p q from o text n) where
  -- bytes that were read on since
  read_on : (new : Input) (more : List ℕ) → Consumes q.input.left new.left more → Consumes before.left new.left (opened.begun.header ++ (m.more ++ more))
  read_on new more h = grind (arith, Consumes-trans)

  -- the run was given up with bytes read on, and a prefix of the text left was written
  pub cut : {to : Output} (new : Input) (more : List ℕ) → Consumes q.input.left new.left more → WroteFront o to text → CutOff before new from to
  cut {to = to} new more h w =
      let rows = rows_append p.order m.rs 1 m.more q.ahead more m.rows in
      let split = file_split before p opened (m.more ++ more) (q.ahead ++ more) m.rs rows in
      let c = split.0 in
      let bytes : List ℕ = opened.begun.header ++ (m.more ++ more) in
      let tail : List ℕ = flat_map record_text c.records ++ ending_text (length (m.rs ++ c.records)) (settled c.fault) in
      let texts : sofar bytes ≡ flat_map record_text m.rs ++ tail =
      sofar_by bytes (prepend m.rs c) (no_mark before p opened (m.more ++ more)) split.1
      ∙ ap (λ (x : List ℕ). x ++ ending_text (length (m.rs ++ c.records)) (settled c.fault)) (flat_map-append record_text m.rs c.records)
      ∙ append_assoc (flat_map record_text m.rs) (flat_map record_text c.records) (ending_text (length (m.rs ++ c.records)) (settled c.fault)) in
      record {
        bytes = bytes;
        text = m.gone ++ take w.count text;
        read = read_on new more h;
        wrote = Appends-trans from.written o.written to.written m.gone (take w.count text) m.wrote w.written;
        front = inl (front_more (m.gone ++ take w.count text) (flat_map record_text m.rs) tail (sofar bytes) (front_of (flat_map record_text m.rs) m.gone text w.count m.text_is) texts);
      }

  -- the records of the bytes read, where a call told their end
  met : (more : List ℕ) (fault : Option CaptureFault) → first_record q.order (q.taken + 1) (q.ahead ++ more) ≡ ending fault
      → records (opened.begun.header ++ (m.more ++ more)) ≡ record { records = m.rs; fault = fault }
  met more fault told =
      file_end before p opened (m.more ++ more) (q.ahead ++ more) m.rs (q.taken + 1) fault (rows_append p.order m.rs 1 m.more q.ahead more m.rows) (omega (arith, m.taken))
      (ap (λ x. first_record x (q.taken + 1) (q.ahead ++ more)) (sym m.order) ∙ told)

  -- the end of the file
  pub done : {s : Place} {to : Output} → Takes q s (Ok None) → WroteAll o to text → Decoded before s.input from to Done
  done {s = s} {to = to} t w =
      let bytes : List ℕ = opened.begun.header ++ (m.more ++ t.more) in
      let are = met t.more None (ap (first_record q.order (q.taken + 1)) t.gives.0 ∙ first_none q.order (q.taken + 1) [] refl) in
      let texts : shown bytes ≡ m.gone ++ text = shown_by bytes (record { records = m.rs; fault = None }) (no_mark before p opened (m.more ++ t.more)) are ∙ append-nil (flat_map record_text m.rs) ∙ m.text_is in
      record {
        bytes = bytes;
        read = read_on s.input t.more t.read;
        wrote = subst (Appends from.written to.written) (sym texts) (Appends-trans from.written o.written to.written m.gone text m.wrote w.written);
        answer = sym (end_by bytes (record { records = m.rs; fault = None }) (no_mark before p opened (m.more ++ t.more)) are);
        enough = inl t.gives.2;
      }

  -- a fault of the file that a call told
  record Found (s : Place) (fault : CaptureFault) : Type 0 where
    pub more : List ℕ
    pub read : Consumes q.input.left s.input.left more
    pub is : first_record q.order (q.taken + 1) (q.ahead ++ more) ≡ Err fault
    pub enough : IsAtEnd s.input.left ⊎ (settled (Some fault) ≡ Some fault)
    pub line : ending_text (length m.rs) (Some fault) ≡ capture_fault_text (n + 1) fault

  found_ends : (s : Place) (fault : CaptureFault) → Found s fault → Ends before s.input from o text (capture_fault_text (n + 1) fault) fault
  found_ends s fault f =
      let bytes : List ℕ = opened.begun.header ++ (m.more ++ f.more) in
      let c : Contents = record { records = m.rs; fault = Some fault } in
      let other = no_mark before p opened (m.more ++ f.more) in
      let are = met f.more (Some fault) f.is in
      let line : List ℕ = capture_fault_text (n + 1) fault in
      let whole : contents_text c (Some fault) ≡ m.gone ++ (text ++ line) =
      ap (λ (x : List ℕ). flat_map record_text m.rs ++ x) f.line ∙ ap (λ (x : List ℕ). x ++ line) m.text_is ∙ append_assoc m.gone text line in
      record {
        bytes = bytes;
        gone = m.gone;
        read = read_on s.input f.more f.read;
        wrote = m.wrote;
        shown_is = shown_by bytes c other are ∙ whole;
        end_is = end_by bytes c other are;
        sofar_is = λ settles. sofar_by bytes c other are ∙ ap (contents_text c) settles ∙ whole;
        judged_is = λ settles. judged_by bytes c other are ∙ ap is_some_fault settles;
      }

  found_ok : (s : Place) (to : Output) (fault : CaptureFault) (r : Result Ended RunFault) → Found s fault → Tells (n + 1) fault o to text r
      → IfOk r (λ ended. Decoded before s.input from to ended)
  found_ok s to fault (Ok ended) f w = ends_ok (n + 1) (found_ends s fault f) f.enough w.0 w.1
  found_ok s to fault (Err why) f w = tt

  found_err : (s : Place) (to : Output) (fault : CaptureFault) (r : Result Ended RunFault) → Found s fault → Tells (n + 1) fault o to text r → OnErr r (CutOff before s.input from to)
  found_err s to fault (Ok ended) f w = tt
  found_err s to fault (Err why) f w = ends_err (n + 1) (found_ends s fault f) f.enough w.0

  -- the two faults that a call tells of a file
  found_long : (s : Place) → Takes q s (Err RecordLong) → Found s RecordLong
  found_long s t = grind arith

  found_cut : (s : Place) → Takes q s (Err CutRecord) → Found s CutRecord
  found_cut s t = grind arith

  -- what a run ends with at a fault that a call told
  pub fault_ok : {s : Place} (to : Output) (fault : CaptureFault) (r : Result Ended RunFault) → Takes q s (Err fault) → Refuses fault (n + 1) o to text r
      → IfOk r (λ ended. Decoded before s.input from to ended)
  fault_ok {s = s} to RecordLong r t w = found_ok s to RecordLong r (found_long s t) w
  fault_ok {s = s} to CutRecord r t w = found_ok s to CutRecord r (found_cut s t) w
  fault_ok to Read r t w = rw w.0 tt
  fault_ok to Memory r t w = rw w.0 tt
  fault_ok to CutHeader r t w = absurd t.gives
  fault_ok to Magic r t w = absurd t.gives
  fault_ok to Version r t w = absurd t.gives
  fault_ok to Link r t w = absurd t.gives

  pub fault_err : {s : Place} (to : Output) (fault : CaptureFault) (r : Result Ended RunFault) → Takes q s (Err fault) → Refuses fault (n + 1) o to text r
      → OnErr r (CutOff before s.input from to)
  fault_err {s = s} to RecordLong r t w = found_err s to RecordLong r (found_long s t) w
  fault_err {s = s} to CutRecord r t w = found_err s to CutRecord r (found_cut s t) w
  fault_err {s = s} to Read r t w = rw w.0 (cut s.input t.more t.read (wrote_none o to text w.1))
  fault_err {s = s} to Memory r t w = rw w.0 (cut s.input t.more t.read (wrote_none o to text w.1))
  fault_err to CutHeader r t w = absurd t.gives
  fault_err to Magic r t w = absurd t.gives
  fault_err to Version r t w = absurd t.gives
  fault_err to Link r t w = absurd t.gives

-- what holds anyway holds of an error
pub on_err_always : {T E P : Type 0} (r : Result T E) → P → OnErr r P
on_err_always r p = grind arith

pub if_ok_all : {T E : Type 0} {A : Type 0} {B : A → Type 0} (P : A → T → Type 0) (r : Result T E) → ((a : A) → B a → IfOk r (P a)) → IfOk r (λ x. (a : A) → B a → P a x)
if_ok_all P r h = grind arith

pub on_err_all : {T E : Type 0} {A : Type 0} {B : A → Type 0} (P : A → Type 0) (r : Result T E) → ((a : A) → B a → OnErr r (P a)) → OnErr r ((a : A) → B a → P a)
on_err_all P r h = grind arith

-- a file whose header was refused
header_records : (bytes : List ℕ) (fault : CaptureFault) → header_of bytes ≡ Err fault → records bytes ≡ record { records = []; fault = Some fault }
header_records bytes fault e = ap (λ x. behind_header x bytes) e

header_ends : (before new : Input) (from : Output) (bytes : List ℕ) (fault : CaptureFault) → Consumes before.left new.left bytes → is_recording bytes ≡ false
    → header_of bytes ≡ Err fault → ending_text 0 (Some fault) ≡ capture_fault_text 0 fault → Ends before new from from [] (capture_fault_text 0 fault) fault
header_ends before new from bytes fault read other e line =
    let are = header_records bytes fault e in
    let c : Contents = record { records = []; fault = Some fault } in
    record {
      bytes = bytes;
      gone = [];
      read = read;
      wrote = Appends-nil from.written;
      shown_is = shown_by bytes c other are ∙ line;
      end_is = end_by bytes c other are;
      sofar_is = λ settles. sofar_by bytes c other are ∙ ap (contents_text c) settles ∙ line;
      judged_is = λ settles. judged_by bytes c other are ∙ ap is_some_fault settles;
    }

header_found : (before new : Input) (from to : Output) (bytes : List ℕ) (fault : CaptureFault) (r : Result Ended RunFault) → Consumes before.left new.left bytes → is_recording bytes ≡ false
    → header_of bytes ≡ Err fault → IsAtEnd new.left ⊎ (settled (Some fault) ≡ Some fault) → ending_text 0 (Some fault) ≡ capture_fault_text 0 fault → Tells 0 fault from to [] r
    → IfOk r (Decoded before new from to) × OnErr r (CutOff before new from to)
header_found before new from to bytes fault (Ok ended) read other e enough line w = (ends_ok 0 (header_ends before new from bytes fault read other e line) enough w.0 w.1, tt)
header_found before new from to bytes fault (Err why) read other e enough line w = (tt, ends_err 0 (header_ends before new from bytes fault read other e line) enough w.0)

-- a header that is cut
pub header_short : (front : List ℕ) → length front < 24 → header_of front ≡ Err CutHeader
unfolding header_of
header_short front few = rw (lt-ltb (length front) 24 few) refl

-- which faults the fields of a header have
abbrev IsOfFields : CaptureFault → Type 0
IsOfFields Magic = Unit {0}
IsOfFields Version = Unit {0}
IsOfFields Link = Unit {0}
IsOfFields CutHeader = ⊥
IsOfFields RecordLong = ⊥
IsOfFields CutRecord = ⊥
IsOfFields Read = ⊥
IsOfFields Memory = ⊥

checked_fault : (o : Option Order) (major minor link : List ℕ) (fault : CaptureFault) → checked o major minor link ≡ Err fault → IsOfFields fault
checked_fault o major minor link fault e = grind arith

header_fault : (front : List ℕ) (fault : CaptureFault) → header_of front ≡ Err fault → ((length front < 24) × (fault ≡ CutHeader)) ⊎ IsOfFields fault
unfolding header_of
header_fault front fault e =
    elim (cases_lt (length front) 24) [
      | inl few ↦ inl (few, (let same : Err fault ≡ Err CutHeader = sym e ∙ header_short front few in cc))
      | inr enough ↦ inr (checked_fault (order_of (piece front 0 4)) (piece front 4 2) (piece front 6 2) (piece front 20 4) fault
          (let whole : header_of front ≡ checked (order_of (piece front 0 4)) (piece front 4 2) (piece front 6 2) (piece front 20 4) = rw (le-ltb (length front) 24 enough) refl in sym whole ∙ e))
    ]

-- what a run ends with where the header is refused
header_told : (before new : Input) (from to : Output) (front : List ℕ) (fault : CaptureFault) (r : Result Ended RunFault) → HasRead before new front → is_recording front ≡ false
    → header_of front ≡ Err fault → ((length front < 24) × (fault ≡ CutHeader)) ⊎ IsOfFields fault → Refuses fault 0 from to [] r
    → IfOk r (Decoded before new from to) × OnErr r (CutOff before new from to)
header_told before new from to front CutHeader r h other e (inl few) w = header_found before new from to front CutHeader r h.read other e (inl (h.ended few.0)) refl w
header_told before new from to front CutHeader r h other e (inr bad) w = absurd bad
header_told before new from to front Magic r h other e kind w = header_found before new from to front Magic r h.read other e (inr refl) refl w
header_told before new from to front Version r h other e kind w = header_found before new from to front Version r h.read other e (inr refl) refl w
header_told before new from to front Link r h other e kind w = header_found before new from to front Link r h.read other e (inr refl) refl w
header_told before new from to front Read r h other e (inl few) w = absurd (let wrong = few.1 in cc)
header_told before new from to front Read r h other e (inr bad) w = absurd bad
header_told before new from to front Memory r h other e (inl few) w = absurd (let wrong = few.1 in cc)
header_told before new from to front Memory r h other e (inr bad) w = absurd bad
header_told before new from to front RecordLong r h other e (inl few) w = absurd (let wrong = few.1 in cc)
header_told before new from to front RecordLong r h other e (inr bad) w = absurd bad
header_told before new from to front CutRecord r h other e (inl few) w = absurd (let wrong = few.1 in cc)
header_told before new from to front CutRecord r h other e (inr bad) w = absurd bad

pub header_exit : (before new : Input) (from to : Output) (front text : List ℕ) (fault : CaptureFault) (r : Result Ended RunFault) → HasRead before new front → is_recording front ≡ false
    → header_of front ≡ Err fault → text ≡ [] → Refuses fault 0 from to text r → IfOk r (Decoded before new from to) × OnErr r (CutOff before new from to)
header_exit before new from to front text fault r h other e none w =
    header_told before new from to front fault r h other e (header_fault front fault e) (subst (λ (x : List ℕ). Refuses fault 0 from to x r) none w)

-- a run that was given up before anything was written
pub gave_up : (before new : Input) (from to : Output) (front : List ℕ) → Consumes before.left new.left front → to ≡ from → CutOff before new from to
gave_up before new from to front read same = record {
  bytes = front;
  text = [];
  read = read;
  wrote = subst (λ (x : Output). Appends from.written x.written []) (sym same) (Appends-nil from.written);
  front = inl (record { rest = sofar front; is = refl });
}

-- a capture stands behind its header
pub opened_by : (before now : Input) (front : List ℕ) (order : Order) (p : Place) → HasRead before now front → now.failed ≡ false → Ok order ≡ header_of front
    → p ≡ record { order = order; taken = 0; ahead = []; memory = least_room; standing = Open; input = now } → Opened before p
opened_by before now front order p h fine told is =
    let long : 24 ≤ length front = elim (cases_lt (length front) 24) [
      | inl few ↦ absurd (let wrong = told ∙ header_short front few in cc)
      | inr enough ↦ enough
    ] in
    rw is (record {
      begun = record { header = front; read = h.read; size = omega (arith, long, h.few); order_is = sym told; fine = fine; bounded = h.bounded (omega (arith, long)) };
      none = refl;
      fresh = refl;
      room = refl;
      goes_on = refl;
    })

-- a header that is there was read in some calls
pub few_calls : (before now : Input) (front : List ℕ) (order : Order) → HasRead before now front → Ok order ≡ header_of front → now.calls ≤ 16777216
few_calls before now front order h told =
    elim (cases_lt (length front) 24) [
      | inl few ↦ absurd (let wrong = told ∙ header_short front few in cc)
      | inr enough ↦ h.bounded (omega (arith, enough))
    ]

-- what holds of each file whose capture stands there, holds of each whose header was read
pub ok_opened : {T : Type 0} (r : Result T RunFault) (p : Place) (P Q : Input → T → Type 0) (H : Input → Type 0) → ((before : Input) → H before → Opened before p)
    → ((before : Input) (x : T) → P before x → Q before x) → IfOk r (λ x. (before : Input) → Opened before p → P before x) → IfOk r (λ x. (before : Input) → H before → Q before x)
ok_opened (Ok x) p P Q H opens same ok = λ before h. same before x (ok before (opens before h))
ok_opened (Err why) p P Q H opens same ok = tt

pub err_opened : {T : Type 0} (r : Result T RunFault) (p : Place) (P Q : Input → Type 0) (H : Input → Type 0) → ((before : Input) → H before → Opened before p)
    → ((before : Input) → P before → Q before) → OnErr r ((before : Input) → Opened before p → P before) → OnErr r ((before : Input) → H before → Q before)
err_opened (Ok x) p P Q H opens same err = tt
err_opened (Err why) p P Q H opens same err = λ before h. same before (err before (opens before h))

-- a header that is refused is no device's fault
told_fault : (n : ℕ) (fault : CaptureFault) (from to : Output) (text : List ℕ) (r : Result Ended RunFault) → Tells n fault from to text r → IfErr r (IsFaultOf false to.failed)
told_fault n fault from to text (Ok ended) w = tt
told_fault n fault from to text (Err why) w = w.1

fault_by_kind : (front : List ℕ) (fault : CaptureFault) (from to : Output) (text : List ℕ) (r : Result Ended RunFault) → ((length front < 24) × (fault ≡ CutHeader)) ⊎ IsOfFields fault
    → Refuses fault 0 from to text r → IfErr r (IsFaultOf false to.failed)
fault_by_kind front CutHeader from to text r kind w = told_fault 0 CutHeader from to text r w
fault_by_kind front Magic from to text r kind w = told_fault 0 Magic from to text r w
fault_by_kind front Version from to text r kind w = told_fault 0 Version from to text r w
fault_by_kind front Link from to text r kind w = told_fault 0 Link from to text r w
fault_by_kind front Read from to text r (inl few) w = absurd (let wrong = few.1 in cc)
fault_by_kind front Read from to text r (inr bad) w = absurd bad
fault_by_kind front Memory from to text r (inl few) w = absurd (let wrong = few.1 in cc)
fault_by_kind front Memory from to text r (inr bad) w = absurd bad
fault_by_kind front RecordLong from to text r kind w = told_fault 0 RecordLong from to text r w
fault_by_kind front CutRecord from to text r kind w = told_fault 0 CutRecord from to text r w

pub header_fault_is : (new : Input) (front : List ℕ) (fault : CaptureFault) (from to : Output) (text : List ℕ) (r : Result Ended RunFault) → header_of front ≡ Err fault → new.failed ≡ false
    → Refuses fault 0 from to text r → IfErr r (IsFaultOf new.failed to.failed)
header_fault_is new front fault from to text r e fine w =
    subst (λ b. IfErr r (IsFaultOf b to.failed)) (sym fine) (fault_by_kind front fault from to text r (header_fault front fault e) w)

-- the same intake
pub other_input : (before x y : Input) (from to : Output) (ended : Ended) → Decoded before x from to ended → x ≡ y → Decoded before y from to ended
other_input before x y from to ended d same = subst (λ z. Decoded before z from to ended) same d

pub other_input_cut : (before x y : Input) (from to : Output) → CutOff before x from to → x ≡ y → CutOff before y from to
other_input_cut before x y from to d same = subst (λ z. CutOff before z from to) same d
