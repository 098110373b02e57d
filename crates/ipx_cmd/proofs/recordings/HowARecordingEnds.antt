-- How a run of `decode` over a recording ends, from where it stood.
use Rattle.std.proofs.Common.{◌≡◌, ◌⊎◌, ℕ, ◌+◌, ◌≤◌, true, false, List, [], ◌++◌, length, take, refl, sym, ap, subst, ◌∙◌, inl, inr, arith, Option, Some, None, Result, Ok, Err, IfOk, OnErr, append_assoc, append-nil, drop_at}
use Rattle.std.proofs.KnownBytes.{Appends-nil, Appends-trans, Consumes-trans}
use Rattle.std.proofs.lemmas.Bool.{cases_lt}
use Rattle.std.proofs.lemmas.Grind.{flat_map-append}
use Rattle.std.specs.Io.KnownBytes.{Appends, Consumes, IsAtEnd}
use Rattle.std.specs.List.{flat_map}
use Rattle.ipx_wire.specs.Ends.{Input, Output}
use Rattle.ipx_recording.specs.Met.{met}
use Rattle.ipx_recording.specs.Recorded.{State, Recorded, Contents, packets_from, prepend, final, is_final, end_at, begins, is_recording}
use Rattle.ipx_recording.specs.Steps.{Stepped, Refused}
use Rattle.ipx_recording.specs.declared.met.Met.TheVariants.{Wants}
use Rattle.ipx_recording.specs.declared.recording.Step.TheVariants as step
use Rattle.ipx_recording.specs.declared.recording_fault.RecordingFault.{RecordingFault}
use Rattle.ipx_recording.proofs.Parts.{refused, ended}
use Rattle.ipx_recording.proofs.Wanting.{met_final, met_wants, beginning_final}
use Rattle.ipx_recording.proofs.Beginning.{begins_append, begins_long, recording_append}
use Rattle.ipx_cmd.specs.Decoded.{CutOff, Decoded, IsFront}
use Rattle.ipx_cmd.specs.inside.Recording.{Brought, EndsWith, HasRead, ShowsAll, ShowsFront, Stopped, TellsFault, said_from}
use Rattle.ipx_cmd.specs.RecordedText.{Said, said, contents_said, recording_said, recorded_text, recording_fault_text, fault_line, is_fault}
use Rattle.ipx_cmd.specs.Shown.{shown, sofar}
use Rattle.ipx_cmd.specs.WroteFront.{WroteAll, WroteFront}
use Rattle.ipx_cmd.specs.declared.ended.Ended.{Ended}
use Rattle.ipx_cmd.specs.declared.ended.Ended.TheVariants.{Done, BadInput}
use Rattle.ipx_cmd.specs.declared.ended.RunFault.{RunFault}
use Rattle.ipx_cmd.proofs.captures.HowARunEnds.{front_of, front_more}
use Rattle.ipx_cmd.proofs.recordings.BytesBehindARecording.{says, said_by_fields}
use Rattle.ipx_cmd.proofs.recordings.BetweenTwoParts.{Between, wants_of, stays}

-- what is said of bytes by their packets
said_by : (s : State) (bytes : List ℕ) (c : Contents) → packets_from s 1 bytes ≡ c → said_from s bytes ≡ contents_said c
said_by s bytes c e = ap contents_said e

final_is : (fault : RecordingFault) → is_final fault ≡ true → final (Some fault) ≡ Some fault
final_is fault e = rw e refl

module _ {s r : State} {start now : Input} {from o : Output} {ahead text : List ℕ} {shown : ℕ} (m : Between s start now from o r ahead text shown) where
  -- the packets of what was read
  packets_read : packets_from s 1 m.bytes ≡ prepend m.rs (packets_from r (1 + shown) ahead)
  packets_read =
      ap (packets_from s 1) (sym (append-nil m.bytes)) ∙ m.leads [] ∙ ap (λ (l : List ℕ). prepend m.rs (packets_from r (1 + shown) l)) (append-nil ahead)

  -- the run was given up with bytes read on, and a prefix of the text left was written
  pub cut : {to : Output} (next : Input) (more : List ℕ) → Consumes now.left next.left more → WroteFront o to text → ShowsFront (said_from s) start next from to
  cut {to = to} next more h w =
      let bytes : List ℕ = m.bytes ++ more in
      let c : Contents = packets_from r (1 + shown) (ahead ++ more) in
      let tail : List ℕ = flat_map recorded_text c.records ++ fault_line (length (m.rs ++ c.records) + 1) (final c.fault) in
      let texts : (said_from s bytes).sofar ≡ flat_map recorded_text m.rs ++ tail =
      ap (λ (x : Said). x.sofar) (said_by s bytes (prepend m.rs c) (m.leads more))
      ∙ ap (λ (x : List ℕ). x ++ fault_line (length (m.rs ++ c.records) + 1) (final c.fault)) (flat_map-append recorded_text m.rs c.records)
      ∙ append_assoc (flat_map recorded_text m.rs) (flat_map recorded_text c.records) (fault_line (length (m.rs ++ c.records) + 1) (final c.fault)) in
      record {
        bytes = bytes;
        text = m.gone ++ take w.count text;
        read = Consumes-trans start.left now.left next.left m.bytes more m.read h;
        wrote = Appends-trans from.written o.written to.written m.gone (take w.count text) m.wrote w.written;
        front = inl (front_more (m.gone ++ take w.count text) (flat_map recorded_text m.rs) tail (said_from s bytes).sofar (front_of (flat_map recorded_text m.rs) m.gone text w.count m.text_is) texts);
      }

  -- bytes in which an end was found, and what is said of them
  record Found (next : Input) (fault : Option RecordingFault) : Type 0 where
    pub bytes : List ℕ
    pub read : Consumes start.left next.left bytes
    pub are : packets_from s 1 bytes ≡ record { records = m.rs; fault = fault }
    pub enough : IsAtEnd next.left ⊎ (final fault ≡ fault)

  found_said : (next : Input) (fault : Option RecordingFault) (f : Found next fault) → said_from s f.bytes ≡ said (m.gone ++ text) (shown + 1) fault
  found_said next fault f =
      said_by s f.bytes (record { records = m.rs; fault = fault }) f.are
      ∙ ap (λ (x : List ℕ). said x (length m.rs + 1) fault) m.text_is
      ∙ ap (λ j. said (m.gone ++ text) (j + 1) fault) (sym m.numbered)

  -- a fault was told
  told_ok : (next : Input) (to : Output) (fault : RecordingFault) (answer : Ended) → Found next (Some fault) → answer ≡ BadInput
      → WroteAll o to (text ++ recording_fault_text (shown + 1) fault) → ShowsAll (said_from s) start next from to answer
  told_ok next to fault answer f bad w =
      let line : List ℕ = recording_fault_text (shown + 1) fault in
      let says = found_said next (Some fault) f in
      let texts : (said_from s f.bytes).shown ≡ m.gone ++ (text ++ line) = ap (λ (x : Said). x.shown) says ∙ append_assoc m.gone text line in
      record {
        bytes = f.bytes;
        read = f.read;
        wrote = subst (Appends from.written to.written) (sym texts) (Appends-trans from.written o.written to.written m.gone (text ++ line) m.wrote w.written);
        answer = bad ∙ sym (ap (λ (x : Said). x.ended) says);
        enough = elim f.enough [
          | inl end ↦ inl end
          | inr settles ↦ inr (ap (λ (x : Said). x.judged) says ∙ ap is_fault settles)
        ];
      }

  told_err : (next : Input) (to : Output) (fault : RecordingFault) → Found next (Some fault)
      → WroteFront o to (text ++ recording_fault_text (shown + 1) fault) → ShowsFront (said_from s) start next from to
  told_err next to fault f w =
      let line : List ℕ = recording_fault_text (shown + 1) fault in
      let says = found_said next (Some fault) f in
      let texts : (said_from s f.bytes).shown ≡ m.gone ++ (text ++ line) = ap (λ (x : Said). x.shown) says ∙ append_assoc m.gone text line in
      record {
        bytes = f.bytes;
        text = m.gone ++ take w.count (text ++ line);
        read = f.read;
        wrote = Appends-trans from.written o.written to.written m.gone (take w.count (text ++ line)) m.wrote w.written;
        front = elim f.enough [
          | inl end ↦ inr (end, front_of (said_from s f.bytes).shown m.gone (text ++ line) w.count texts)
          | inr settles ↦ inl (front_of (said_from s f.bytes).sofar m.gone (text ++ line) w.count
              (ap (λ (x : Said). x.sofar) says ∙ ap (λ (x : Option RecordingFault). (m.gone ++ text) ++ fault_line (shown + 1) x) settles ∙ append_assoc m.gone text line))
        ];
      }

  told : (next : Input) (to : Output) (fault : RecordingFault) (answer : Result Ended RunFault) → Found next (Some fault) → TellsFault (shown + 1) fault o to text answer
      → IfOk answer (ShowsAll (said_from s) start next from to) × OnErr answer (ShowsFront (said_from s) start next from to)
  told next to fault (Ok answer) f w = (told_ok next to fault answer f w.0 w.1, tt)
  told next to fault (Err why) f w = (tt, told_err next to fault f w.0)

  -- a fault of the file that a part has
  pub fault_told : {q : State} (to : Output) (fault : RecordingFault) (answer : Result Ended RunFault) → Refused r q ahead fault → TellsFault (shown + 1) fault o to text answer
      → IfOk answer (ShowsAll (said_from s) start now from to) × OnErr answer (ShowsFront (said_from s) start now from to)
  fault_told to fault answer t w = told now to fault answer (record {
    bytes = m.bytes;
    read = m.read;
    are = ap (packets_from s 1) (sym (append-nil m.bytes)) ∙ m.leads [] ∙ ap (prepend m.rs) (refused r (1 + shown) ahead [] fault t.is)
        ∙ ap (λ (l : List Recorded). record { records = l; fault = Some fault }) (append-nil m.rs);
    enough = inr (final_is fault (met_final r.order r.interfaces r.due ahead fault t.is));
  }) w

  -- the end of the file
  end_found : (q : State) (longer : List ℕ) (next : Input) (need : ℕ) → Stepped r q ahead (step.Wants need) → Brought ahead longer now next need false
      → Found next (end_at r.due longer)
  end_found q longer next need t b =
      let few = (b.ended refl).0 in
      let wants : met r.order r.interfaces r.due longer ≡ Ok (Wants need) =
      ap (met r.order r.interfaces r.due) b.grown ∙ met_wants r.order r.interfaces r.due ahead b.more need (wants_of t) (omega (arith, few, ap length b.grown)) in
      record {
        bytes = m.bytes ++ b.more;
        read = Consumes-trans start.left now.left next.left m.bytes b.more m.read b.gained.read;
        are = m.leads b.more ∙ ap (λ (l : List ℕ). prepend m.rs (packets_from r (1 + shown) l)) (sym b.grown)
            ∙ ap (prepend m.rs) (ended r (1 + shown) longer need wants)
            ∙ ap (λ (l : List Recorded). record { records = l; fault = end_at r.due longer }) (append-nil m.rs);
        enough = inl (b.ended refl).1;
      }

  end_by_fault : (next : Input) (to : Output) (fault : Option RecordingFault) (answer : Result Ended RunFault) → text ≡ [] → IsAtEnd next.left → Found next fault → EndsWith (shown + 1) fault o to answer
      → IfOk answer (ShowsAll (said_from s) start next from to) × OnErr answer (ShowsFront (said_from s) start next from to)
  end_by_fault next to (Some fault) answer none end f w = told next to fault answer f (subst (λ (x : List ℕ). TellsFault (shown + 1) fault o to x answer) (sym none) w)
  end_by_fault next to None answer none end f w =
      let says = found_said next None f in
      let texts : (said_from s f.bytes).shown ≡ m.gone = ap (λ (x : Said). x.shown) says ∙ append-nil (m.gone ++ text) ∙ ap (λ (l : List ℕ). m.gone ++ l) none ∙ append-nil m.gone in
      let all : ShowsAll (said_from s) start next from to Done = record {
        bytes = f.bytes;
        read = f.read;
        wrote = subst (Appends from.written to.written) (sym texts) (subst (λ (x : Output). Appends from.written x.written m.gone) (sym w.1) m.wrote);
        answer = sym (ap (λ (x : Said). x.ended) says);
        enough = inl end;
      } in
      rw w.0 (all, tt)

  pub end_told : {q : State} {longer : List ℕ} {next : Input} {need : ℕ} (to : Output) (answer : Result Ended RunFault) → text ≡ [] → Stepped r q ahead (step.Wants need)
      → Brought ahead longer now next need false → EndsWith (shown + 1) (end_at r.due longer) o to answer
      → IfOk answer (ShowsAll (said_from s) start next from to) × OnErr answer (ShowsFront (said_from s) start next from to)
  end_told {q = q} {longer = longer} {next = next} {need = need} to answer none t b w = end_by_fault next to (end_at r.due longer) answer none (b.ended refl).1 (end_found q longer next need t b) w

  pub end_met : {q : State} {longer seen : List ℕ} {next : Input} {need : ℕ} (to : Output) (fault : Option RecordingFault) (answer : Result Ended RunFault) → text ≡ []
      → Stepped r q ahead (step.Wants need) → Brought ahead longer now next need false → fault ≡ end_at q.due seen → seen ≡ longer → EndsWith (shown + 1) fault o to answer
      → IfOk answer (ShowsAll (said_from s) start next from to) × OnErr answer (ShowsFront (said_from s) start next from to)
  end_met {q = q} {longer = longer} {seen = seen} to fault answer none t b is here w =
      let same : fault ≡ end_at r.due longer = is ∙ ap (end_at q.due) here ∙ ap (λ (x : State). end_at x.due longer) (stays t) in
      end_told to answer none t b (subst (λ (x : Option RecordingFault). EndsWith (shown + 1) x o to answer) same w)

  -- the reader failed, or no memory was left
  pub stopped : {next : Input} {why : RunFault} (to : Output) → Stopped now next why → to ≡ o → ShowsFront (said_from s) start next from to
  stopped {next = next} to t same =
      cut next t.more t.read (record { count = 0; written = subst (λ (x : Output). Appends o.written x.written []) (sym same) (Appends-nil o.written) })

-- what is said of a file whose header was read
module _ {before now : Input} {front : List ℕ} (h : HasRead before now front) (is : is_recording front ≡ true) where
  -- as many calls as may be
  pub calls_bounded : (s : State) → Ok s ≡ begins front → now.calls ≤ 16777216
  calls_bounded s told = h.bounded (omega (arith, begins_long front s (sym told)))

  -- all bytes are the header and those behind it
  file_said : (s : State) (more : List ℕ) → Ok s ≡ begins front → recording_said (front ++ more) ≡ said_from s more
  file_said s more told =
      let long = begins_long front s (sym told) in
      let size : length front ≡ 24 = omega (arith, long, h.few) in
      said_by_fields (front ++ more) (Ok s) (begins_append front more long is ∙ sym told)
      ∙ ap (λ (l : List ℕ). contents_said (packets_from s 1 l)) (drop_at front more 24 size)

  shown_ok : (s : State) (next : Input) (from to : Output) (answer : Ended) → Ok s ≡ begins front → ShowsAll (said_from s) now next from to answer → Decoded before next from to answer
  shown_ok s next from to answer told a =
      let bytes : List ℕ = front ++ a.bytes in
      let all = says bytes (recording_append front a.bytes is) in
      let same = file_said s a.bytes told in
      record {
        bytes = bytes;
        read = Consumes-trans before.left now.left next.left front a.bytes h.read a.read;
        wrote = subst (Appends from.written to.written) (sym (all.0 ∙ ap (λ (x : Said). x.shown) same)) a.wrote;
        answer = a.answer ∙ sym (all.1 ∙ ap (λ (x : Said). x.ended) same);
        enough = elim a.enough [
          | inl end ↦ inl end
          | inr settles ↦ inr (all.3 ∙ ap (λ (x : Said). x.judged) same ∙ settles)
        ];
      }

  shown_err : (s : State) (next : Input) (from to : Output) → Ok s ≡ begins front → ShowsFront (said_from s) now next from to → CutOff before next from to
  shown_err s next from to told a =
      let bytes : List ℕ = front ++ a.bytes in
      let all = says bytes (recording_append front a.bytes is) in
      let same = file_said s a.bytes told in
      record {
        bytes = bytes;
        text = a.text;
        read = Consumes-trans before.left now.left next.left front a.bytes h.read a.read;
        wrote = a.wrote;
        front = elim a.front [
          | inl some ↦ inl (subst (IsFront a.text) (sym (all.2 ∙ ap (λ (x : Said). x.sofar) same)) some)
          | inr some ↦ inr (some.0, subst (IsFront a.text) (sym (all.0 ∙ ap (λ (x : Said). x.shown) same)) some.1)
        ];
      }

  -- the header was refused
  fault_ends : (fault : RecordingFault) → Err fault ≡ begins front → IsAtEnd now.left ⊎ (final (Some fault) ≡ Some fault)
  fault_ends fault told =
      elim (cases_lt (length front) 24) [
        | inl few ↦ inl (h.ended few)
        | inr enough ↦ inr (final_is fault (beginning_final front fault enough (sym told)))
      ]

  refused_ok : (from to : Output) (fault : RecordingFault) (answer : Ended) → Err fault ≡ begins front → answer ≡ BadInput → WroteAll from to (recording_fault_text 0 fault)
      → Decoded before now from to answer
  refused_ok from to fault answer told bad w =
      let all = says front is in
      let same = said_by_fields front (Err fault) (sym told) in
      record {
        bytes = front;
        read = h.read;
        wrote = subst (Appends from.written to.written) (sym (all.0 ∙ ap (λ (x : Said). x.shown) same)) w.written;
        answer = bad ∙ sym (all.1 ∙ ap (λ (x : Said). x.ended) same);
        enough = elim (fault_ends fault told) [
          | inl end ↦ inl end
          | inr settles ↦ inr (all.3 ∙ ap (λ (x : Said). x.judged) same ∙ ap is_fault settles)
        ];
      }

  refused_err : (from to : Output) (fault : RecordingFault) → Err fault ≡ begins front → WroteFront from to (recording_fault_text 0 fault) → CutOff before now from to
  refused_err from to fault told w =
      let all = says front is in
      let same = said_by_fields front (Err fault) (sym told) in
      let line : List ℕ = recording_fault_text 0 fault in
      record {
        bytes = front;
        text = take w.count line;
        read = h.read;
        wrote = w.written;
        front = elim (fault_ends fault told) [
          | inl end ↦ inr (end, front_of (shown front) [] line w.count (all.0 ∙ ap (λ (x : Said). x.shown) same))
          | inr settles ↦ inl (front_of (sofar front) [] line w.count (all.2 ∙ ap (λ (x : Said). x.sofar) same ∙ ap (fault_line 0) settles))
        ];
      }

  pub header_refused : (from to : Output) (text : List ℕ) (fault : RecordingFault) (answer : Result Ended RunFault) → Err fault ≡ begins front → text ≡ []
      → TellsFault 0 fault from to text answer → IfOk answer (Decoded before now from to) × OnErr answer (CutOff before now from to)
  header_refused from to text fault (Ok answer) told none w =
      (refused_ok from to fault answer told w.0 (subst (λ (x : List ℕ). WroteAll from to (x ++ recording_fault_text 0 fault)) none w.1), tt)
  header_refused from to text fault (Err why) told none w =
      (tt, refused_err from to fault told (subst (λ (x : List ℕ). WroteFront from to (x ++ recording_fault_text 0 fault)) none w.0))

  -- and what stands behind it was shown
  pub packets_shown : (s : State) (next : Input) (from to : Output) (answer : Result Ended RunFault) → Ok s ≡ begins front
      → IfOk answer (ShowsAll (said_from s) now next from to) → OnErr answer (ShowsFront (said_from s) now next from to)
      → IfOk answer (Decoded before next from to) × OnErr answer (CutOff before next from to)
  packets_shown s next from to (Ok answer) told ok err = (shown_ok s next from to answer told ok, tt)
  packets_shown s next from to (Err why) told ok err = (tt, shown_err s next from to told err)
