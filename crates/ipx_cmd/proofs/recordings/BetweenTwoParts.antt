-- A run of `decode` over a recording, between two parts.
use Rattle.std.proofs.Common.{◌≡◌, ℕ, ◌+◌, ◌-◌, ◌*◌, ◌<◌, ◌≤◌, true, false, Bool, List, [], ◌∷◌, ◌++◌, length, drop, refl, sym, ap, subst, ◌∙◌, arith, Result, Ok, Err, IfOk, IfErr, append_assoc, append-nil, length-append, length-drop}
use Rattle.std.proofs.KnownBytes.{Appends-nil, Appends-trans, Consumes-nil, Consumes-trans}
use Rattle.std.proofs.lemmas.Grind.{flat_map-append}
use Rattle.std.specs.Io.KnownBytes.{Appends, Consumes}
use Rattle.std.specs.List.{flat_map}
use Rattle.ipx_wire.specs.Ends.{Input, Output}
use Rattle.ipx_wire.specs.Piece.{piece}
use Rattle.ipx_recording.specs.Met.{met}
use Rattle.ipx_recording.specs.Recorded.{State, Recorded, Contents, packets_from, packets, prepend, after, size_of, is_wanting}
use Rattle.ipx_recording.specs.Steps.{Stepped, Refused, step_of}
use Rattle.ipx_recording.specs.declared.met.Met.{Met}
use Rattle.ipx_recording.specs.declared.met.Met.TheVariants.{Wants, Passed, Captured, Described, Section}
use Rattle.ipx_recording.specs.declared.recording.Kept.{Kept}
use Rattle.ipx_recording.specs.declared.recording.Step.{Step}
use Rattle.ipx_recording.specs.declared.recording.Step.TheVariants as step
use Rattle.ipx_recording.specs.declared.recording_fault.RecordingFault.{RecordingFault}
use Rattle.ipx_recording.proofs.Parts.{taken}
use Rattle.ipx_recording.proofs.Sizes.{met_takes}
use Rattle.ipx_recording.proofs.Wanting.{wants_more}
use Rattle.ipx_cmd.specs.inside.Moved.{Moved}
use Rattle.ipx_cmd.specs.inside.Recording.{Brought}
use Rattle.ipx_cmd.specs.RecordedText.{recorded_text}
use Rattle.ipx_cmd.specs.WroteFront.{WroteAll}

-- since a place these bytes were read, and these packets taken; their text is what was written and what is left
pub record Between (s : State) (start now : Input) (from to : Output) (r : State) (ahead text : List ℕ) (shown : ℕ) : Type 0 where
  pub bytes : List ℕ
  pub rs : List Recorded
  pub gone : List ℕ
  pub read : Consumes start.left now.left bytes
  pub leads : (rest : List ℕ) → packets_from s 1 (bytes ++ rest) ≡ prepend rs (packets_from r (1 + shown) (ahead ++ rest))
  pub numbered : shown ≡ length rs
  pub wrote : Appends from.written to.written gone
  pub text_is : flat_map recorded_text rs ≡ gone ++ text
  pub fine_in : now.failed ≡ false
  pub fine_out : to.failed ≡ false
  pub few : shown + length ahead ≤ 262160 * now.calls
  pub bounded : now.calls ≤ 16777216

-- right behind the header
pub between_start : (s : State) (start : Input) (o : Output) (ahead text : List ℕ) → ahead ≡ [] → text ≡ [] → start.failed ≡ false → o.failed ≡ false → start.calls ≤ 16777216
    → Between s start start o o s ahead text 0
between_start s start o ahead text none empty fine_in fine_out few = record {
  bytes = [];
  rs = [];
  gone = [];
  read = Consumes-nil start.left;
  leads = λ rest. ap (λ (l : List ℕ). packets_from s 1 (l ++ rest)) (sym none);
  numbered = refl;
  wrote = Appends-nil o.written;
  text_is = sym empty;
  fine_in = fine_in;
  fine_out = fine_out;
  few = omega (arith, ap length none);
  bounded = few;
}

-- all text was written
pub moved_all : (from to : Output) (text left : List ℕ) → WroteAll from to text → left ≡ [] → to.failed ≡ false → Moved from to text left
moved_all from to text left w none fine = record {
  gone = text;
  written = w.written;
  all = sym (append-nil text) ∙ ap (λ (l : List ℕ). text ++ l) (sym none);
  fine = fine;
}

-- text was written
pub between_moved : {s r : State} {start now : Input} {from o to : Output} {ahead text left : List ℕ} {shown : ℕ} → Between s start now from o r ahead text shown
    → Moved o to text left → Between s start now from to r ahead left shown
between_moved {from = from} {o = o} {to = to} {left = left} m moved = record {
  bytes = m.bytes;
  rs = m.rs;
  gone = m.gone ++ moved.gone;
  read = m.read;
  leads = m.leads;
  numbered = m.numbered;
  wrote = Appends-trans from.written o.written to.written m.gone moved.gone m.wrote moved.written;
  text_is = m.text_is ∙ ap (λ (t : List ℕ). m.gone ++ t) moved.all ∙ sym (append_assoc m.gone moved.gone left);
  fine_in = m.fine_in;
  fine_out = moved.fine;
  few = m.few;
  bounded = m.bounded;
}

-- bytes were read
pub between_brought : {s r : State} {start now next : Input} {from to : Output} {ahead longer text : List ℕ} {shown : ℕ} (need : ℕ) (enough : Bool)
    → Between s start now from to r ahead text shown → Brought ahead longer now next need enough → Between s start next from to r longer text shown
between_brought {s = s} {r = r} {start = start} {now = now} {next = next} {ahead = ahead} {longer = longer} {shown = shown} need enough m b = record {
  bytes = m.bytes ++ b.more;
  rs = m.rs;
  gone = m.gone;
  read = Consumes-trans start.left now.left next.left m.bytes b.more m.read b.gained.read;
  leads = λ rest.
      ap (packets_from s 1) (append_assoc m.bytes b.more rest) ∙ m.leads (b.more ++ rest)
      ∙ ap (λ (l : List ℕ). prepend m.rs (packets_from r (1 + shown) l)) (sym (append_assoc ahead b.more rest) ∙ ap (λ (l : List ℕ). l ++ rest) (sym b.grown));
  numbered = m.numbered;
  wrote = m.wrote;
  text_is = m.text_is;
  fine_in = b.fine ∙ m.fine_in;
  fine_out = m.fine_out;
  few = omega (arith, m.few, b.gained.few, ap length b.grown, length-append ahead b.more);
  bounded = b.gained.bounded m.bounded;
}

is_wants : (m : Met) (need : ℕ) → step.Wants need ≡ step_of m → m ≡ Wants need
is_wants (Wants j) need said = (let e : step.Wants need ≡ step.Wants j = said in cc)
is_wants (Passed j due) need said = absurd cc
is_wants (Captured link kept wire due) need said = absurd cc
is_wants (Described i due) need said = absurd cc
is_wants (Section order due) need said = absurd cc

-- what is wanted
pub wants_of : {r q : State} {ahead : List ℕ} {need : ℕ} → Stepped r q ahead (step.Wants need) → met r.order r.interfaces r.due ahead ≡ Ok (Wants need)
wants_of {r = r} {ahead = ahead} {need = need} t = t.is ∙ ap Ok (is_wants t.part need t.said)

-- and nothing changes
pub stays : {r q : State} {ahead : List ℕ} {need : ℕ} → Stepped r q ahead (step.Wants need) → q ≡ r
stays {r = r} {need = need} t = t.then ∙ ap (after r) (is_wants t.part need t.said)

-- what shows these packets
pub record Shows (m : Met) (k : ℕ) (n : ℕ) (a : List ℕ) (rs : List Recorded) : Type 0 where
  pub sure : is_wanting m ≡ false
  pub size : size_of m ≡ k
  pub are : packets n a m ≡ rs

passed_shows : (m : Met) (k n : ℕ) (a : List ℕ) → step.Passed k ≡ step_of m → Shows m k n a []
passed_shows (Wants j) k n a said = absurd cc
passed_shows (Passed j due) k n a said = record { sure = refl; size = (let e : step.Passed k ≡ step.Passed j = said in cc); are = refl }
passed_shows (Captured link kept wire due) k n a said = absurd cc
passed_shows (Described i due) k n a said = record { sure = refl; size = (let e : step.Passed k ≡ step.Passed 16 = said in cc); are = refl }
passed_shows (Section order due) k n a said = record { sure = refl; size = (let e : step.Passed k ≡ step.Passed 24 = said in cc); are = refl }

-- one packet, however many bytes it had on the wire
pub record OnePacket (m : Met) (kept : Kept) (n : ℕ) (a : List ℕ) : Type 0 where
  pub wire : ℕ
  pub shows : Shows m (4 + kept.size) n a (record { number = n; link = kept.link; wire = wire; bytes = piece a 4 kept.size } ∷ [])

packet_shows : (m : Met) (kept : Kept) (n : ℕ) (a : List ℕ) → step.Packet kept ≡ step_of m → OnePacket m kept n a
packet_shows (Wants j) kept n a said = absurd cc
packet_shows (Passed j due) kept n a said = absurd cc
packet_shows (Described i due) kept n a said = absurd cc
packet_shows (Section order due) kept n a said = absurd cc
packet_shows (Captured link k wire due) kept n a said =
    let e : step.Packet kept ≡ step.Packet (record { link = link; size = k; wire = wire }) = said in
    let is : kept ≡ record { link = link; size = k; wire = wire } = cc in
    record { wire = wire; shows = rw is (record { sure = refl; size = refl; are = refl }) }

-- how many bytes are taken are there
pub passed_fits : {r q : State} {ahead : List ℕ} {k : ℕ} → Stepped r q ahead (step.Passed k) → k + 0 ≤ length ahead
passed_fits {r = r} {ahead = ahead} {k = k} t =
    let shows = passed_shows t.part k 0 ahead t.said in
    omega (arith, shows.size, (met_takes r.order r.interfaces r.due ahead t.part t.is shows.sure).few)

pub packet_fits : {r q : State} {ahead : List ℕ} {kept : Kept} → Stepped r q ahead (step.Packet kept) → 4 + kept.size ≤ length ahead
packet_fits {r = r} {ahead = ahead} {kept = kept} t =
    let one = packet_shows t.part kept 0 ahead t.said in
    omega (arith, one.shows.size, (met_takes r.order r.interfaces r.due ahead t.part t.is one.shows.sure).few)

joined : (rs ps : List Recorded) (c : Contents) → prepend rs (prepend ps c) ≡ prepend (rs ++ ps) c
joined rs ps c = ap (λ (l : List Recorded). record { records = l; fault = c.fault }) (sym (append_assoc rs ps c.records))

-- a part was taken that shows these packets
between_taken : {s r q : State} {start now : Input} {from to : Output} {ahead text : List ℕ} {shown : ℕ} (m : Between s start now from to r ahead text shown) (part : Met)
    (k more : ℕ) (ps : List Recorded) (behind left : List ℕ) → met r.order r.interfaces r.due ahead ≡ Ok part → q ≡ after r part → Shows part k (1 + shown) ahead ps
    → more ≡ length ps → more ≤ k → behind ≡ drop k ahead → left ≡ text ++ flat_map recorded_text ps → Between s start now from to q behind left (shown + more)
between_taken {s = s} {r = r} {q = q} {ahead = ahead} {text = text} {shown = shown} m part k more ps behind left is then shows count small rest said =
    let takes = met_takes r.order r.interfaces r.due ahead part is shows.sure in
    let number : 1 + shown + length ps ≡ 1 + (shown + more) = omega (arith, count) in
    record {
      bytes = m.bytes;
      rs = m.rs ++ ps;
      gone = m.gone;
      read = m.read;
      leads = λ further.
          m.leads further
          ∙ ap (prepend m.rs) (taken r (1 + shown) ahead further part is shows.sure)
          ∙ ap (λ l. prepend m.rs (prepend l (packets_from (after r part) (1 + shown + length l) (drop (size_of part) ahead ++ further)))) shows.are
          ∙ ap (λ j. prepend m.rs (prepend ps (packets_from (after r part) j (drop (size_of part) ahead ++ further)))) number
          ∙ ap (λ t. prepend m.rs (prepend ps (packets_from t (1 + (shown + more)) (drop (size_of part) ahead ++ further)))) (sym then)
          ∙ ap (λ (l : List ℕ). prepend m.rs (prepend ps (packets_from q (1 + (shown + more)) (l ++ further)))) (ap (λ j. drop j ahead) shows.size ∙ sym rest)
          ∙ joined m.rs ps (packets_from q (1 + (shown + more)) (behind ++ further));
      numbered = omega (arith, m.numbered, count, length-append m.rs ps);
      wrote = m.wrote;
      text_is = flat_map-append recorded_text m.rs ps ∙ ap (λ (x : List ℕ). x ++ flat_map recorded_text ps) m.text_is
          ∙ append_assoc m.gone text (flat_map recorded_text ps) ∙ ap (λ (x : List ℕ). m.gone ++ x) (sym said);
      fine_in = m.fine_in;
      fine_out = m.fine_out;
      few = omega (arith, m.few, takes.few, takes.some, shows.size, ap length rest, length-drop k ahead, small);
      bounded = m.bounded;
    }

pub between_passed : {s r q : State} {start now : Input} {from to : Output} {ahead behind text : List ℕ} {shown k : ℕ} → Between s start now from to r ahead text shown
    → Stepped r q ahead (step.Passed k) → behind ≡ drop (k + 0) ahead → Between s start now from to q behind text shown
between_passed {s = s} {r = r} {q = q} {start = start} {now = now} {from = from} {to = to} {ahead = ahead} {behind = behind} {text = text} {shown = shown} {k = k} m t rest =
    let same : shown + 0 ≡ shown = omega arith in
    subst (Between s start now from to q behind text) same
    (between_taken m t.part k 0 [] behind text t.is t.then (passed_shows t.part k (1 + shown) ahead t.said) refl (omega arith)
    (rest ∙ ap (λ j. drop j ahead) (let none : k + 0 ≡ k = omega arith in none)) (sym (append-nil text)))

pub between_packet : {s r q : State} {start now : Input} {from to : Output} {ahead behind text left bytes : List ℕ} {shown : ℕ} {kept : Kept}
    → Between s start now from to r ahead text shown → Stepped r q ahead (step.Packet kept) → behind ≡ drop (4 + kept.size) ahead → bytes ≡ piece ahead 4 kept.size
    → ((wire : ℕ) → left ≡ text ++ recorded_text (record { number = shown + 1; link = kept.link; wire = wire; bytes = bytes }))
    → Between s start now from to q behind left (shown + 1)
between_packet {r = r} {q = q} {ahead = ahead} {behind = behind} {text = text} {left = left} {bytes = bytes} {shown = shown} {kept = kept} m t rest are said =
    let one = packet_shows t.part kept (1 + shown) ahead t.said in
    let p : Recorded = record { number = 1 + shown; link = kept.link; wire = one.wire; bytes = piece ahead 4 kept.size } in
    let number : shown + 1 ≡ 1 + shown = omega arith in
    between_taken m t.part (4 + kept.size) 1 (p ∷ []) behind left t.is t.then one.shows refl (omega arith) rest
    (said one.wire
    ∙ ap (λ j. text ++ recorded_text (record { number = j; link = kept.link; wire = one.wire; bytes = bytes })) number
    ∙ ap (λ l. text ++ recorded_text (record { number = 1 + shown; link = kept.link; wire = one.wire; bytes = l })) are
    ∙ ap (λ (l : List ℕ). text ++ l) (sym (append-nil (recorded_text p))))

-- less is to come: a part takes bytes, and a call of the reader brings a bounded number of them
pub passed_shrinks : {r q : State} {ahead behind : List ℕ} {k : ℕ} (calls : ℕ) → Stepped r q ahead (step.Passed k) → behind ≡ drop (k + 0) ahead
    → 262161 * (16777216 - calls) + length behind < 262161 * (16777216 - calls) + length ahead
passed_shrinks {r = r} {ahead = ahead} {k = k} calls t rest =
    let shows = passed_shows t.part k 0 ahead t.said in
    let takes = met_takes r.order r.interfaces r.due ahead t.part t.is shows.sure in
    omega (arith, shows.size, takes.some, takes.few, ap length rest, length-drop (k + 0) ahead)

pub packet_shrinks : {r q : State} {ahead behind : List ℕ} {kept : Kept} (calls : ℕ) → Stepped r q ahead (step.Packet kept) → behind ≡ drop (4 + kept.size) ahead
    → 262161 * (16777216 - calls) + length behind < 262161 * (16777216 - calls) + length ahead
packet_shrinks {ahead = ahead} {kept = kept} calls t rest = omega (arith, packet_fits t, ap length rest, length-drop (4 + kept.size) ahead)

pub brought_shrinks : {s r q : State} {start now next : Input} {from to : Output} {ahead longer text : List ℕ} {shown need : ℕ} → Between s start now from to r ahead text shown
    → Stepped r q ahead (step.Wants need) → Brought ahead longer now next need true
    → 262161 * (16777216 - next.calls) + length longer < 262161 * (16777216 - now.calls) + length ahead
brought_shrinks {r = r} {ahead = ahead} {need = need} m t b =
    let wants = wants_of t in
    let less = wants_more r.order r.interfaces r.due ahead need wants in
    omega (arith, less, b.whole refl, b.gained.few, b.gained.bounded m.bounded, m.bounded, ap length b.grown, length-append ahead b.more)

-- what a call of `step` did, with the bytes that it was shown
pub stepped_by : {r q : State} {seen ahead : List ℕ} (result : Result Step RecordingFault) (field a : Step) → IfOk result (Stepped r q seen) → result ≡ Ok field → field ≡ a → seen ≡ ahead
    → Stepped r q ahead a
stepped_by {r = r} {q = q} {seen = seen} {ahead = ahead} result field a ok is same here =
    subst (λ s. Stepped r q ahead s) same (subst (λ (l : List ℕ). Stepped r q l field) here (subst (λ x. IfOk x (Stepped r q seen)) is ok))

pub refused_by : {r q : State} {seen ahead : List ℕ} (result : Result Step RecordingFault) (fault : RecordingFault) → IfErr result (Refused r q seen) → result ≡ Err fault → seen ≡ ahead
    → Refused r q ahead fault
refused_by {r = r} {q = q} {seen = seen} {ahead = ahead} result fault err is here =
    subst (λ (l : List ℕ). Refused r q l fault) here (subst (λ x. IfErr x (Refused r q seen)) is err)

-- where nothing changed
pub between_stays : {s r q : State} {start now : Input} {from to : Output} {ahead seen text : List ℕ} {shown need : ℕ} → Between s start now from to r ahead text shown
    → Stepped r q seen (step.Wants need) → Between s start now from to q ahead text shown
between_stays {s = s} {start = start} {now = now} {from = from} {to = to} {ahead = ahead} {text = text} {shown = shown} m t =
    subst (λ x. Between s start now from to x ahead text shown) (sym (stays t)) m

pub brought_as : {ahead longer : List ℕ} {now next : Input} {need : ℕ} (one two : Bool) → Brought ahead longer now next need one → one ≡ two → Brought ahead longer now next need two
brought_as {ahead = ahead} {longer = longer} {now = now} {next = next} {need = need} one two b same = subst (Brought ahead longer now next need) same b
