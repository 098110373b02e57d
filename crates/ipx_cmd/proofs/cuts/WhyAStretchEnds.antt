-- Why the lines of a stretch did not act to the end.
use Rattle.std.proofs.Common.{IfErr, OnOk, ◌≡◌, ℕ, ◌+◌, ◌≤◌, true, false, List, [], ◌∷◌, ◌++◌, length, refl, sym, ap, ◌∙◌, subst, arith, Result, Ok, Err, append_assoc, append-nil, length-append}
use Rattle.std.proofs.KnownBytes.{Appends-nil}
use Rattle.ipx_wire.specs.Ends.{Output}
use Rattle.ipx_cmd.specs.inside.Leads.{Begins, IsOneLine, IsPending}
use Rattle.ipx_cmd.specs.Lines.{is_long, line_feed}
use Rattle.ipx_cmd.specs.Playing.{Step, by_lines}
use Rattle.ipx_cmd.specs.inside.Stretch.{NotKept, Went, WentOff}
use Rattle.ipx_cmd.specs.declared.ended.RunFault.TheVariants.{Memory}
use Rattle.ipx_cmd.specs.declared.lines.fault.LineFault.{LineFault}
use Rattle.ipx_cmd.specs.declared.lines.fault.LineFault.TheVariants.{Long}
use Rattle.ipx_cmd.specs.declared.lines.halt.Halt.{Halt}
use Rattle.ipx_cmd.specs.declared.lines.halt.Halt.TheVariants.{Line, Run}
use Rattle.ipx_cmd.proofs.cuts.BetweenTwoLines.{Midpiece}
use Rattle.ipx_cmd.proofs.cuts.LedToByBytes.{ends_long, none_pending}
use Rattle.ipx_cmd.proofs.cuts.StretchBehindStretch.{added_none, went_none, went_off, went_went}

-- a line that is too long
pub off_long : {S : Type 0} (acts : Step S) (state : S) (number : ℕ) (line rest : List ℕ) (o : Output) (text : List ℕ) (fault : LineFault) → o.failed ≡ false → IsOneLine line
    → (fault ≡ Long) × (is_long line ≡ true) → WentOff acts state number (line ++ rest) o o text text number (Line fault)
off_long acts state number line rest o text fault fine one told = grind (arith, ends_long, added_none)

begins_none : {S : Type 0} (acts : Step S) (state : S) (number : ℕ) (bytes : List ℕ) → Begins acts state number bytes []
begins_none acts state number bytes = record { is = λ counts takes more. record { rest = (by_lines acts counts state number (bytes ++ more)).text; is = refl } }

-- memory is wanting
pub off_memory : {S : Type 0} (acts : Step S) (state : S) (number : ℕ) (bytes : List ℕ) (o : Output) (text : List ℕ) (later : ℕ) → o.failed ≡ false
    → WentOff acts state number bytes o o text text later (Run Memory)
off_memory acts state number bytes o text later fine = grind (arith, begins_none, Appends-nil)

-- whatever follows
off_more : {S : Type 0} (acts : Step S) (state : S) (number : ℕ) (bytes more : List ℕ) (from to : Output) (old new : List ℕ) (later : ℕ) (halt : Halt)
    → WentOff acts state number bytes from to old new later halt → WentOff acts state number (bytes ++ more) from to old new later halt
off_more acts state number bytes more from to old new later (Line fault) off = record {
  said = off.said;
  ends = record {
    is = λ counts takes rest. ap (λ (x : List ℕ). by_lines acts counts state number x) (append_assoc bytes more rest) ∙ off.ends.is counts takes (more ++ rest);
  };
  added = off.added;
}
off_more acts state number bytes more from to old new later (Run why) off = record {
  said = off.said;
  begins = record {
    is = λ counts takes rest.
        let front = off.begins.is counts takes (more ++ rest) in
        record { rest = front.rest; is = ap (λ (x : List ℕ). (by_lines acts counts state number x).text) (append_assoc bytes more rest) ∙ front.is };
  };
  wrote = off.wrote;
  fault = off.fault;
}

-- a piece at its first line
pub mid_start : {M S : Type 0} (acts : Step S) (stands : M → S → Type 0) (now : M) (number : ℕ) (pending piece : List ℕ) (o : Output) (text : List ℕ) → IsPending pending
    → o.failed ≡ false → Midpiece acts stands now now number number pending pending piece piece o o text text
mid_start acts stands now number pending piece o text line fine = grind (arith, append-nil, went_none)

-- bytes of the last line were not kept
not_kept : {S : Type 0} (acts : Step S) (state : S) (number : ℕ) (line : List ℕ) (o : Output) (text : List ℕ) (halt : Halt) → o.failed ≡ false → IsOneLine line → NotKept line halt
    → WentOff acts state number line o o text text number halt
not_kept acts state number line o text (Line fault) fine one told = subst (λ (x : List ℕ). WentOff acts state number x o o text text number (Line fault)) (append-nil line)
    (off_long acts state number line [] o text fault fine one told)
not_kept acts state number line o text (Run why) fine one told = subst (λ w. WentOff acts state number line o o text text number (Run w)) (sym told)
    (off_memory acts state number line o text number fine)

-- a piece between two of its lines
module _ {M S : Type 0} {acts : Step S} {stands : M → S → Type 0} {start now : M} {number later : ℕ} {pending left piece rest : List ℕ} {from o : Output} {old mid : List ℕ}
    (m : Midpiece acts stands start now number later pending left piece rest from o old mid) where
  module _ (front behind : List ℕ) (split : rest ≡ front ++ line_feed ∷ behind) where
    -- behind a line
    pub mid_line : {new : M} {to : Output} {text : List ℕ} {third : ℕ}
        → ((state : S) → stands now state → Went acts (stands new) state later ((left ++ front) ++ line_feed ∷ []) o to mid text third [])
        → third ≤ later + 1 → to.failed ≡ false → Midpiece acts stands start new number third pending [] piece behind from to old text
    mid_line {new = new} {to = to} {text = text} {third = third} went more fine =
        let whole : (m.taken ++ front) ++ line_feed ∷ behind ≡ piece = append_assoc m.taken front (line_feed ∷ behind) ∙ ap (λ (x : List ℕ). m.taken ++ x) (sym split) ∙ sym m.split in
        record {
          taken = (m.taken ++ front) ++ line_feed ∷ [];
          split = sym whole ∙ sym (append_assoc (m.taken ++ front) (line_feed ∷ []) behind);
          went = λ state is. subst (λ (x : List ℕ). Went acts (stands new) state number x from to old text third [])
              (append_assoc pending m.taken (front ++ line_feed ∷ []) ∙ ap (λ (x : List ℕ). pending ++ x) (sym (append_assoc m.taken front (line_feed ∷ []))))
              (went_went (m.went state is) (front ++ line_feed ∷ [])
              (λ middle at. subst (λ (x : List ℕ). Went acts (stands new) middle later x o to mid text third []) (append_assoc left front (line_feed ∷ [])) (went middle at)));
          line = none_pending;
          bound = omega (arith, m.bound, more, ap length split, length-append front (line_feed ∷ behind));
          fine = fine;
        }

    -- at a line that did not act to its end
    pub mid_off : (to : Output) (text : List ℕ) (third : ℕ) (halt : Halt)
        → ((state : S) → stands now state → WentOff acts state later ((left ++ front) ++ line_feed ∷ []) o to mid text third halt)
        → (state : S) → stands start state → WentOff acts state number (pending ++ piece) from to old text third halt
    mid_off to text third halt off state is =
        let here = went_off (m.went state is) (front ++ line_feed ∷ []) to text third halt
        (λ middle at. subst (λ (x : List ℕ). WentOff acts middle later x o to mid text third halt) (append_assoc left front (line_feed ∷ [])) (off middle at)) in
        subst (λ (x : List ℕ). WentOff acts state number x from to old text third halt)
        (append_assoc (pending ++ m.taken) (front ++ line_feed ∷ []) behind ∙ append_assoc pending m.taken ((front ++ line_feed ∷ []) ++ behind)
        ∙ ap (λ (x : List ℕ). pending ++ (m.taken ++ x)) (append_assoc front (line_feed ∷ []) behind ∙ sym split) ∙ ap (λ (x : List ℕ). pending ++ x) (sym m.split))
        (off_more acts state number ((pending ++ m.taken) ++ (front ++ line_feed ∷ [])) behind from to old text third halt here)

  whole : pending ++ piece ≡ (pending ++ m.taken) ++ rest
  whole = ap (λ (x : List ℕ). pending ++ x) m.split ∙ sym (append_assoc pending m.taken rest)

  -- at its end
  pub mid_end : {new : M} {third : ℕ} (kept : List ℕ) (r : Result (Unit {0}) Halt) → new ≡ now → third ≡ later → OnOk r (kept ≡ left ++ rest) → OnOk r (IsPending kept)
      → OnOk r ((state : S) → stands start state → Went acts (stands new) state number (pending ++ piece) from o old mid third kept)
  mid_end kept (Err e) same number_is is line = tt
  mid_end kept (Ok u) same number_is is line = λ state at. rw (same, number_is, is, whole)
      (went_went (m.went state at) rest (λ middle now. went_none acts _ middle later (left ++ rest) o mid m.fine (subst IsPending is line) now))

  -- or where bytes of its last line were not kept
  pub mid_kept : {third : ℕ} (r : Result (Unit {0}) Halt) → IsOneLine (left ++ rest) → third ≡ later → IfErr r (NotKept (left ++ rest))
      → IfErr r (λ halt. (state : S) → stands start state → WentOff acts state number (pending ++ piece) from o old mid third halt)
  mid_kept (Ok u) one number_is told = tt
  mid_kept (Err halt) one number_is told = λ state at. rw (number_is, whole)
      (went_off (m.went state at) rest o mid later halt (λ middle now. not_kept acts middle later (left ++ rest) o mid halt m.fine one told))

pub on_ok_always : {T E P : Type 0} (r : Result T E) → P → OnOk r P
on_ok_always (Ok x) p = p
on_ok_always (Err e) p = tt
