-- A run of a script between two pieces.
use Rattle.std.proofs.Common.{◌≡◌, ℕ, ◌+◌, ◌-◌, ◌*◌, ◌<◌, ◌≤◌, false, List, [], ◌++◌, length, take, sym, ap, ◌∙◌, subst, inl, inr, arith, append_assoc, append-nil, length-take, drop, take-append-drop}
use Rattle.std.proofs.KnownBytes.{Appends-trans, Consumes-nil, Consumes-trans, Consumes-kept}
use Rattle.std.specs.Io.KnownBytes.{Appends, Consumes}
use Rattle.ipx_wire.specs.Ends.{Gave, Input, LostInput, Output, calls_after}
use Rattle.ipx_cmd.specs.Decoded.{IsFront}
use Rattle.ipx_cmd.specs.inside.Leads.{IsPending}
use Rattle.ipx_cmd.specs.Lines.{is_any, is_long}
use Rattle.ipx_cmd.specs.Played.{GivenUp, Played, PlayedSoFar}
use Rattle.ipx_cmd.specs.Playing.{Step, Transcript, behind, by_lines, is_bad, of_front, of_script}
use Rattle.ipx_cmd.specs.inside.Stretch.{Completed, EndedAll, GaveUp, Unfinished, Went}
use Rattle.ipx_cmd.specs.WroteFront.{IsFaultOf, WroteFront}
use Rattle.ipx_cmd.specs.declared.ended.Ended.{Ended}
use Rattle.ipx_cmd.specs.declared.ended.Ended.TheVariants.{BadInput}
use Rattle.ipx_cmd.specs.declared.ended.RunFault.{RunFault}
use Rattle.ipx_cmd.proofs.cuts.BytesBehindAScript.{front_ends, front_leads, script_ends, takes_any, takes_long}
use Rattle.ipx_cmd.proofs.cuts.LedToByBytes.{leads_begins, leads_ends, none_pending}
use Rattle.ipx_cmd.proofs.cuts.StretchBehindStretch.{went_none, went_went}

pub record MidScript {M S : Type 0} (acts : Step S) (stands : M → S → Type 0) (start now : M) (number : ℕ) (pending : List ℕ) (before input : Input) (from to : Output) (text : List ℕ) : Type 0 where
  pub script : List ℕ
  pub read : Consumes before.left input.left script
  pub went : (state : S) → stands start state → Went acts (stands now) state 1 script from to [] text number pending
  pub known : (state : S) × stands start state
  pub line : IsPending pending
  pub none : text ≡ []
  pub fine_in : input.failed ≡ false
  pub fine_out : to.failed ≡ false
  pub few : number + 8192 * (16777216 - input.calls) ≤ 1 + 8192 * 16777216

pub script_start : {M S : Type 0} (acts : Step S) (stands : M → S → Type 0) (start now : M) (number : ℕ) (pending : List ℕ) (input : Input) (out : Output) (text : List ℕ)
    → (state : S) × stands start state → now ≡ start → number ≡ 1 → pending ≡ [] → text ≡ [] → input.failed ≡ false → out.failed ≡ false
    → MidScript acts stands start now number pending input input out out text
script_start acts stands start now number pending input out text known same one empty none fine_in fine_out = record {
  script = [];
  read = Consumes-nil input.left;
  went = λ state at.
      subst (λ m. Went acts (stands m) state 1 [] out out [] text number pending) (sym same)
      (subst (λ (n : ℕ). Went acts (stands start) state 1 [] out out [] text n pending) (sym one)
      (subst (λ (p : List ℕ). Went acts (stands start) state 1 [] out out [] text 1 p) (sym empty)
      (subst (λ (t : List ℕ). Went acts (stands start) state 1 [] out out [] t 1 []) (sym none)
      (went_none acts (stands start) state 1 [] out [] fine_out none_pending at))));
  known = known;
  line = subst IsPending (sym empty) none_pending;
  none = none;
  fine_in = fine_in;
  fine_out = fine_out;
  few = omega (arith, one);
}

-- fewer calls are left
pub fewer : (input after : Input) (buffer : List ℕ) (count : ℕ) → Gave input after buffer count → after.calls ≡ calls_after input.calls → 16777216 - after.calls < 16777216 - input.calls
fewer input after buffer count gave calls = omega (arith, gave.asked, calls)

-- some of a text was written behind what was said
front_written : (from o to : Output) (text said further : List ℕ) → text ≡ [] → Appends from.written o.written said → (f : WroteFront o to (text ++ further))
    → Appends from.written to.written (said ++ take f.count further)
front_written from o to text said further none wrote f = grind (arith, Appends-trans)

front_taken : (whole said further : List ℕ) (n : ℕ) → IsFront (said ++ further) whole → IsFront (said ++ take n further) whole
front_taken whole said further n front = record {
  rest = drop n further ++ front.rest;
  is = front.is ∙ ap (λ (t : List ℕ). (said ++ t) ++ front.rest) (sym (take-append-drop n further))
      ∙ ap (λ (t : List ℕ). t ++ front.rest) (sym (append_assoc said (take n further) (drop n further))) ∙ append_assoc (said ++ take n further) (drop n further) front.rest;
}

-- what was said so far: all of it was written
module _ {S : Type 0} {acts : Step S} {stands : S → Type 0} {state : S} {script : List ℕ} {from o : Output} {text : List ℕ} {number : ℕ} {pending : List ℕ}
    (w : Went acts stands state 1 script from o [] text number pending) where
  written_of : text ≡ [] → Appends from.written o.written w.said
  written_of none = subst (Appends from.written o.written) (sym (w.added.all ∙ ap (λ (t : List ℕ). w.added.gone ++ t) none ∙ append-nil w.added.gone)) w.added.written

  script_is : of_script acts state script ≡ behind w.said (by_lines acts is_any w.after number pending)
  script_is =
      ap (λ (x : List ℕ). by_lines acts is_any state 1 x) (sym (append-nil script)) ∙ w.leads.is is_any takes_any []
      ∙ ap (λ (x : List ℕ). behind w.said (by_lines acts is_any w.after number x)) (append-nil pending)

module _ {M S : Type 0} {acts : Step S} {stands : M → S → Type 0} {start now : M} {number : ℕ} {pending : List ℕ} {before input : Input} {from o : Output} {text : List ℕ}
    (m : MidScript acts stands start now number pending before input from o text) where
  -- what stands now is known
  pub known_now : (state : S) × stands now state
  known_now = let w = m.went m.known.0 m.known.1 in (w.after, w.now)

  -- the reader failed: the text so far was written
  module _ {after : Input} (lost : LostInput input after) (state : S) (at : stands start state) where
    pub so_far : PlayedSoFar acts state before after from o
    so_far =
        let w = m.went state at in
        record {
          script = m.script;
          read = Consumes-kept before.left input.left after.left m.script m.read lost.left;
          wrote = subst (Appends from.written o.written) (sym (ap (λ (t : Transcript). t.text) (front_leads acts state w.after number m.script w.said pending w.leads)))
              (written_of w m.none);
        }

    pub given_up_at_read : GivenUp acts state before after from o
    given_up_at_read = grind (arith, so_far, append-nil)

  -- the reader gave a piece, or is at its end
  module _ {after : Input} {buffer : List ℕ} {count : ℕ} (gave : Gave input after buffer count) where
    read_on : Consumes before.left after.left (m.script ++ take count buffer)
    read_on = Consumes-trans before.left input.left after.left m.script (take count buffer) m.read gave.bytes

    pub still_fine : after.failed ≡ false
    still_fine = gave.fine ∙ m.fine_in

    -- a piece more
    pub script_more : {new : M} {to : Output} {further : List ℕ} {later : ℕ} {left : List ℕ} → length buffer ≤ 8192 → after.calls ≡ calls_after input.calls
        → ((state : S) → stands now state → Went acts (stands new) state number (pending ++ take count buffer) o to text further later left)
        → IsPending left → further ≡ [] → to.failed ≡ false → later ≤ number + length (take count buffer)
        → MidScript acts stands start new later left before after from to further
    script_more {new = new} {to = to} {further = further} {later = later} {left = left} room calls went line none fine few = grind (arith, read_on, went_went, still_fine, length-take)

    -- a line of a piece is wrong
    pub played_bad : {to : Output} → ((state : S) → stands now state → EndedAll acts state number (pending ++ take count buffer) o to text)
        → (state : S) → stands start state → Played acts state before after from to BadInput
    played_bad {to = to} bad state at =
        let w = m.went state at in
        let b = bad w.after w.now in
        let script = m.script ++ take count buffer in
        let ends = leads_ends w.leads (take count buffer) b.ends in
        let whole = script_ends acts state script (w.said ++ b.said) ends in
        record {
          script = script;
          read = read_on;
          wrote = subst (Appends from.written to.written) (sym (ap (λ (t : Transcript). t.text) whole))
              (Appends-trans from.written o.written to.written w.said b.said (written_of w m.none)
              (subst (λ (t : List ℕ). Appends o.written to.written (t ++ b.said)) m.none b.wrote.written));
          answer = sym (ap (λ (t : Transcript). t.ended) whole);
          enough = inr (ap (λ (t : Transcript). is_bad t.ended) (front_ends acts state script (w.said ++ b.said) ends));
        }

    -- the run is given up in a piece
    module _ {to : Output} {why : RunFault} (gave_up : (state : S) → stands now state → GaveUp acts state number (pending ++ take count buffer) o to text why)
        (state : S) (at : stands start state) where
      pub given_up_in_piece : GivenUp acts state before after from to
      given_up_in_piece =
          let w = m.went state at in
          let g = gave_up w.after w.now in
          let script = m.script ++ take count buffer in
          let begins = leads_begins w.leads (take count buffer) g.begins in
          record {
            script = script;
            text = w.said ++ take g.wrote.count g.said;
            read = read_on;
            wrote = front_written from o to text w.said g.said m.none (written_of w m.none) g.wrote;
            front = inl (front_taken (of_front acts state script).text w.said g.said g.wrote.count
                (subst (λ (x : List ℕ). IsFront (w.said ++ g.said) (by_lines acts is_long state 1 x).text) (append-nil script) (begins.is is_long takes_long [])));
          }

      pub fault_in_piece : IsFaultOf after.failed to.failed why
      fault_in_piece = let w = m.went state at in subst (λ b. IsFaultOf b to.failed why) (sym still_fine) (gave_up w.after w.now).fault

    -- what is left when the reader is at its end
    module _ {to : Output} {why : RunFault} (unfinished : (state : S) → stands now state → Unfinished acts state number pending o to text why)
        (state : S) (at : stands start state) where
      pub fault_at_end : IsFaultOf after.failed to.failed why
      fault_at_end = let w = m.went state at in subst (λ b. IsFaultOf b to.failed why) (sym still_fine) (unfinished w.after w.now).fault

    module _ (zero : count ≡ 0) (room : 0 < length buffer) where
      end_read : Consumes before.left after.left m.script
      end_read = grind arith

      pub played_end : {to : Output} {ended : Ended} → ((state : S) → stands now state → Completed acts state number pending o to text ended)
          → (state : S) → stands start state → Played acts state before after from to ended
      played_end {to = to} completed state at =
          let w = m.went state at in
          let e = completed w.after w.now in
          let whole = script_is w ∙ ap (behind w.said) e.is in
          record {
            script = m.script;
            read = end_read;
            wrote = subst (Appends from.written to.written) (sym (ap (λ (t : Transcript). t.text) whole))
                (Appends-trans from.written o.written to.written w.said e.said (written_of w m.none)
                (subst (λ (t : List ℕ). Appends o.written to.written (t ++ e.said)) m.none e.wrote.written));
            answer = sym (ap (λ (t : Transcript). t.ended) whole);
            enough = inl (gave.ends zero room);
          }

      pub given_up_at_end : {to : Output} {why : RunFault} → ((state : S) → stands now state → Unfinished acts state number pending o to text why)
          → (state : S) → stands start state → GivenUp acts state before after from to
      given_up_at_end {to = to} unfinished state at =
          let w = m.went state at in
          let u = unfinished w.after w.now in
          record {
            script = m.script;
            text = w.said ++ take u.wrote.count u.said;
            read = end_read;
            wrote = front_written from o to text w.said u.said m.none (written_of w m.none) u.wrote;
            front = inr (
              gave.ends zero room,
              front_taken (of_script acts state m.script).text w.said u.said u.wrote.count (record {
                rest = u.front.rest;
                is = ap (λ (t : Transcript). t.text) (script_is w) ∙ ap (λ (t : List ℕ). w.said ++ t) u.front.is ∙ sym (append_assoc w.said u.said u.front.rest);
              }),
            );
          }
