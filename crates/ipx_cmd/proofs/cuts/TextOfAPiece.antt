-- A piece of a script, and its end, with all their text written.
use Rattle.std.proofs.lemmas.Grind.{common_steps}
use Rattle.std.proofs.Common.{IfErr, IfOk, OnOk, ◌≡◌, ℕ, false, List, [], ◌++◌, sym, ap, ◌∙◌, subst, Result, Ok, Err, append_assoc, append-nil, arith}
use Rattle.std.proofs.KnownBytes.{Appends-trans}
use Rattle.ipx_wire.specs.Ends.{Output}
use Rattle.ipx_cmd.specs.inside.Acted.{Added, StaysFine}
use Rattle.ipx_cmd.specs.inside.Leads.{Begins, Ends, Leads}
use Rattle.ipx_cmd.specs.Output.{fault_text}
use Rattle.ipx_cmd.specs.Playing.{Step, Transcript}
use Rattle.ipx_cmd.specs.inside.Stretch.{Answered, Completed, Finished, FinishedOff, GaveUp, Passed, Unfinished, Went, WentOff}
use Rattle.ipx_cmd.specs.WroteFront.{WroteAll, WroteFront}
use Rattle.ipx_cmd.specs.declared.ended.Ended.{Ended}
use Rattle.ipx_cmd.specs.declared.ended.Ended.TheVariants.{Done}
use Rattle.ipx_cmd.specs.declared.ended.RunFault.{RunFault}
use Rattle.ipx_cmd.specs.declared.lines.halt.Halt.{Halt}
use Rattle.ipx_cmd.specs.declared.lines.halt.Halt.TheVariants.{Line, Run}
use Rattle.ipx_cmd.proofs.cuts.StretchBehindStretch.{added_front}

-- no text waits any more
added_all : (from o to : Output) (old mid said : List ℕ) → Added from o old mid said → WroteAll o to mid → Added from to old [] said
added_all from o to old mid said one w = grind (arith, Appends-trans, append-nil)

wrote_all : (from o to : Output) (old mid said further : List ℕ) → from.failed ≡ false → Added from o old mid said → WroteAll o to (mid ++ further) → WroteAll from to (old ++ (said ++ further))
wrote_all from o to old mid said further fine one w = grind (arith, append_assoc, Appends-trans)

wrote_whole : (from o to : Output) (old mid said : List ℕ) → from.failed ≡ false → Added from o old mid said → WroteAll o to mid → WroteAll from to (old ++ said)
wrote_whole from o to old mid said fine one w = grind (arith, Appends-trans)

wrote_front : (from o to : Output) (old mid said : List ℕ) → Added from o old mid said → WroteFront o to mid → WroteFront from to (old ++ said)
wrote_front from o to old mid said one w = subst (λ (t : List ℕ). WroteFront from to (old ++ t)) (append-nil said)
    (added_front from o to old mid said [] one (subst (WroteFront o to) (sym (append-nil mid)) w))

begins_leads : {S : Type 0} (acts : Step S) (state after : S) (number later : ℕ) (bytes said pending : List ℕ) → Leads acts state number bytes said after later pending
    → Begins acts state number bytes said
begins_leads acts state after number later bytes said pending leads = grind arith

begins_ends : {S : Type 0} (acts : Step S) (state : S) (number : ℕ) (bytes said : List ℕ) → Ends acts state number bytes said → Begins acts state number bytes said
begins_ends acts state number bytes said ends = grind (arith, append-nil)

-- the outlet is fine after lines that acted, and at one that is wrong
pub fine_of : {M S : Type 0} (acts : Step S) (stands : M → S → Type 0) (before : M) (number : ℕ) (bytes : List ℕ) (from to : Output) (old new : List ℕ) (later : ℕ)
    (r : Result (Unit {0}) Halt) → (state : S) × stands before state → OnOk r (to.failed ≡ false)
    → IfErr r (λ halt. (state : S) → stands before state → WentOff acts state number bytes from to old new later halt) → StaysFine r to
fine_of acts stands before number bytes from to old new later r known fine off = grind arith

pub last_fine_of : {M S : Type 0} (acts : Step S) (stands : M → S → Type 0) (before : M) (number : ℕ) (bytes : List ℕ) (from to : Output) (old new : List ℕ)
    (r : Result (Unit {0}) Halt) → (state : S) × stands before state → OnOk r (to.failed ≡ false)
    → IfErr r (λ halt. (state : S) → stands before state → FinishedOff acts state number bytes from to old new halt) → StaysFine r to
last_fine_of acts stands before number bytes from to old new r known fine off = grind arith

-- a piece
module _ {M S : Type 0} (acts : Step S) (stands : M → S → Type 0) (before after : M) (number : ℕ) (bytes : List ℕ) (from o to : Output) (old mid new : List ℕ) (later : ℕ) (pending : List ℕ) where
  -- its text was written
  passed_done : (state : S) (ended : Ended) → Went acts (stands after) state number bytes from o old mid later pending → (ended ≡ Done) × WroteAll o to mid × (new ≡ [])
      → Passed acts (stands after) state number bytes from to old new later pending ended
  passed_done state ended went w = grind (arith, added_all)

  pub passed_of : (r : Result (Unit {0}) Halt) (a : Result Ended RunFault) → from.failed ≡ false
      → OnOk r ((state : S) → stands before state → Went acts (stands after) state number bytes from o old mid later pending)
      → IfErr r (λ halt. (state : S) → stands before state → WentOff acts state number bytes from o old mid later halt)
      → Answered r later o to mid new a
      → IfOk a (λ ended. (state : S) → stands before state → Passed acts (stands after) state number bytes from to old new later pending ended)
  passed_of r (Err why) fine went off w = tt
  passed_of (Ok u) (Ok ended) fine went off w = λ state now. passed_done state ended (went state now) w
  passed_of (Err (Line fault)) (Ok ended) fine went off w = grind (arith, common_steps, wrote_all)
  passed_of (Err (Run why)) (Ok ended) fine went off w = grind arith

  pub gave_up_of : (r : Result (Unit {0}) Halt) (a : Result Ended RunFault)
      → OnOk r ((state : S) → stands before state → Went acts (stands after) state number bytes from o old mid later pending)
      → IfErr r (λ halt. (state : S) → stands before state → WentOff acts state number bytes from o old mid later halt)
      → Answered r later o to mid new a → IfErr a (λ why. (state : S) → stands before state → GaveUp acts state number bytes from to old why)
  gave_up_of r (Ok ended) went off w = tt
  gave_up_of (Ok u) (Err why) went off w = λ state now.
      let here = went state now in
      record {
        said = here.said;
        begins = begins_leads acts state here.after number later bytes here.said pending here.leads;
        wrote = wrote_front from o to old mid here.said here.added w.0;
        fault = w.1;
      }
  gave_up_of (Err (Line fault)) (Err why) went off w = λ state now.
      let here = off state now in
      record {
        said = here.said ++ fault_text later fault;
        begins = begins_ends acts state number bytes (here.said ++ fault_text later fault) here.ends;
        wrote = added_front from o to old mid here.said (fault_text later fault) here.added w.0;
        fault = w.1;
      }
  gave_up_of (Err (Run met)) (Err why) went off w = λ state now.
      let same : why ≡ met = cc in
      subst (GaveUp acts state number bytes from to old) (sym same) (subst (λ (x : Output). GaveUp acts state number bytes from x old met) (sym w.1) (off state now))

-- the end of a script
module _ {M S : Type 0} (acts : Step S) (stands : M → S → Type 0) (before : M) (number : ℕ) (line : List ℕ) (from o to : Output) (old mid new : List ℕ) where
  -- its text was written
  pub completed_of : (r : Result (Unit {0}) Halt) (a : Result Ended RunFault) → from.failed ≡ false
      → OnOk r ((state : S) → stands before state → Finished acts state number line from o old mid)
      → IfErr r (λ halt. (state : S) → stands before state → FinishedOff acts state number line from o old mid halt)
      → Answered r number o to mid new a → IfOk a (λ ended. (state : S) → stands before state → Completed acts state number line from to old ended)
  completed_of r (Err why) fine finished off w = tt
  completed_of (Ok u) (Ok ended) fine finished off w = λ state now.
      let here = finished state now in
      subst (Completed acts state number line from to old) (sym w.0) (record { said = here.said; is = here.is; wrote = wrote_whole from o to old mid here.said fine here.added w.1 })
  completed_of (Err (Line fault)) (Ok ended) fine finished off w = λ state now.
      let here = off state now in
      subst (Completed acts state number line from to old) (sym w.0) (record {
        said = here.said ++ fault_text number fault;
        is = here.is;
        wrote = wrote_all from o to old mid here.said (fault_text number fault) fine here.added w.1;
      })
  completed_of (Err (Run why)) (Ok ended) fine finished off w =
      let e = w.0 in absurd cc

  pub unfinished_of : (r : Result (Unit {0}) Halt) (a : Result Ended RunFault)
      → OnOk r ((state : S) → stands before state → Finished acts state number line from o old mid)
      → IfErr r (λ halt. (state : S) → stands before state → FinishedOff acts state number line from o old mid halt)
      → Answered r number o to mid new a → IfErr a (λ why. (state : S) → stands before state → Unfinished acts state number line from to old why)
  unfinished_of r (Ok ended) finished off w = tt
  unfinished_of (Ok u) (Err why) finished off w = λ state now.
      let here = finished state now in
      record {
        said = here.said;
        front = record { rest = []; is = ap (λ (t : Transcript). t.text) here.is ∙ sym (append-nil here.said) };
        wrote = wrote_front from o to old mid here.said here.added w.0;
        fault = w.1;
      }
  unfinished_of (Err (Line fault)) (Err why) finished off w = λ state now.
      let here = off state now in
      let said : List ℕ = here.said ++ fault_text number fault in
      record {
        said = said;
        front = record { rest = []; is = ap (λ (t : Transcript). t.text) here.is ∙ sym (append-nil said) };
        wrote = added_front from o to old mid here.said (fault_text number fault) here.added w.0;
        fault = w.1;
      }
  unfinished_of (Err (Run met)) (Err why) finished off w = λ state now.
      let same : why ≡ met = cc in
      subst (Unfinished acts state number line from to old) (sym same) (subst (λ (x : Output). Unfinished acts state number line from x old met) (sym w.1) (off state now))
