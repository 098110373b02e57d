-- One stretch of a script's bytes behind another, and what is written on the way.
use Rattle.std.proofs.Common.{◌≡◌, ℕ, suc, ◌+◌, false, List, [], ◌∷◌, ◌++◌, length, take, refl, sym, ap, ◌∙◌, subst, arith, Result, Ok, Err, append_assoc, append-nil, rules}
use Rattle.std.proofs.KnownBytes.{Appends-nil, Appends-trans}
use Rattle.std.specs.Io.KnownBytes.{Appends}
use Rattle.ipx_wire.specs.Ends.{Output}
use Rattle.ipx_cmd.specs.inside.Acted.{Acted, Added, Halted, said_by}
use Rattle.ipx_cmd.specs.inside.Leads.{Begins, Ends, IsPending}
use Rattle.ipx_cmd.specs.Lines.{line_feed, without_return}
use Rattle.ipx_cmd.specs.Output.{fault_text}
use Rattle.ipx_cmd.specs.Playing.{Step}
use Rattle.ipx_cmd.specs.inside.Stretch.{Went, WentOff}
use Rattle.ipx_cmd.specs.WroteFront.{WroteFront}
use Rattle.ipx_cmd.specs.declared.lines.fault.LineFault.{LineFault}
use Rattle.ipx_cmd.specs.declared.lines.halt.Halt.{Halt}
use Rattle.ipx_cmd.specs.declared.lines.halt.Halt.TheVariants.{Line, Run}
use Rattle.ipx_cmd.proofs.cuts.LedToByBytes.{begins_line, ends_line, leads_begins, leads_ends, leads_leads, leads_line, leads_none}

-- a text behind one that is written
take_behind : (a : List ℕ) (n : ℕ) (b : List ℕ) → take (length a + n) (a ++ b) ≡ a ++ take n b
take_behind [] n b = ap (λ k. take k b) (let e : 0 + n ≡ n = omega arith in e)
take_behind (x ∷ a) n b = ap (λ k. take k (x ∷ a ++ b)) (let e : suc (length a) + n ≡ suc (length a + n) = omega arith in e) ∙ ap (λ t. x ∷ t) (take_behind a n b)

pub added_none : (o : Output) (text : List ℕ) → o.failed ≡ false → Added o o text text []
added_none o text fine = record { gone = []; written = Appends-nil o.written; all = append-nil text; fine = fine }

pub added_added : (from o to : Output) (old mid new said further : List ℕ) → Added from o old mid said → Added o to mid new further → Added from to old new (said ++ further)
added_added from o to old mid new said further one two = grind (arith, Appends-trans, append_assoc)

pub added_front : (from o to : Output) (old mid said further : List ℕ) → Added from o old mid said → WroteFront o to (mid ++ further) → WroteFront from to (old ++ (said ++ further))
added_front from o to old mid said further one w = record {
  count = length one.gone + w.count;
  written = subst (Appends from.written to.written)
      (sym (take_behind one.gone w.count (mid ++ further))
      ∙ ap (take (length one.gone + w.count)) (sym (append_assoc one.gone mid further) ∙ ap (λ t. t ++ further) (sym one.all) ∙ append_assoc old said further))
      (Appends-trans from.written o.written to.written one.gone (take w.count (mid ++ further)) one.written w.written);
}

-- a line acted
pub went_line : {S : Type 0} {acts : Step S} {stands : S → Type 0} {state : S} (number : ℕ) {line : List ℕ} {from to : Output} {old new : List ℕ} → IsPending line
    → Acted acts stands state (without_return line) from to old new → Went acts stands state number (line ++ line_feed ∷ []) from to old new (number + 1) []
went_line {acts = acts} {state = state} number {line = line} p a = search (rules, leads_line)

-- or did not
begins_by : {S : Type 0} (acts : Step S) (state : S) (number : ℕ) (line : List ℕ) → IsPending line → (does : Result (S × List ℕ) LineFault)
    → acts state (without_return line) ≡ does → Begins acts state number (line ++ line_feed ∷ []) (said_by does)
begins_by acts state number line p (Ok done) is = begins_line acts state done.0 number line done.1 p is
begins_by acts state number line p (Err fault) is = record { is = λ counts takes more. record { rest = _; is = refl } }

pub off_line : {S : Type 0} (acts : Step S) (state : S) (number : ℕ) (line : List ℕ) (from to : Output) (old new : List ℕ) (halt : Halt) → from.failed ≡ false → IsPending line
    → Halted (acts state (without_return line)) from to old new halt → WentOff acts state number (line ++ line_feed ∷ []) from to old new number halt
off_line acts state number line from to old new halt fine p h = grind (arith, ends_line, added_none, begins_by)

-- a stretch behind another
module _ {S : Type 0} {acts : Step S} {stood : S → Type 0} {state : S} {number second : ℕ} {bytes pending : List ℕ} {from o : Output} {old mid : List ℕ}
    (one : Went acts stood state number bytes from o old mid second pending) (more : List ℕ) where
  pub went_went : {stands : S → Type 0} {to : Output} {new left : List ℕ} {third : ℕ}
      → ((middle : S) → stood middle → Went acts stands middle second (pending ++ more) o to mid new third left) → Went acts stands state number (bytes ++ more) from to old new third left
  went_went {to = to} {new = new} later =
      let two = later one.after one.now in
      record {
        after = two.after;
        said = one.said ++ two.said;
        leads = leads_leads one.leads more two.leads;
        now = two.now;
        added = added_added from o to old mid new one.said two.said one.added two.added;
      }

  pub went_off : (to : Output) (new : List ℕ) (third : ℕ) (halt : Halt) → ((middle : S) → stood middle → WentOff acts middle second (pending ++ more) o to mid new third halt)
      → WentOff acts state number (bytes ++ more) from to old new third halt
  went_off to new third (Line fault) later =
      let two = later one.after one.now in
      record {
        said = one.said ++ two.said;
        ends = subst (Ends acts state number (bytes ++ more)) (sym (append_assoc one.said two.said (fault_text third fault))) (leads_ends one.leads more two.ends);
        added = added_added from o to old mid new one.said two.said one.added two.added;
      }
  went_off to new third (Run why) later =
      let two = later one.after one.now in
      record {
        said = one.said ++ two.said;
        begins = leads_begins one.leads more two.begins;
        wrote = added_front from o to old mid one.said two.said one.added two.wrote;
        fault = two.fault;
      }

-- a line that isn't at its end yet
pub went_none : {S : Type 0} (acts : Step S) (stands : S → Type 0) (state : S) (number : ℕ) (pending : List ℕ) (o : Output) (text : List ℕ) → o.failed ≡ false → IsPending pending
    → stands state → Went acts stands state number pending o o text text number pending
went_none acts stands state number pending o text fine p now = grind (arith, leads_none, added_none)
