-- The last line of a script, which no line feed ends.
use Rattle.std.proofs.Common.{◌≡◌, ℕ, ◌<◌, true, false, List, [], length, refl, ap, arith, Result, Ok, Err, append-nil}
use Rattle.ipx_wire.specs.Ends.{Output}
use Rattle.ipx_cmd.specs.inside.Acted.{Acted, Halted, said_by}
use Rattle.ipx_cmd.specs.Decoded.{IsFront}
use Rattle.ipx_cmd.specs.inside.Leads.{IsPending}
use Rattle.ipx_cmd.specs.Lines.{is_any, without_return}
use Rattle.ipx_cmd.specs.Playing.{Step, Transcript, all_good, by_lines, goes_on}
use Rattle.ipx_cmd.specs.inside.Stretch.{Finished, FinishedOff}
use Rattle.ipx_cmd.specs.declared.lines.fault.LineFault.{LineFault}
use Rattle.ipx_cmd.specs.declared.lines.halt.Halt.{Halt}
use Rattle.ipx_cmd.specs.declared.lines.halt.Halt.TheVariants.{Line, Run}
use Rattle.ipx_cmd.proofs.cuts.LinesOfBytes.{at_last}
use Rattle.ipx_cmd.proofs.cuts.LedToByBytes.{line_is}
use Rattle.ipx_cmd.proofs.cuts.StretchBehindStretch.{added_none}

-- nothing is left
pub finished_none : {S : Type 0} (acts : Step S) (state : S) (number : ℕ) (line : List ℕ) (o : Output) (text : List ℕ) → line ≡ [] → o.failed ≡ false
    → Finished acts state number line o o text text
finished_none acts state number line o text none fine = grind (arith, at_last, added_none)

any_of : (line : List ℕ) → 0 < length line → is_any line ≡ true
any_of line some = grind arith

-- what a line does is all that is left to say
last_is : {S : Type 0} (acts : Step S) (state : S) (number : ℕ) (line : List ℕ) (does : Result (S × List ℕ) LineFault) → IsPending line → 0 < length line
    → acts state (without_return line) ≡ does → by_lines acts is_any state number line ≡ goes_on number does (λ after. all_good)
last_is acts state number line does p some is = grind (arith, at_last, any_of, line_is)

pub finished_line : {S : Type 0} {acts : Step S} {stands : S → Type 0} {state : S} (number : ℕ) {line : List ℕ} {from to : Output} {old new : List ℕ} → IsPending line → 0 < length line
    → Acted acts stands state (without_return line) from to old new → Finished acts state number line from to old new
finished_line {acts = acts} {state = state} number {line = line} p some a = grind (arith, last_is, append-nil)

front_by : {S : Type 0} (acts : Step S) (state : S) (number : ℕ) (line : List ℕ) → IsPending line → 0 < length line → (does : Result (S × List ℕ) LineFault)
    → acts state (without_return line) ≡ does → IsFront (said_by does) (by_lines acts is_any state number line).text
front_by acts state number line p some (Ok done) is = record { rest = []; is = ap (λ (t : Transcript). t.text) (last_is acts state number line (Ok done) p some is) }
front_by acts state number line p some (Err fault) is = record { rest = (by_lines acts is_any state number line).text; is = refl }

pub off_last : {S : Type 0} (acts : Step S) (state : S) (number : ℕ) (line : List ℕ) (from to : Output) (old new : List ℕ) (halt : Halt) → from.failed ≡ false → IsPending line → 0 < length line
    → Halted (acts state (without_return line)) from to old new halt → FinishedOff acts state number line from to old new halt
off_last acts state number line from to old new (Line fault) fine p some h = grind (arith, last_is, added_none)
off_last acts state number line from to old new (Run why) fine p some h = grind (arith, front_by)
