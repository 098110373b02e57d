-- The text of a script, line by line, whatever its lines act on.
use Rattle.std.specs.Prelude.{ℕ, ◌+◌, if◌then◌else◌, List, [], ◌∷◌, ◌++◌, Bool, true, false, Result, Ok, Err}
use Rattle.ipx_cmd.specs.Lines.{is_any, is_long, lines_by, without_return}
use Rattle.ipx_cmd.specs.Output.{fault_text}
use Rattle.ipx_cmd.specs.declared.ended.Ended.{Ended}
use Rattle.ipx_cmd.specs.declared.ended.Ended.TheVariants.{Done, BadInput}
use Rattle.ipx_cmd.specs.declared.lines.fault.LineFault.{LineFault}
use Rattle.ipx_cmd.specs.declared.lines.fault.LineFault.TheVariants.{Long}

-- what a line, without its end, does to what stands, and its text; or what is wrong with it
abbrev pub Step : Type 0 → Type 0
Step S = S → List ℕ → Result (S × List ℕ) LineFault

-- the text of a script, and how it ends
pub record Transcript : Type 0 where
  pub text : List ℕ
  pub ended : Ended

-- all lines were good
abbrev pub all_good : Transcript
all_good = record { text = []; ended = Done }

-- a line that is wrong is told, and ends the script
abbrev pub wrong : ℕ → LineFault → Transcript
wrong number fault = record { text = fault_text number fault; ended = BadInput }

-- text, and what stands behind it
abbrev pub behind : List ℕ → Transcript → Transcript
behind text further = record { text = text ++ further.text; ended = further.ended }

-- what a line does, its carriage return still at its end
abbrev pub line_does : {S : Type 0} → Step S → S → List ℕ → Result (S × List ℕ) LineFault
line_does acts state line = if is_long line then Err Long else acts state (without_return line)

-- the text of the line of this number, and of what follows it
abbrev pub goes_on : {S : Type 0} → ℕ → Result (S × List ℕ) LineFault → (S → Transcript) → Transcript
goes_on number (Ok done) further = behind done.1 (further done.0)
goes_on number (Err fault) further = wrong number fault

-- the text of lines, the first of this number
abbrev pub transcript : {S : Type 0} → Step S → S → ℕ → List (List ℕ) → Transcript
transcript acts state number [] = all_good
transcript acts state number (line ∷ more) = goes_on number (line_does acts state line) (λ after. transcript acts after (number + 1) more)

-- whether a script ends at a line that is wrong
abbrev pub is_bad : Ended → Bool
is_bad Done = false
is_bad BadInput = true

-- the text of bytes that are cut into lines, the first of this number
abbrev pub by_lines : {S : Type 0} → Step S → (List ℕ → Bool) → S → ℕ → List ℕ → Transcript
by_lines acts counts state number bytes = transcript acts state number (lines_by counts bytes)

-- a whole script's, whose last line may lack its line feed
abbrev pub of_script : {S : Type 0} → Step S → S → List ℕ → Transcript
of_script acts state bytes = by_lines acts is_any state 1 bytes

-- that of a script that may go on: of the lines that a line feed ends, and of one that is too long already
abbrev pub of_front : {S : Type 0} → Step S → S → List ℕ → Transcript
of_front acts state bytes = by_lines acts is_long state 1 bytes
