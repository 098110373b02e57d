-- What a stretch of a script's bytes leaves.
use Rattle.std.specs.Prelude.{Result, Ok, Err, MatchResult, ◌≡◌, ℕ, List, [], ◌++◌, true, false}
use Rattle.ipx_wire.specs.Ends.{Output}
use Rattle.ipx_cmd.specs.inside.Acted.{Added}
use Rattle.ipx_cmd.specs.Decoded.{IsFront}
use Rattle.ipx_cmd.specs.inside.Leads.{Begins, Ends, Leads}
use Rattle.ipx_cmd.specs.Output.{fault_text}
use Rattle.ipx_cmd.specs.Playing.{Step, by_lines}
use Rattle.ipx_cmd.specs.WroteFront.{IsFaultOf, WroteAll, WroteFront}
use Rattle.ipx_cmd.specs.declared.ended.Ended.{Ended}
use Rattle.ipx_cmd.specs.declared.ended.Ended.TheVariants.{Done, BadInput}
use Rattle.ipx_cmd.specs.declared.ended.RunFault.{RunFault}
use Rattle.ipx_cmd.specs.declared.lines.fault.LineFault.TheVariants.{Long}
use Rattle.ipx_cmd.specs.Lines.{is_any, is_long}
use Rattle.ipx_cmd.specs.declared.ended.RunFault.TheVariants.{Memory}
use Rattle.ipx_cmd.specs.declared.lines.halt.Halt.{Halt}
use Rattle.ipx_cmd.specs.declared.lines.halt.Halt.TheVariants.{Line, Run}

-- its lines acted, and their text was added
pub record Went {S : Type 0} (acts : Step S) (stands : S → Type 0) (state : S) (number : ℕ) (bytes : List ℕ) (from to : Output) (old new : List ℕ) (later : ℕ)
    (pending : List ℕ) : Type 0 where
  pub after : S
  pub said : List ℕ
  pub leads : Leads acts state number bytes said after later pending
  pub now : stands after
  pub added : Added from to old new said

-- one of its lines is wrong: the text of those before it was added
pub record WentWrong {S : Type 0} (acts : Step S) (state : S) (number : ℕ) (bytes : List ℕ) (from to : Output) (old new line : List ℕ) : Type 0 where
  pub said : List ℕ
  pub ends : Ends acts state number bytes (said ++ line)
  pub added : Added from to old new said

-- the run is given up: a prefix of the text was written
pub record GaveUp {S : Type 0} (acts : Step S) (state : S) (number : ℕ) (bytes : List ℕ) (from to : Output) (old : List ℕ) (why : RunFault) : Type 0 where
  pub said : List ℕ
  pub begins : Begins acts state number bytes said
  pub wrote : WroteFront from to (old ++ said)
  pub fault : IsFaultOf false to.failed why

-- why its lines did not act to the end
abbrev pub WentOff : {S : Type 0} → Step S → S → ℕ → List ℕ → Output → Output → List ℕ → List ℕ → ℕ → Halt → Type 0
WentOff acts state number bytes from to old new later (Line fault) = WentWrong acts state number bytes from to old new (fault_text later fault)
WentOff acts state number bytes from to old new later (Run why) = GaveUp acts state number bytes from to old why

-- the text ended at a line that is wrong, and all was written
pub record EndedAll {S : Type 0} (acts : Step S) (state : S) (number : ℕ) (bytes : List ℕ) (from to : Output) (old : List ℕ) : Type 0 where
  pub said : List ℕ
  pub ends : Ends acts state number bytes said
  pub wrote : WroteAll from to (old ++ said)

-- a stretch was played, and its text written whole
abbrev pub Passed : {S : Type 0} → Step S → (S → Type 0) → S → ℕ → List ℕ → Output → Output → List ℕ → List ℕ → ℕ → List ℕ → Ended → Type 0
Passed acts stands state number bytes from to old new later pending Done = Went acts stands state number bytes from to old new later pending × (new ≡ [])
Passed acts stands state number bytes from to old new later pending BadInput = EndedAll acts state number bytes from to old

-- bytes were not kept: the line is too long with them, or memory is wanting
abbrev pub NotKept : List ℕ → Halt → Type 0
NotKept line (Line fault) = (fault ≡ Long) × (is_long line ≡ true)
NotKept line (Run why) = why ≡ Memory

-- the last line, which no line feed ends, acted, and its text was added
pub record Finished {S : Type 0} (acts : Step S) (state : S) (number : ℕ) (line : List ℕ) (from to : Output) (old new : List ℕ) : Type 0 where
  pub said : List ℕ
  pub is : by_lines acts is_any state number line ≡ record { text = said; ended = Done }
  pub added : Added from to old new said

-- it is wrong
pub record FinishedWrong {S : Type 0} (acts : Step S) (state : S) (number : ℕ) (line : List ℕ) (from to : Output) (old new told : List ℕ) : Type 0 where
  pub said : List ℕ
  pub is : by_lines acts is_any state number line ≡ record { text = said ++ told; ended = BadInput }
  pub added : Added from to old new said

-- the run is given up in it
pub record Unfinished {S : Type 0} (acts : Step S) (state : S) (number : ℕ) (line : List ℕ) (from to : Output) (old : List ℕ) (why : RunFault) : Type 0 where
  pub said : List ℕ
  pub front : IsFront said (by_lines acts is_any state number line).text
  pub wrote : WroteFront from to (old ++ said)
  pub fault : IsFaultOf false to.failed why

-- why it did not act to its end
abbrev pub FinishedOff : {S : Type 0} → Step S → S → ℕ → List ℕ → Output → Output → List ℕ → List ℕ → Halt → Type 0
FinishedOff acts state number line from to old new (Line fault) = FinishedWrong acts state number line from to old new (fault_text number fault)
FinishedOff acts state number line from to old new (Run why) = Unfinished acts state number line from to old why

-- all that was left of a script was played, and its text written whole
pub record Completed {S : Type 0} (acts : Step S) (state : S) (number : ℕ) (line : List ℕ) (from to : Output) (old : List ℕ) (ended : Ended) : Type 0 where
  pub said : List ℕ
  pub is : by_lines acts is_any state number line ≡ record { text = said; ended = ended }
  pub wrote : WroteAll from to (old ++ said)

-- a text was written whole and emptied, or a prefix of it was written
abbrev pub Flushed : Ended → Output → Output → List ℕ → List ℕ → Result Ended RunFault → Type 0
Flushed meant from to text left answer = MatchResult answer
    (λ ended. (ended ≡ meant) × WroteAll from to text × (left ≡ []))
    (λ why. WroteFront from to text × IsFaultOf false to.failed why)

-- what is written after lines acted, or the first of them that did not: the text, and the line that tells what is wrong
abbrev pub Answered : Result (Unit {0}) Halt → ℕ → Output → Output → List ℕ → List ℕ → Result Ended RunFault → Type 0
Answered (Ok done) number from to text left answer = Flushed Done from to text left answer
Answered (Err (Line fault)) number from to text left answer = Flushed BadInput from to (text ++ fault_text number fault) left answer
Answered (Err (Run why)) number from to text left answer = (answer ≡ Err why) × (to ≡ from)
