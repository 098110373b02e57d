-- Which calls a capture makes to its source.
use Rattle.std.specs.Prelude.{◌≡◌, ℕ, ◌<◌, false, List, [], ◌∷◌, ◌++◌, length, take, Result, Ok, Err}
use Rattle.ipx_wire.specs.declared.failed.Failed.{Failed}
use Rattle.ipx_capture.specs.Records.{is_ready}
use Rattle.ipx_capture.specs.declared.order.Order.{Order}

-- one call to a source: what its buffer has afterwards, what it answers, and the state that the source is in then
pub record Ask : Type 0 where
  pub buffer : List ℕ
  pub answer : Result ℕ Failed
  pub state : ℕ

-- the bytes that a call gives
abbrev pub came : List ℕ → Result ℕ Failed → List ℕ
came buffer (Ok count) = take count buffer
came buffer (Err fault) = []

-- the bytes that calls give
abbrev pub all_came : List Ask → List ℕ
all_came [] = []
all_came (a ∷ later) = came a.buffer a.answer ++ all_came later

-- these calls, and no others, lead a source from one state to another. Each is made while the bytes that are there lack something, has
-- room for at least one byte, and is the last where it gives none
abbrev pub Asks : (ℕ → List ℕ → Result ℕ Failed → ℕ → Type 0) → (List ℕ → Type 0) → List Ask → List ℕ → ℕ → ℕ → Type 0
Asks asked Lack [] bytes before after = after ≡ before
Asks asked Lack (a ∷ later) bytes before after =
    Lack bytes × (0 < length a.buffer) × asked before a.buffer a.answer a.state × (came a.buffer a.answer ≡ [] → later ≡ [])
    × Asks asked Lack later (bytes ++ came a.buffer a.answer) a.state after

-- the last of these calls found the source at its end: it answered that no byte came
pub record MeetsEnd (asks : List Ask) : Type 0 where
  pub front : List Ask
  pub last : Ask
  pub are : asks ≡ front ++ last ∷ []
  pub none : last.answer ≡ Ok 0

-- some such calls, or none, gave these bytes
pub record Fetched (asked : ℕ → List ℕ → Result ℕ Failed → ℕ → Type 0) (Lack : List ℕ → Type 0) (old more : List ℕ) (before after : ℕ) : Type 0 where
  pub asks : List Ask
  pub calls : Asks asked Lack asks old before after
  pub gave : more ≡ all_came asks

-- there are fewer bytes than are needed
abbrev pub Lacks : ℕ → List ℕ → Type 0
Lacks need bytes = length bytes < need

-- the bytes don't tell yet what stands at their front
abbrev pub TellsNothing : Order → List ℕ → Type 0
TellsNothing order bytes = is_ready order bytes ≡ false
