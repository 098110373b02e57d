-- What a run of `decode` leaves.
use Rattle.std.specs.Prelude.{◌≡◌, ◌⊎◌, ℕ, true, List, ◌++◌}
use Rattle.std.specs.Io.KnownBytes.{Appends, Consumes, IsAtEnd}
use Rattle.ipx_wire.specs.Ends.{Input, Output}
use Rattle.ipx_cmd.specs.Shown.{shown, shown_end, sofar, judged}
use Rattle.ipx_cmd.specs.declared.ended.Ended.{Ended}

-- a prefix of other bytes
pub record IsFront (text whole : List ℕ) : Type 0 where
  pub rest : List ℕ
  pub is : whole ≡ text ++ rest

-- all was shown: bytes were read to their end, or to a fault that no further bytes take back, and text and answer are theirs
pub record Decoded (old new : Input) (from to : Output) (ended : Ended) : Type 0 where
  pub bytes : List ℕ
  pub read : Consumes old.left new.left bytes
  pub wrote : Appends from.written to.written (shown bytes)
  pub answer : ended ≡ shown_end bytes
  pub enough : IsAtEnd new.left ⊎ (judged bytes ≡ true)

-- the run was given up: what was written is a prefix of the text of what was read
pub record CutOff (old new : Input) (from to : Output) : Type 0 where
  pub bytes : List ℕ
  pub text : List ℕ
  pub read : Consumes old.left new.left bytes
  pub wrote : Appends from.written to.written text
  pub front : IsFront text (sofar bytes) ⊎ (IsAtEnd new.left × IsFront text (shown bytes))
