-- What a run of a script leaves.
use Rattle.std.specs.Prelude.{◌≡◌, ◌⊎◌, ℕ, true, List}
use Rattle.std.specs.Io.KnownBytes.{Appends, Consumes, IsAtEnd}
use Rattle.ipx_wire.specs.Ends.{Input, Output}
use Rattle.ipx_cmd.specs.Decoded.{IsFront}
use Rattle.ipx_cmd.specs.Playing.{Step, is_bad, of_front, of_script}
use Rattle.ipx_cmd.specs.declared.ended.Ended.{Ended}

-- all was played: bytes were read to their end, or to a line that is wrong whatever follows, and text and answer are theirs
pub record Played {S : Type 0} (acts : Step S) (start : S) (old new : Input) (from to : Output) (ended : Ended) : Type 0 where
  pub script : List ℕ
  pub read : Consumes old.left new.left script
  pub wrote : Appends from.written to.written (of_script acts start script).text
  pub answer : ended ≡ (of_script acts start script).ended
  pub enough : IsAtEnd new.left ⊎ (is_bad (of_front acts start script).ended ≡ true)

-- the run was given up: what was written is a prefix of the text of what was read
pub record GivenUp {S : Type 0} (acts : Step S) (start : S) (old new : Input) (from to : Output) : Type 0 where
  pub script : List ℕ
  pub text : List ℕ
  pub read : Consumes old.left new.left script
  pub wrote : Appends from.written to.written text
  pub front : IsFront text (of_front acts start script).text ⊎ (IsAtEnd new.left × IsFront text (of_script acts start script).text)

-- all text so far of what was read was written
pub record PlayedSoFar {S : Type 0} (acts : Step S) (start : S) (old new : Input) (from to : Output) : Type 0 where
  pub script : List ℕ
  pub read : Consumes old.left new.left script
  pub wrote : Appends from.written to.written (of_front acts start script).text
