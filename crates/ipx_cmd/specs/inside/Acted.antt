-- What a line of a script leaves.
use Rattle.std.specs.Prelude.{⊤, ◌≡◌, ℕ, List, [], ◌++◌, Result, Ok, Err, false}
use Rattle.std.specs.Io.KnownBytes.{Appends}
use Rattle.ipx_wire.specs.Ends.{Output}
use Rattle.ipx_cmd.specs.Playing.{Step}
use Rattle.ipx_cmd.specs.WroteFront.{IsFaultOf, WroteFront}
use Rattle.ipx_cmd.specs.declared.lines.fault.LineFault.{LineFault}
use Rattle.ipx_cmd.specs.declared.lines.halt.Halt.{Halt}
use Rattle.ipx_cmd.specs.declared.lines.halt.Halt.TheVariants.{Line, Run}

-- a text was added to what waits to be written; a prefix of both was written, none or all of it, and the rest waits
pub record Added (from to : Output) (old new said : List ℕ) : Type 0 where
  pub gone : List ℕ
  pub written : Appends from.written to.written gone
  pub all : old ++ said ≡ gone ++ new
  pub fine : to.failed ≡ false

-- a line acted: what stands now is what it leads to, and its text was added
pub record Acted {S : Type 0} (acts : Step S) (stands : S → Type 0) (state : S) (line : List ℕ) (from to : Output) (old new : List ℕ) : Type 0 where
  pub after : S
  pub said : List ℕ
  pub does : acts state line ≡ Ok (after, said)
  pub now : stands after
  pub added : Added from to old new said

-- the text of a line, where nothing is wrong with it
abbrev pub said_by : {S : Type 0} → Result (S × List ℕ) LineFault → List ℕ
said_by (Ok done) = done.1
said_by (Err fault) = []

-- a line did not act to its end: it is wrong, and nothing was said; or the run is given up, and a prefix of the text was written
abbrev pub Halted : {S : Type 0} → Result (S × List ℕ) LineFault → Output → Output → List ℕ → List ℕ → Halt → Type 0
Halted meant from to old new (Line fault) = (meant ≡ Err fault) × (to ≡ from) × (new ≡ old)
Halted meant from to old new (Run why) = WroteFront from to (old ++ said_by meant) × IsFaultOf false to.failed why

-- the outlet has not failed, unless the run is given up
abbrev pub StaysFine : Result (Unit {0}) Halt → Output → Type 0
StaysFine (Ok done) to = to.failed ≡ false
StaysFine (Err (Line fault)) to = to.failed ≡ false
StaysFine (Err (Run why)) to = ⊤
