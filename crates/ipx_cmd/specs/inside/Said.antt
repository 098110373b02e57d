-- What an act of the router leaves of its text.
use Rattle.std.specs.Prelude.{ℕ, List, ◌++◌, false, Result, Ok, Err}
use Rattle.ipx_wire.specs.Ends.{Output}
use Rattle.ipx_cmd.specs.inside.Acted.{Added}
use Rattle.ipx_cmd.specs.WroteFront.{IsFaultOf, WroteFront}
use Rattle.ipx_cmd.specs.declared.ended.RunFault.{RunFault}

-- the text was added to what waits; or the run is given up, and a prefix of both was written
abbrev pub Says : Output → Output → List ℕ → List ℕ → List ℕ → Result (Unit {0}) RunFault → Type 0
Says from to old new said (Ok done) = Added from to old new said
Says from to old new said (Err why) = WroteFront from to (old ++ said) × IsFaultOf false to.failed why
