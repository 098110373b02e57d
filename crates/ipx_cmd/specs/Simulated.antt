-- The text of a script for an internet.
use Rattle.std.specs.Prelude.{ℕ, Bool, List}
use Rattle.ipx_wire.specs.Ends.{Input, Output}
use Rattle.ipx_cmd.specs.InternetMachine.{acts, nothing_yet}
use Rattle.ipx_cmd.specs.Played.{GivenUp, Played, PlayedSoFar}
use Rattle.ipx_cmd.specs.Playing.{is_bad, of_front, of_script}
use Rattle.ipx_cmd.specs.declared.ended.Ended.{Ended}

-- the text of a script, and how its run ends
abbrev pub simulated : List ℕ → List ℕ
simulated bytes = (of_script acts nothing_yet bytes).text

abbrev pub simulated_end : List ℕ → Ended
simulated_end bytes = (of_script acts nothing_yet bytes).ended

-- the text of a script that may go on, and whether it ends at a line that is wrong
abbrev pub sofar : List ℕ → List ℕ
sofar bytes = (of_front acts nothing_yet bytes).text

abbrev pub judged : List ℕ → Bool
judged bytes = is_bad (of_front acts nothing_yet bytes).ended

-- what a run of `internet` leaves: all was played, or the run was given up; and what stands where it has read so far
abbrev pub Simulated : Input → Input → Output → Output → Ended → Type 0
Simulated old new from to ended = Played acts nothing_yet old new from to ended

abbrev pub InternetGivenUp : Input → Input → Output → Output → Type 0
InternetGivenUp old new from to = GivenUp acts nothing_yet old new from to

abbrev pub SimulatedSoFar : Input → Input → Output → Output → Type 0
SimulatedSoFar old new from to = PlayedSoFar acts nothing_yet old new from to
