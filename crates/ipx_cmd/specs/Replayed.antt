-- The text of a script for one router.
use Rattle.std.specs.Prelude.{ℕ, Bool, List}
use Rattle.ipx_wire.specs.Ends.{Input, Output}
use Rattle.ipx_cmd.specs.Machine.{acts, nothing_yet}
use Rattle.ipx_cmd.specs.Played.{GivenUp, Played, PlayedSoFar}
use Rattle.ipx_cmd.specs.Playing.{is_bad, of_front, of_script}
use Rattle.ipx_cmd.specs.declared.ended.Ended.{Ended}

-- the text of a script, and how its run ends
abbrev pub replayed : List ℕ → List ℕ
replayed bytes = (of_script acts nothing_yet bytes).text

abbrev pub replayed_end : List ℕ → Ended
replayed_end bytes = (of_script acts nothing_yet bytes).ended

-- the text of a script that may go on, and whether it ends at a line that is wrong
abbrev pub sofar : List ℕ → List ℕ
sofar bytes = (of_front acts nothing_yet bytes).text

abbrev pub judged : List ℕ → Bool
judged bytes = is_bad (of_front acts nothing_yet bytes).ended

-- what a run of `replay` leaves: all was played, or the run was given up; and what stands where it has read so far
abbrev pub Replayed : Input → Input → Output → Output → Ended → Type 0
Replayed old new from to ended = Played acts nothing_yet old new from to ended

abbrev pub ReplayGivenUp : Input → Input → Output → Output → Type 0
ReplayGivenUp old new from to = GivenUp acts nothing_yet old new from to

abbrev pub ReplayedSoFar : Input → Input → Output → Output → Type 0
ReplayedSoFar old new from to = PlayedSoFar acts nothing_yet old new from to
