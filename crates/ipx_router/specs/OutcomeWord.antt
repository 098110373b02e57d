-- What became of an event, in words.
use Rattle.std.specs.Prelude.{ℕ, List, ◌++◌, codes}
use Rattle.ipx_router.specs.WhyWord.{why_word}
use Rattle.ipx_router.specs.declared.outcome.Outcome.{Outcome}
use Rattle.ipx_router.specs.declared.outcome.Outcome.TheVariants.{Started, AlreadyRunning, Stopped, Ticked, Learned, Answered, Forwarded, Propagated, WentDown, CameUp, AlreadyDown, AlreadyUp, Local, Dropped}

-- a few words each; of what was dropped, `drop` and the word of the reason
abbrev pub outcome_word : Outcome → List ℕ
outcome_word Started = codes "started"
outcome_word AlreadyRunning = codes "already running"
outcome_word Stopped = codes "stopped"
outcome_word Ticked = codes "ticked"
outcome_word Learned = codes "learned"
outcome_word Answered = codes "answered"
outcome_word Forwarded = codes "forwarded"
outcome_word Propagated = codes "propagated"
outcome_word WentDown = codes "went down"
outcome_word CameUp = codes "came up"
outcome_word AlreadyDown = codes "already down"
outcome_word AlreadyUp = codes "already up"
outcome_word Local = codes "local"
outcome_word (Dropped why) = codes "drop " ++ why_word why
