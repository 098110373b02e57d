-- What a sorted list answers, place by place, to the question how its key compares with a sought one.
use Rattle.std.specs.Prelude.{ℕ, ◌+◌, ◌==◌, nat_lt, Bool, ◌&&◌, if◌then◌else◌}
use Rattle.std.specs.declared.cmp.Ordering.{Ordering}
use Rattle.std.specs.declared.cmp.Ordering.TheVariants.{Less, Equal, Greater}

-- some keys are below the sought one, then it stands there or not, then some are above it; of each, how many
pub record Answers : Type 0 where
  pub below : ℕ
  pub held : Bool
  pub above : ℕ

-- the most that `asks` can count, as it is a number of 64 bits
abbrev pub most_asks : ℕ
most_asks = 0xFFFFFFFFFFFFFFFF

-- how many places there are
abbrev pub places : Answers → ℕ
places answers = answers.below + (if answers.held then 1 else 0) + answers.above

-- the answer at a place
abbrev pub answer_at : Answers → ℕ → Ordering
answer_at answers place =
    if nat_lt place answers.below then Less
    else if answers.held && (place == answers.below) then Equal
    else Greater
