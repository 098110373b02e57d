-- What follows an answer.
use Rattle.std.specs.Prelude.{ℕ, Bool, ◌==◌, not, if◌then◌else◌, Option, None, Some}
use Rattle.ipx_fates.specs.declared.course.Course.{Course}
use Rattle.ipx_fates.specs.declared.course.Course.TheVariants.{Ends}
use Rattle.ipx_fates.specs.declared.fate.Fate.TheVariants.{Lost}
use Rattle.ipx_fates.specs.declared.reason.Reason.{Reason}
use Rattle.ipx_fates.specs.Fates.{reason_at}

-- 0 is no
abbrev pub is_yes : ℕ → Bool
is_yes answer = not (answer == 0)

abbrev pub either : (answer : ℕ) (then_on else_on : Course) → Course
either answer then_on else_on = if is_yes answer then then_on else else_on

abbrev pub lost : Reason → Course
lost why = Ends (Lost why)

-- a reason ends it
abbrev pub ended_by : Option Reason → Course → Course
ended_by None on = on
ended_by (Some why) on = lost why

abbrev pub unless_refused : (answer : ℕ) (on : Course) → Course
unless_refused answer on = ended_by (reason_at answer) on
