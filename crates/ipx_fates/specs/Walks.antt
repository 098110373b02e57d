-- The way of a packet to its end, where each step is answered by what holds of the packet.
use Rattle.std.specs.Prelude.{ℕ, zero, suc, List, [], ◌∷◌, Option, None, Some}
use Rattle.ipx_fates.specs.declared.course.Course.{Course}
use Rattle.ipx_fates.specs.declared.course.Course.TheVariants.{Goes, Ends}
use Rattle.ipx_fates.specs.declared.fate.Fate.{Fate}
use Rattle.ipx_fates.specs.declared.step.Step.{Step}
use Rattle.ipx_fates.specs.Courses.{after_step}

-- what each step is answered, if it is asked
abbrev pub Answers : Type 0
Answers = Step → ℕ

-- no way has more steps
abbrev pub most_steps : ℕ
most_steps = 20

-- the fate to which a course comes in so many steps; none where it isn't at its end then
unfoldable pub fate_by : Answers → Course → ℕ → Option Fate
fate_by answers (Ends fate) n = Some fate
fate_by answers (Goes step) zero = None
fate_by answers (Goes step) (suc n) = fate_by answers (after_step (answers step) step) n

-- the steps on its way, the first one first
unfoldable pub steps_by : Answers → Course → ℕ → List Step
steps_by answers (Ends fate) n = []
steps_by answers (Goes step) zero = []
steps_by answers (Goes step) (suc n) = step ∷ steps_by answers (after_step (answers step) step) n

abbrev pub fate_of : Answers → Course → Option Fate
fate_of answers course = fate_by answers course most_steps

abbrev pub steps_of : Answers → Course → List Step
steps_of answers course = steps_by answers course most_steps
