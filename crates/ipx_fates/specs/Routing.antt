-- What the router may hear.
use Rattle.std.specs.Prelude.{ℕ, nat_lt, if◌then◌else◌}
use Rattle.ipx_fates.specs.declared.course.Course.{Course}
use Rattle.ipx_fates.specs.declared.course.Course.TheVariants.{Goes, Ends}
use Rattle.ipx_fates.specs.declared.fate.Fate.{Fate}
use Rattle.ipx_fates.specs.declared.fate.Fate.TheVariants.{Heard, Dropped, Awaited}
use Rattle.ipx_fates.specs.declared.reason.Reason.TheVariants.{NoMemory}
use Rattle.ipx_fates.specs.declared.step.RouterStep.{RouterStep}
use Rattle.ipx_fates.specs.declared.step.RouterStep.TheVariants.{LetsHear, IsForAll, Extend, IsAwaited, Hear, Outcome}
use Rattle.ipx_fates.specs.declared.step.Step.TheVariants.{Router}
use Rattle.ipx_fates.specs.Steps.{either, unless_refused, lost}

abbrev pub hands : RouterStep → Course
hands step = Goes (Router step)

-- the first number by which the router says that it drops a packet
abbrev pub first_drop : ℕ
first_drop = 100

abbrev pub heard : ℕ → Fate
heard said = if nat_lt said first_drop then Heard else Dropped said

abbrev pub after_router : RouterStep → ℕ → Course
after_router LetsHear answer = unless_refused answer (hands IsForAll)
after_router IsForAll answer = either answer (hands Extend) (hands IsAwaited)
after_router Extend answer = hands IsAwaited
after_router IsAwaited answer = either answer (Ends Awaited) (hands Hear)
after_router Hear answer = either answer (lost NoMemory) (hands Outcome)
after_router Outcome answer = Ends (heard answer)
