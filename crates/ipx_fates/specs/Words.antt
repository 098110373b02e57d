-- What is asked of what a client of a tunnel says to others, and in which order.
use Rattle.std.specs.Prelude.{ℕ}
use Rattle.ipx_fates.specs.declared.course.Course.{Course}
use Rattle.ipx_fates.specs.declared.course.Course.TheVariants.{Goes, Ends}
use Rattle.ipx_fates.specs.declared.fate.Fate.TheVariants.{HandedOn}
use Rattle.ipx_fates.specs.declared.reason.Reason.TheVariants.{NoClient, ForFarRouters}
use Rattle.ipx_fates.specs.declared.step.WordStep.{WordStep}
use Rattle.ipx_fates.specs.declared.step.WordStep.TheVariants.{IsPing, LetsReply, Reply, LeaveUnanswered, IsForSomebody, IsForFarRouters, LetsSay, Carry, IsHeard, WasCarried}
use Rattle.ipx_fates.specs.declared.step.RouterStep.TheVariants.{LetsHear}
use Rattle.ipx_fates.specs.declared.step.Step.TheVariants.{Word}
use Rattle.ipx_fates.specs.Routing.{hands}
use Rattle.ipx_fates.specs.Steps.{either, unless_refused, lost}

abbrev pub says : WordStep → Course
says step = Goes (Word step)

abbrev pub after_word : WordStep → ℕ → Course
after_word IsPing answer = either answer (says LetsReply) (says IsForSomebody)
after_word LetsReply answer = either answer (says Reply) (says LeaveUnanswered)
after_word Reply answer = says IsForFarRouters
after_word LeaveUnanswered answer = says IsForFarRouters
after_word IsForSomebody answer = either answer (says IsForFarRouters) (lost NoClient)
after_word IsForFarRouters answer = either answer (lost ForFarRouters) (says LetsSay)
after_word LetsSay answer = unless_refused answer (says Carry)
after_word Carry answer = says IsHeard
after_word IsHeard answer = either answer (hands LetsHear) (says WasCarried)
after_word WasCarried answer = either answer (Ends HandedOn) (lost NoClient)
