use Rattle.ipx_plan.proofs.Planning.{origins_long, fates_long, both_ways}
use Rattle.ipx_plan.proofs.laws.once.Goals as goal

pub returns-clause-origins : goal.returns-clause-origins
returns-clause-origins c = λ old new plan is. origins_long old new plan is

pub returns-clause-fates : goal.returns-clause-fates
returns-clause-fates c = λ old new plan is. fates_long old new plan is

pub returns-clause-both : goal.returns-clause-both
returns-clause-both c = λ old new plan is j k. both_ways old new plan is j k
