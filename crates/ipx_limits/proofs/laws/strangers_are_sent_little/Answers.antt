use Rattle.ipx_limits.proofs.ToStrangers.{all_most, one_most, all_small, one_small}
use Rattle.ipx_limits.proofs.laws.strangers_are_sent_little.Goals as goal

pub returns-clause-all : goal.returns-clause-all
returns-clause-all c = λ limits old new events run fits small. all_most limits old new events run fits small

pub returns-clause-one : goal.returns-clause-one
returns-clause-one c = λ limits old new events run fits small. one_most limits old new events run fits small

pub returns-clause-small : goal.returns-clause-small
returns-clause-small c = λ rate some few. (all_small rate, one_small rate few)
