use Rattle.ipx_fates.proofs.Adding.{add_up, all_came, each_reason}
use Rattle.ipx_fates.proofs.laws.counts_add_up.Goals as goal

pub returns-clause-all : goal.returns-clause-all
returns-clause-all c = λ fates few can. add_up fates few can

pub returns-clause-came : goal.returns-clause-came
returns-clause-came c = λ fates few can. all_came fates few can

pub returns-clause-each : goal.returns-clause-each
returns-clause-each c = λ why fates few can. each_reason why fates few can
