use Rattle.ipx_fair.proofs.Running.{runs_few}
use Rattle.ipx_fair.proofs.Parts.{one_heard, own_heard}
use Rattle.ipx_fair.proofs.laws.part_is_heard.Goals as goal

pub returns-clause-packet : goal.returns-clause-packet
returns-clause-packet c = λ n speaker old new events some kept run keeps. one_heard n speaker old new events some kept run keeps

pub returns-clause-always : goal.returns-clause-always
returns-clause-always c = λ n speaker old new events some kept run few keeps.
    one_heard n speaker old new events some kept (runs_few n old new events few run) keeps

pub returns-clause-more : goal.returns-clause-more
returns-clause-more c = λ n speaker old new events some kept run enough keeps. own_heard n speaker old new events some kept run enough keeps
