use Rattle.ipx_fair.specs.Laws.{Anything, AtMost}
use Rattle.ipx_fair.proofs.Running.{runs_few}
use Rattle.ipx_limits.specs.Several.{of_it}
use Rattle.ipx_limits.proofs.Several.{runs_one, part_heard, own_part_heard}
use Rattle.ipx_limits.proofs.laws.part_of_each_is_heard.Goals as goal

pub returns-clause-packet : goal.returns-clause-packet
returns-clause-packet c = λ n k old new events some kept run keeps. part_heard n k old new events some kept (runs_one (AtMost n) old new events run) keeps

pub returns-clause-always : goal.returns-clause-always
returns-clause-always c = λ n k old new events some kept run few keeps.
    part_heard n k old new events some kept (runs_few n old new (of_it events) few (runs_one Anything old new events run)) keeps

pub returns-clause-more : goal.returns-clause-more
returns-clause-more c = λ n k old new events some kept run enough keeps.
    own_part_heard n k old new events some kept (runs_one (AtMost n) old new events run) enough keeps
