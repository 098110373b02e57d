use Rattle.ipx_internet.proofs.laws.passing.seconds_pass.Goals as goal
use Rattle.ipx_internet.proofs.ticks.SecondIsATick.{none_ticked, more_ticks}

pub returns-clause-at_first : goal.returns-clause-at_first
returns-clause-at_first c most_routes most_services m = none_ticked most_routes most_services m

pub returns-clause-one_more : goal.returns-clause-one_more
returns-clause-one_more c most_routes most_services n old now new same before one =
    more_ticks most_routes most_services n 1 old now new same before one
