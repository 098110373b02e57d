use Rattle.ipx_limits.specs.Deciding.{is_ping}
use Rattle.ipx_limits.proofs.Limited.{at_most_of, pinged_runs}
use Rattle.ipx_limits.proofs.laws.pings_are_few.Goals as goal

pub returns : goal.returns
returns c = λ limits old new events run fits. at_most_of limits.all_pings old new is_ping events (pinged_runs limits old new events run) fits
