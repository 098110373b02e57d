use Rattle.ipx_keyed.specs.Tables.{clients}
use Rattle.ipx_keyed.proofs.Counting.{once}
use Rattle.ipx_keyed.proofs.Silence.{exact, no_pings}
use Rattle.ipx_keyed.proofs.Staying.{each_alone}
use Rattle.ipx_keyed.proofs.laws.pings.Goals as goal

pub returns-clause-exact : goal.returns-clause-exact
returns-clause-exact c = λ setting history client last alone. exact setting history client last alone

pub returns-clause-strangers : goal.returns-clause-strangers
returns-clause-strangers c = λ setting history place none. no_pings setting history place none

pub returns-clause-alone : goal.returns-clause-alone
returns-clause-alone c = λ setting history. each_alone (clients setting history) (λ place. once setting history place)
