use Rattle.ipx_keyed.specs.Tables.{clients}
use Rattle.ipx_keyed.proofs.Counting.{none_own}
use Rattle.ipx_keyed.proofs.Sending.{nobody_twice, to_everybody}
use Rattle.ipx_keyed.proofs.laws.cable.Goals as goal

pub returns-clause-router_all : goal.returns-clause-router_all
returns-clause-router_all c = λ setting history to bytes all. to_everybody to setting.node (clients setting history) all (none_own setting history)

pub returns-clause-twice : goal.returns-clause-twice
returns-clause-twice c = λ setting history place. nobody_twice setting history place
