use Rattle.ipx_keyed.proofs.Remembered.{each_registered, was_given}
use Rattle.ipx_keyed.proofs.laws.remembered.Goals as goal

pub returns-clause-each : goal.returns-clause-each
returns-clause-each c = λ setting history. each_registered setting history

pub returns-clause-given : goal.returns-clause-given
returns-clause-given c = λ setting history place node is. was_given setting history place node is
