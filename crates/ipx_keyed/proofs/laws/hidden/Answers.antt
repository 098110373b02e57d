use Rattle.ipx_keyed.proofs.Moved.{receivers_moved, heard_moved, own_moved, carried_moved}
use Rattle.ipx_keyed.proofs.laws.hidden.Goals as goal

pub returns-clause-receivers : goal.returns-clause-receivers
returns-clause-receivers c = λ setting history to renaming. receivers_moved to renaming setting history

pub returns-clause-own : goal.returns-clause-own
returns-clause-own c = λ setting history to renaming. own_moved to renaming setting history

pub returns-clause-heard : goal.returns-clause-heard
returns-clause-heard c = λ setting history to renaming. heard_moved to renaming setting history

pub returns-clause-carried : goal.returns-clause-carried
returns-clause-carried c = λ event to. carried_moved event to
