use Rattle.ipx_cable.proofs.Probes.{stays_open, first_open}
use Rattle.ipx_cable.proofs.laws.first_stays_open.Goals as goal

pub returns-clause-unshut : goal.returns-clause-unshut
returns-clause-unshut c = λ count link history none. stays_open count link history none

pub returns-clause-first : goal.returns-clause-first
returns-clause-first c = λ count history. first_open count history
