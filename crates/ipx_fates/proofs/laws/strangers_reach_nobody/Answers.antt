use Rattle.std.proofs.Common.{ap, not, refl}
use Rattle.ipx_fates.specs.Laws.{reaches, tunnel_hears}
use Rattle.ipx_fates.proofs.Nowhere.{not_allowed, strangers}
use Rattle.ipx_fates.proofs.laws.strangers_reach_nobody.Goals as goal

pub returns-clause-not_allowed : goal.returns-clause-not_allowed
returns-clause-not_allowed c = λ told refused. ap not (not_allowed reaches (λ step other. refl) told refused)

pub returns-clause-unheard : goal.returns-clause-unheard
returns-clause-unheard c = λ told refused. not_allowed tunnel_hears (λ step other. other) told refused

pub returns-clause-stranger : goal.returns-clause-stranger
returns-clause-stranger c = λ told stranger. ap not (strangers told stranger)
