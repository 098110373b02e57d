use Rattle.ipx_limits.proofs.Limited.{at_most, within}
use Rattle.ipx_limits.proofs.laws.limit_holds.Goals as goal

pub returns-clause-most : goal.returns-clause-most
returns-clause-most c = λ limit old new uses run fits. at_most limit old new uses run fits

pub returns-clause-within : goal.returns-clause-within
returns-clause-within c = λ limit old new uses run fits. within limit old new uses run fits
