use Rattle.ipx_cable.proofs.Staying.{only, valid_kind}
use Rattle.ipx_cable.proofs.laws.known_in_its_kind.Goals as goal

pub returns-clause-one : goal.returns-clause-one
returns-clause-one c = λ hash history node station is. valid_kind hash history node station is

pub returns-clause-spoke : goal.returns-clause-spoke
returns-clause-spoke c = λ hash history node station is. (only hash history node station is).spoke
