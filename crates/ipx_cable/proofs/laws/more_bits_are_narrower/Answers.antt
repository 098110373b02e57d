use Rattle.ipx_cable.proofs.Fronts.{only_one}
use Rattle.ipx_cable.proofs.laws.more_bits_are_narrower.Goals as goal

pub returns-clause-one : goal.returns-clause-one
returns-clause-one c = λ host address small small_address begin. only_one host address small small_address begin
