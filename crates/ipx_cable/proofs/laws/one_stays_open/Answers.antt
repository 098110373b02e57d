use Rattle.ipx_cable.proofs.Probes.{one_open}
use Rattle.ipx_cable.proofs.laws.one_stays_open.Goals as goal

pub returns : goal.returns
returns c = λ is_in first count history cable link within member. one_open is_in first count history cable link within member
