use Rattle.ipx_fates.proofs.Order.{comes_later}
use Rattle.ipx_fates.proofs.laws.no_step_is_taken_twice.Goals as goal

pub returns : goal.returns
returns c = λ answer step. comes_later answer step
