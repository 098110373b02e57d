use Rattle.ipx_limits.proofs.ToStrangers.{answered}
use Rattle.ipx_limits.proofs.laws.newcomer_is_answered.Goals as goal

pub returns : goal.returns
returns c = λ rate decision address address_then all all_then sent none fits. answered rate decision address address_then all all_then sent none fits
