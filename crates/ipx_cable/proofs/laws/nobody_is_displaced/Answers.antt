use Rattle.ipx_cable.proofs.Staying.{displaced}
use Rattle.ipx_cable.proofs.laws.nobody_is_displaced.Goals as goal

pub returns : goal.returns
returns c = λ hash history node other kind is_for_all differ. displaced hash history node other kind is_for_all differ
