use Rattle.ipx_router.proofs.histories.OneEventMore.{none_up}
use Rattle.ipx_router.proofs.laws.stopped.Goals as goal

pub returns-clause-none_up : goal.returns-clause-none_up
returns-clause-none_up c = none_up
