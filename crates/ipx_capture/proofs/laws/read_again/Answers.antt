use Rattle.ipx_capture.proofs.ReadAgain.{read_again}
use Rattle.ipx_capture.proofs.laws.read_again.Goals as goal

pub returns : goal.returns
returns c = read_again
