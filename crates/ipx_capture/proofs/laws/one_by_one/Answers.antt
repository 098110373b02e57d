use Rattle.ipx_capture.proofs.Calling.{file_is}
use Rattle.ipx_capture.proofs.laws.one_by_one.Goals as goal

pub returns : goal.returns
returns c = file_is
