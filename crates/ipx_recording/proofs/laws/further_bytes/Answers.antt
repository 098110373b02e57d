use Rattle.ipx_recording.proofs.Further.{continues}
use Rattle.ipx_recording.proofs.laws.further_bytes.Goals as goal

pub returns : goal.returns
returns c = continues
