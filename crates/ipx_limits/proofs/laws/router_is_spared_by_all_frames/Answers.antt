use Rattle.std.proofs.Common.{arith}
use Rattle.ipx_fair.proofs.Running.{bound}
use Rattle.ipx_limits.proofs.OfFrames.{links_run}
use Rattle.ipx_limits.proofs.laws.router_is_spared_by_all_frames.Goals as goal

pub returns : goal.returns
returns c = λ old new events run kept.
    let tells = links_run old new events run in
    omega (arith, tells.all, tells.time, bound old new tells.ones kept tells.runs)
