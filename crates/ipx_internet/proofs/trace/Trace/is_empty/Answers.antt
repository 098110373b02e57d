use Rattle.std.proofs.Common.{ap, ◌==◌, ℕ}
use Rattle.ipx_internet.proofs.trace.Trace.is_empty.Goals as goal

pub returns : goal.returns
returns c = ap (λ (n : ℕ). n == 0) c.len.ensures
