use Rattle.std.proofs.Common.{◌∙◌, sym, subst}
use Rattle.ipx_edge.specs.inside.Verdict.{Fits}
use Rattle.ipx_edge.specs.declared.filtering.Verdict.{Verdict}
use Rattle.ipx_edge.proofs.Fitting.{right}
use Rattle.ipx_edge.proofs.filtering.judge.Goals as goal

pub returns-then-permits_packet-clause-fits : goal.returns-then-permits_packet-clause-fits
returns-then-permits_packet-clause-fits c =
    subst (λ (v : Verdict). Fits v c.args.bytes.now) (sym c.listed_in.ensures)
    (right c.args.way c.args.port.now c.args.rules.now c.args.bytes.now c.in-Ok.packet (sym c.read.ensures.value ∙ c.in-Ok.is)).0
