use Rattle.ipx_cmd.proofs.written.TextOfAnInternet.{CopiesSoFar}
use Rattle.ipx_cmd.proofs.texts.internet_text.write_trace.Given as goal

abbrev pub invariant-loop-number : goal.invariant-loop-number
invariant-loop-number g l = CopiesSoFar l.trace.receptions l.initial.outlet l.outlet l.initial.text.items l.text.items l.number
