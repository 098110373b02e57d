use Rattle.ipx_cmd.proofs.acts.SecondsOfALine.{SoFar}
use Rattle.ipx_cmd.proofs.texts.event_text.pass.Given as goal

abbrev pub invariant-loop-passed : goal.invariant-loop-passed
invariant-loop-passed g l = SoFar l.initial.router l.router l.initial.outlet l.outlet l.initial.text.items l.text.items l._passed
