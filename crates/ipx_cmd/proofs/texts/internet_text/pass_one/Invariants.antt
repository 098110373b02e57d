use Rattle.ipx_cmd.proofs.acts.EventsOneAfterAnother.{HappenedTo, seconds_to}
use Rattle.ipx_cmd.proofs.texts.internet_text.pass_one.Given as goal

abbrev pub invariant-loop-router : goal.invariant-loop-router
invariant-loop-router l = HappenedTo l.initial.internet l.internet (seconds_to l.router)
