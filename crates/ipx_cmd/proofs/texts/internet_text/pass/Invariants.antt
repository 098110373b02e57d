use Rattle.std.proofs.Common.{length}
use Rattle.ipx_internet.specs.Moment.{net_at}
use Rattle.ipx_cmd.proofs.acts.EventsOneAfterAnother.{HappenedTo, rounds}
use Rattle.ipx_cmd.proofs.texts.internet_text.pass.Given as goal

abbrev pub invariant-loop-passed : goal.invariant-loop-passed
invariant-loop-passed l = HappenedTo l.initial.internet l.internet (rounds (length (net_at l.initial.internet)) l._passed)
