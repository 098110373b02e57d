use Rattle.std.proofs.Common.{◌≡◌, ◌^◌, ◌<◌, nat_lt}
use Rattle.ipx_table.specs.Answers.{places}
use Rattle.ipx_table.proofs.Narrowing.{Narrowed}
use Rattle.ipx_table.proofs.asking.find.Given as goal

abbrev pub invariant-loop-size : goal.invariant-loop-size
invariant-loop-size g l =
    Narrowed (g.A.Asked.answers l.initial.asked) l.low l.size (nat_lt l.met l.len) (g.A.Asked.asks l.asked)
    × (g.A.Asked.answers l.asked ≡ g.A.Asked.answers l.initial.asked)
    × (places (g.A.Asked.answers l.initial.asked) < 2 ^ 64)

abbrev pub decreases-loop-size : goal.decreases-loop-size
decreases-loop-size g l = l.size
