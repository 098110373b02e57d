use Rattle.std.proofs.Common.{ap, arith, ◌+◌}
use Rattle.ipx_fair.specs.declared.tally.Tally.{Tally}
use Rattle.ipx_fair.proofs.Agreed.{agrees_emptied, served_all}
use Rattle.ipx_fair.proofs.Heard.{held_total}
use Rattle.ipx_fair.proofs.serving.advance.Goals as goal

pub serve-requires-clause-small : goal.serve-requires-clause-small
serve-requires-clause-small c = omega (arith, held_total c.args.tally.now c.args.ends.now c.requires, c.requires.small.served)

pub returns-else-time-tally-clause-passed : goal.returns-else-time-tally-clause-passed
returns-else-time-tally-clause-passed c =
    let t = c.args.tally.now in
    record {
      setting = ap (λ (x : Tally). x.setting) c.empty.ensures;
      served = served_all (t.left + c.args.nanoseconds) t c.empty.new.self c.args.ends.now c.requires.agrees c.empty.ensures (omega arith);
    }

pub returns-else-time-tally-clause-agrees : goal.returns-else-time-tally-clause-agrees
returns-else-time-tally-clause-agrees c = agrees_emptied c.args.tally.now c.empty.new.self c.args.ends.now c.requires.agrees c.empty.ensures
