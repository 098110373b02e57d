use Rattle.std.proofs.Common.{arith}
use Rattle.ipx_fair.proofs.Heard.{held_total, held_waits, weight_small, heard_here, put_state, put_held}
use Rattle.ipx_fair.proofs.hearing.put.Goals as goal

pub add-requires-clause-total : goal.add-requires-clause-total
add-requires-clause-total c =
    let t = c.args.tally.now in
    let ends = c.args.ends.now in
    let q = c.saturating_sub-queue.result in
    let heard = heard_here t ends c.requires.held c.args.speaker q c.args.weight c.saturating_sub-queue.ensures c.requires.heard in
    omega (arith, held_total t ends c.requires.held, weight_small t ends c.requires.held q c.args.weight heard)

pub add-requires-clause-waits : goal.add-requires-clause-waits
add-requires-clause-waits c = omega (arith, held_waits c.args.tally.now c.args.ends.now c.requires.held)

pub returns-clause-held : goal.returns-clause-held
returns-clause-held c =
    put_held c.args.tally.now c.args.ends.now c.requires.held c.add.new.self c.args.speaker c.saturating_sub-queue.result c.args.weight
    c.requires.speaker c.saturating_sub-queue.ensures c.requires.heard c.add.ensures.tally c.add.ensures.waits c.add.ensures.spare c.add.ensures.spares

pub returns-clause-queue : goal.returns-clause-queue
returns-clause-queue c =
    put_state c.args.tally.now c.args.ends.now c.requires.held c.add.new.self c.args.speaker c.saturating_sub-queue.result c.args.weight
    c.requires.speaker c.saturating_sub-queue.ensures c.requires.heard c.add.ensures.tally
