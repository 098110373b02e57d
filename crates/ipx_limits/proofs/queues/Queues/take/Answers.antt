use Rattle.std.proofs.Common.{refl, arith}
use Rattle.ipx_limits.proofs.SharedQueues.{first_alone, first_stays, first_changes}
use Rattle.ipx_limits.proofs.queues.Queues.take.Goals as goal
use Rattle.ipx_limits.proofs.queues.Queues.take.Goals.{then-rank, else-rank}

pub loop-number-init : goal.loop-number-init
loop-number-init c = record {
  not_before = omega arith;
  not_behind = omega arith;
  within = omega arith;
  fewest = first_alone c.args.self.now c.args.first;
}

pub loop-number-preserved : goal.loop-number-preserved
loop-number-preserved c =
    let was = c.loop-number.invariant in
    elim c.if-rank.branch [
      | then-rank w ↦ record {
        not_before = omega (arith, w.found-is, was.not_before, was.not_behind);
        not_behind = omega (arith, w.found-is);
        within = omega (arith, was.within);
        fewest = rw w.found-is (first_changes c.args.self.now c.args.first c.loop-number.number c.loop-number.found was.fewest (omega arith));
      }
      | else-rank w ↦ record {
        not_before = omega (arith, w.found-is, was.not_before);
        not_behind = omega (arith, w.found-is, was.not_behind);
        within = omega (arith, was.within);
        fewest = rw w.found-is (first_stays c.args.self.now c.args.first c.loop-number.number c.loop-number.found was.fewest (omega arith));
      }
    ]

pub offset_bounds-self-index : goal.offset_bounds-self-index
offset_bounds-self-index c = omega arith

pub bounds-self-index : goal.bounds-self-index
bounds-self-index c = omega arith

pub offset_bounds-self-index-2 : goal.offset_bounds-self-index-2
offset_bounds-self-index-2 c = omega arith

pub bounds-self-index-2 : goal.bounds-self-index-2
bounds-self-index-2 c = omega arith

pub returns : goal.returns
returns c = record {
  not_before = c.loop-number.invariant.not_before;
  not_behind = omega (arith, c.loop-number.invariant.not_behind, c.loop-number.invariant.within);
  fewest = λ other low high. c.loop-number.invariant.fewest other low (omega (arith, high));
  users = rw (c.saturating_add.ensures, c.from-index.ensures) refl;
  given = refl;
}
