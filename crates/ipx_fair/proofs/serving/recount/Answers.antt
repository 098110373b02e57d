use Rattle.std.proofs.Common.{◌≡◌, ◌∙◌, sym, ap, subst, arith, ◌+◌, ◌-◌, ◌<◌, inl, inr, length, get_or, take}
use Rattle.ipx_fair.specs.Queues.{waits, waiting, lowered}
use Rattle.ipx_fair.specs.inside.Held.{Spares}
use Rattle.ipx_fair.proofs.Queues.{waits_some}
use Rattle.ipx_fair.proofs.Counted.{spares_fewer, spares_push, waiting_push, lowered_more}
use Rattle.ipx_fair.proofs.serving.recount.Goals as goal
use Rattle.ipx_fair.proofs.serving.recount.Goals.{then-end-tally, else-end-tally}

pub loop-end-preserved : goal.loop-end-preserved
loop-end-preserved c =
    let ends = c.args.ends.now in
    let served = c.args.tally.now.served in
    let i = c.loop-end.end-index in
    let qs = lowered served (take i ends) in
    let q = get_or ends i 0 - served in
    let within : i < length ends = omega arith in
    let more = lowered_more served ends i within in
    let wait : waiting (lowered served (take (i + 1) ends)) ≡ waiting qs + waits q = ap waiting more ∙ waiting_push qs q in
    elim c.if-end-tally.branch [
      | then-end-tally w ↦
          let some : 0 < q = omega arith in
          record {
            waits = omega (arith, w.waits-is, c.loop-end.invariant.waits, wait, waits_some q some);
            spares = subst (Spares c.if-end-tally.spare) (sym more)
                (spares_push c.if-end-tally.spare qs q (spares_fewer c.loop-end.spare c.if-end-tally.spare qs (omega arith) c.loop-end.invariant.spares) (inr (omega arith)));
            few = omega arith;
          }
      | else-end-tally w ↦
          let none : q ≡ 0 = omega arith in
          let still : waits q ≡ 0 = ap waits none in
          record {
            waits = omega (arith, w.waits-is, c.loop-end.invariant.waits, wait, still);
            spares = subst (Spares c.if-end-tally.spare) (sym more)
                (spares_push c.if-end-tally.spare qs q (spares_fewer c.loop-end.spare c.if-end-tally.spare qs (omega arith) c.loop-end.invariant.spares) (inl none));
            few = omega arith;
          }
    ]
