use Rattle.std.proofs.Common.{◌-◌, length, drop, refl, arith, subst}
use Rattle.ipx_capture.specs.Reads.{LostFront}
use Rattle.ipx_capture.proofs.Filling.{filling_none, filling_more, filled_end, filling_lost}
use Rattle.ipx_capture.proofs.Once.{on_err_all}
use Rattle.ipx_capture.proofs.Pieces.{front_written, length_written}
use Rattle.ipx_capture.proofs.taking.read_front.Goals as goal

pub loop-at-init : goal.loop-at-init
loop-at-init g c = (filling_none g.S.Source.asked c.args.bytes.now c.args.intake.now, refl)

pub loop-at-preserved : goal.loop-at-preserved
loop-at-preserved g c =
    let at = c.loop-at.at in
    let bytes = c.loop-at.bytes in
    let buf = c.ask.new.buf in
    let n = c.in_ok-count.count in
    let gave = c.in_ok-count.ensures.ok in
    let behind = drop (length bytes - at) (drop at bytes) in (
      filling_more g.S.Source.asked bytes _ buf c.args.intake.now c.loop-at.intake c.ask.new.intake at n c.loop-at.invariant.0 (omega arith) (omega arith)
          (front_written bytes buf behind at n (omega arith) gave.bound) gave (omega arith) (length_written bytes buf behind at n (omega arith) gave.bound),
      omega (arith, c.loop-at.invariant.1),
    )

pub returns-then-count-eq0-clause-ok : goal.returns-then-count-eq0-clause-ok
returns-then-count-eq0-clause-ok g c =
    let at = c.loop-at.at in
    let bytes = c.loop-at.bytes in
    let buf = c.ask.new.buf in
    let n = c.in_ok-count.count in
    let gave = c.in_ok-count.ensures.ok in
    let behind = drop (length bytes - at) (drop at bytes) in
    filled_end g.S.Source.asked bytes _ buf c.args.intake.now c.loop-at.intake c.ask.new.intake at n c.loop-at.invariant.0 (omega arith) (omega arith)
    (front_written bytes buf behind at n (omega arith) gave.bound) gave (omega arith)

pub returns-in_err-count-clause-err : goal.returns-in_err-count-clause-err
returns-in_err-count-clause-err g c =
    on_err_all c.from_residual.result
    (subst (λ k. LostFront g.S.Source.asked k c.args.intake.now c.ask.new.intake) c.loop-at.invariant.1
    (filling_lost g.S.Source.asked c.loop-at.bytes c.args.intake.now c.loop-at.intake c.ask.new.intake c.loop-at.at c.loop-at.invariant.0 (omega arith) c.in_err-count.ensures.err))
