use Rattle.std.proofs.lemmas.Result.{err_from_is_err_and}
use Rattle.ipx_capture.proofs.Heading.{no_window}
use Rattle.ipx_capture.proofs.taking.begin.Goals as goal

pub returns-in_err-window-clause-err : goal.returns-in_err-window-clause-err
returns-in_err-window-clause-err g c =
    let p = err_from_is_err_and c.from_residual-in_err-window.result c.from_residual-in_err-window.ensures.1 in
    rw (p.1, p.2) (no_window g.S.Source.asked c.args.intake.now c.read_header.new.intake c.in_ok-order.order c.in_ok-order.ensures.ok)
