use Rattle.std.proofs.lemmas.Result.{err_from_is_err_and}
use Rattle.std.proofs.Common.{refl}
use Rattle.ipx_capture.proofs.capture.Capture.next.Goals as goal

pub returns-in_err-wire : goal.returns-in_err-wire
returns-in_err-wire g c =
    let p = err_from_is_err_and c.from_residual.result c.from_residual.ensures.1 in
    let told = c.in_err-wire.ensures in
    rw (p.1, p.2) ((refl, λ _. tt, (told.after, told.same_reference, told.by)), record { after = tt })
