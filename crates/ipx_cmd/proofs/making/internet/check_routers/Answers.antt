use Rattle.std.proofs.Common.{sym}
use Rattle.std.proofs.lemmas.Result.{err_from_is_err_and}
use Rattle.ipx_cmd.proofs.acts.RoutersAreAdded.{made_step, made_stop}
use Rattle.ipx_cmd.proofs.making.internet.check_routers.Goals as goal

pub loop-ports-preserved : goal.loop-ports-preserved
loop-ports-preserved c =
    made_step (λ ports. ports.items) c.args.named.now c.loop-ports.ports-index c.ports-item.result c.deref.result.now c.loop-ports-test.true c.ports-item.is c.deref.ensures.value
    c.in_ok-check_router.ensures.made c.loop-ports.invariant

pub returns-in_err-check_router : goal.returns-in_err-check_router
returns-in_err-check_router c =
    let p = err_from_is_err_and c.from_residual.result c.from_residual.ensures.1 in
    rw (p.1, p.2) (sym (made_stop (λ ports. ports.items) c.args.named.now c.loop-ports.ports-index c.ports-item.result c.deref.result.now c.in_err-check_router.field-0.0 c.loop-ports-test.true
    c.ports-item.is c.deref.ensures.value c.in_err-check_router.ensures.refused c.loop-ports.invariant))
