use Rattle.std.proofs.lemmas.Result.{err_from_is_err_and}
use Rattle.ipx_cmd.proofs.acts.RoutersAreAdded.{none_added, added_step, added_stop, added_all}
use Rattle.ipx_cmd.proofs.making.internet.add_routers.Goals as goal

pub loop-ports-init : goal.loop-ports-init
loop-ports-init c = none_added c.new-internet.result c.new-internet.ensures.routers c.new-internet.ensures.queue

pub loop-ports-preserved : goal.loop-ports-preserved
loop-ports-preserved c =
    added_step (λ ports. ports.items) c.args.named.now c.loop-ports.ports-index c.ports-item.result c.deref.result.now c.loop-ports.internet c.add_router.new.internet c.loop-ports-test.true
    c.ports-item.is c.deref.ensures.value c.loop-ports.invariant c.in_ok-add_router.ensures.net c.in_ok-add_router.ensures.fresh c.in_ok-add_router.ensures.stands

pub returns-in_err-add_router : goal.returns-in_err-add_router
returns-in_err-add_router c =
    let p = err_from_is_err_and c.from_residual.result c.from_residual.ensures.1 in
    rw (p.1, p.2) (record {
      net = tt;
      apart = tt;
      stands = tt;
      refused = added_stop (λ ports. ports.items) c.args.named.now c.loop-ports.ports-index c.ports-item.result c.deref.result.now c.loop-ports.internet c.in_err-add_router.field-0.0
          c.loop-ports-test.true c.ports-item.is c.deref.ensures.value c.loop-ports.invariant c.requires c.in_err-add_router.ensures.refused;
    })

pub returns : goal.returns
returns c =
    let all = added_all (λ ports. ports.items) c.args.named.now c.loop-ports.ports-index c.loop-ports.internet c.loop-ports-test.false c.loop-ports.invariant in
    record { net = all.net; apart = all.apart; stands = all.stands; refused = tt }
