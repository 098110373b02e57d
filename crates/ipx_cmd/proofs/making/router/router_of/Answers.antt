use Rattle.std.proofs.Common.{sym, ap, ◌∙◌, Err}
use Rattle.ipx_cmd.proofs.acts.ValuesMakeARouter.{router_ok, router_bad}
use Rattle.ipx_cmd.proofs.making.router.router_of.Goals as goal

pub returns-in-Ok-clause-made : goal.returns-in-Ok-clause-made
returns-in-Ok-clause-made c = router_ok c.args.ports.now c.in-Ok.ensures.within.0 c.in-Ok.ensures.within.1 c.in-Ok.ensures.apart

pub returns-in-Err-clause-refused : goal.returns-in-Err-clause-refused
returns-in-Err-clause-refused c =
    router_bad c.args.ports.now c.in-Err.fault c.in-Err.ensures.refused ∙ ap Err (sym c.ports_fault.ensures)
