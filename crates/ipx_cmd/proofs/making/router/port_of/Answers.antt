use Rattle.std.proofs.Common.{sym, ap, ◌∙◌, Err}
use Rattle.ipx_cmd.specs.CommandMeaning.{values_of}
use Rattle.ipx_cmd.proofs.acts.ValuesMakeARouter.{port_answer, port_bad}
use Rattle.ipx_cmd.proofs.making.router.port_of.Goals as goal

pub returns-in-Ok : goal.returns-in-Ok
returns-in-Ok c = port_answer (values_of c.args.named) c.in-Ok.port c.with_shares.result c.in-Ok.ensures.value c.in-Ok.ensures.fit c.with_shares.ensures

pub returns-in-Err : goal.returns-in-Err
returns-in-Err c = ap Err c.port_fault.ensures ∙ sym (port_bad (values_of c.args.named) c.in-Err.fault c.in-Err.ensures.refused)
