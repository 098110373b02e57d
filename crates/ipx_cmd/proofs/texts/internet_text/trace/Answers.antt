use Rattle.std.proofs.Common.{ap, Err, codes}
use Rattle.std.proofs.lemmas.Result.{err_from_is_err_and}
use Rattle.ipx_cmd.proofs.written.TextOfAnInternet.{limit_says, traced_says}
use Rattle.ipx_cmd.proofs.written.AddedOneAfterAnother.{says_memory}
use Rattle.ipx_cmd.proofs.texts.internet_text.trace.Goals as goal

pub returns-in_err-extend_from_slice-in-Err-Limit-clause-says : goal.returns-in_err-extend_from_slice-in-Err-Limit-clause-says
returns-in_err-extend_from_slice-in-Err-Limit-clause-says g c =
    let p = err_from_is_err_and c.from_residual.result c.from_residual.ensures.1 in
    rw (p.1, p.2) (λ q stands there. says_memory c.args.outlet.now c.args.text.now.items c.extend_from_slice.new.self.items _ c.requires)

pub returns-in_ok-extend_from_slice-in-Err-Limit-clause-says : goal.returns-in_ok-extend_from_slice-in-Err-Limit-clause-says
returns-in_ok-extend_from_slice-in-Err-Limit-clause-says g c = λ q stands there.
    limit_says c.args.internet.now q c.args.router c.args.port c.args.limit c.args.bytes.now c.args.outlet.now c.write_much.new.outlet c.args.text.now.items
    c.write_much.new.text.items stands c.write_much.result (c.in-Err-Limit.ensures.limit (ap Err c.in-Err-Limit.field-0-is))
    (c.write_much.ensures.says c.args.text.now.items (codes "limit\n") c.in_ok-extend_from_slice-in-Err-Limit.ensures.items)

pub returns-in-Ok-clause-says : goal.returns-in-Ok-clause-says
returns-in-Ok-clause-says g c = λ q stands there.
    traced_says c.args.internet.now q c.args.router c.args.port c.args.limit c.args.bytes.now c.args.outlet.now c.write_trace-written.new.outlet c.args.text.now.items
    c.write_trace-written.new.text.items stands c.in-Ok.trace.receptions c.write_trace-written.result c.in-Ok.ensures.is_tree c.in-Ok.ensures.outcomes c.in-Ok.ensures.few c.write_trace-written.ensures.says
