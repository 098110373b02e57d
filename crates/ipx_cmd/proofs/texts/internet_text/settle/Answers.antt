use Rattle.std.proofs.lemmas.Result.{err_from_is_err_and}
use Rattle.ipx_cmd.proofs.written.AddedOneAfterAnother.{says_memory}
use Rattle.ipx_cmd.proofs.texts.internet_text.settle.Goals as goal

pub returns-in_err-write_settled-in-Ok-clause-says : goal.returns-in_err-write_settled-in-Ok-clause-says
returns-in_err-write_settled-in-Ok-clause-says g c =
    let p = err_from_is_err_and c.from_residual.result c.from_residual.ensures.1 in
    rw (p.1, p.2) (λ q stands. says_memory c.args.outlet.now c.args.text.now.items c.write_settled.new.text.items _ c.requires)
