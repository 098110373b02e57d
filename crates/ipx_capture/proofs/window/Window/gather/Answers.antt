use Rattle.std.proofs.lemmas.Result.{err_from_is_err_and}
use Rattle.std.proofs.Common.{◌<◌, arith, ap, length}
use Rattle.ipx_capture.proofs.Pieces.{length_piece}
use Rattle.ipx_capture.proofs.Reading.{gathered_end, gathering_lost, gathering_more, gathering_none}
use Rattle.ipx_capture.proofs.window.Window.gather.Goals as goal

pub returns-in_err-fill-clause-err : goal.returns-in_err-fill-clause-err
returns-in_err-fill-clause-err g c =
    let p = err_from_is_err_and c.from_residual.result c.from_residual.ensures.1 in rw (p.1, p.2) (gathering_lost g.S.Source.asked c.args.self.now.ahead c.loop-self.self.ahead c.args.intake.now c.loop-self.intake c.fill.new.intake c.args.need _ c.loop-self.invariant.bytes c.in_err-fill.ensures.err)

pub loop-self-init : goal.loop-self-init
loop-self-init g c = record {
  bytes = gathering_none g.S.Source.asked c.args.self.now.ahead c.args.intake.now c.args.need;
  memory = record { kept = omega arith; needed = omega arith };
}

pub loop-self-preserved : goal.loop-self-preserved
loop-self-preserved g c =
    let w = c.self.inside in
    let size = length_piece w.bytes.items w.from w.count c.self.invariant.ahead in
    let missing : length c.loop-self.self.ahead < c.args.need = omega (arith, size, ap (λ h. length h.ahead) c.self.view_is) in
    let before = c.loop-self.invariant.memory in
    let grows = c.fill.ensures.memory in
    record {
      bytes = gathering_more g.S.Source.asked c.args.self.now.ahead c.loop-self.self.ahead c.fill.new.self.ahead c.args.intake.now c.loop-self.intake c.fill.new.intake c.args.need
          c.in_ok-fill.field-0 c.loop-self.invariant.bytes missing c.in_ok-fill.ensures.ok (omega arith);
      memory = record { kept = omega (arith, before.kept, grows.kept); needed = omega (arith, before.needed, grows.needed) };
    }

pub returns-then-branch-eq0-clause-ok : goal.returns-then-branch-eq0-clause-ok
returns-then-branch-eq0-clause-ok g c =
    let w = c.self.inside in
    let size = length_piece w.bytes.items w.from w.count c.self.invariant.ahead in
    gathered_end g.S.Source.asked c.args.self.now.ahead c.loop-self.self.ahead c.fill.new.self.ahead c.args.intake.now c.loop-self.intake c.fill.new.intake c.args.need c.in_ok-fill.field-0
    c.loop-self.invariant.bytes (omega (arith, size, ap (λ h. length h.ahead) c.self.view_is)) c.in_ok-fill.ensures.ok (omega arith)
