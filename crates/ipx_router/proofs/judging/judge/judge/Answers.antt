use Rattle.std.proofs.Common.{◌≡◌, ◌∙◌, sym, ap, subst, Bool, true, Option, Some, IfOk, IfErr}
use Rattle.ipx_router.specs.Facts.{offers}
use Rattle.ipx_router.specs.inside.Judged.{IsVerdict}
use Rattle.ipx_router.specs.Why.{why}
use Rattle.ipx_router.specs.declared.why.Why.{Why}
use Rattle.ipx_router.proofs.verdicts.FoundIsDefined.{why_read, verdict_found}
use Rattle.ipx_router.proofs.judging.judge.judge.Goals as goal

pub returns-in-Ok-clause-refused : goal.returns-in-Ok-clause-refused
returns-in-Ok-clause-refused g c =
    let routes = offers c.args.routes.now.records in
    let runs : c.args.running ≡ true = c.if-not-running.false in
    let read = why_read c.args.ports.now c.args.up.now routes c.args.number c.args.bytes.now c.in-Ok.packet (sym c.read.ensures.value ∙ c.in-Ok.is) routes in
    subst (λ (o : Option Why). IfErr c.judge_packet.result (λ reason. o ≡ Some reason))
    (sym (ap (λ (b : Bool). why c.args.ports.now c.args.up.now routes b c.args.number c.args.bytes.now) runs ∙ read)) c.judge_packet.ensures.refused

pub returns-in-Ok-clause-verdict : goal.returns-in-Ok-clause-verdict
returns-in-Ok-clause-verdict g c =
    let routes = offers c.args.routes.now.records in
    let runs : c.args.running ≡ true = c.if-not-running.false in
    subst (λ (b : Bool). IfOk c.judge_packet.result (IsVerdict c.args.ports.now c.args.up.now routes b c.args.number c.args.bytes.now))
    (sym runs)
    (verdict_found c.args.ports.now c.args.up.now routes c.args.number c.args.bytes.now c.in-Ok.packet
    (sym c.read.ensures.value ∙ c.in-Ok.is) c.judge_packet.result c.judge_packet.ensures.cleared c.judge_packet.ensures.found)
