use Rattle.std.proofs.Common.{◌≡◌, sym, subst, true, Option, None, Some, IfOk, IfErr}
use Rattle.ipx_router.specs.inside.CheckGroups.{GoesAs}
use Rattle.ipx_router.specs.Facts.{offers}
use Rattle.ipx_router.specs.Why.{is_near}
use Rattle.ipx_router.specs.declared.judging.checks.Onward.{Onward}
use Rattle.ipx_router.specs.declared.why.Why.{Why}
use Rattle.ipx_router.proofs.verdicts.FoundIsDefined.{refused_too, near_too}
use Rattle.ipx_router.proofs.judging.judge.judge_on_port.Goals as goal

pub returns-in-Ok-None-clause-refused : goal.returns-in-Ok-None-clause-refused
returns-in-Ok-None-clause-refused g c =
    let routes = offers c.args.routes.now.records in
    let port = c.args.port.now in
    let p = c.args.packet in
    let near : is_near port p.header ≡ true = subst (λ (o : Option Onward). GoesAs c.args.ports.now c.args.up.now routes port p o) c.in-Ok-None.field-0-is c.in-Ok-None.ensures.onward in
    subst (λ (o : Option Why). IfErr c.judge_near.result (λ reason. o ≡ Some reason))
    (sym (near_too c.args.ports.now c.args.up.now routes port p near c.in-Ok-None.ensures.cleared)) c.judge_near.ensures.refused

pub returns-in-Ok-None-clause-cleared : goal.returns-in-Ok-None-clause-cleared
returns-in-Ok-None-clause-cleared g c =
    let routes = offers c.args.routes.now.records in
    let port = c.args.port.now in
    let p = c.args.packet in
    let near : is_near port p.header ≡ true = subst (λ (o : Option Onward). GoesAs c.args.ports.now c.args.up.now routes port p o) c.in-Ok-None.field-0-is c.in-Ok-None.ensures.onward in
    subst (λ (o : Option Why). IfOk c.judge_near.result (λ verdict. o ≡ None))
    (sym (near_too c.args.ports.now c.args.up.now routes port p near c.in-Ok-None.ensures.cleared)) c.judge_near.ensures.cleared

pub returns-in-Err-clause-refused : goal.returns-in-Err-clause-refused
returns-in-Err-clause-refused g c =
    refused_too c.args.ports.now c.args.up.now (offers c.args.routes.now.records) c.args.port.now c.args.packet c.in-Err.why c.in-Err.ensures.refused
