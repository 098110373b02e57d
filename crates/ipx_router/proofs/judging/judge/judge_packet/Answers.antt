use Rattle.std.proofs.Common.{◌∙◌, sym, ap, subst}
use Rattle.std.proofs.lemmas.Result.{err_from_is_err_and}
use Rattle.ipx_router.specs.Facts.{offers}
use Rattle.ipx_router.specs.inside.Judged.{IsFound}
use Rattle.ipx_router.specs.Port.{Port}
use Rattle.ipx_router.specs.Why.{checks, first_of}
use Rattle.ipx_router.proofs.verdicts.FoundIsDefined.{refused_there, cleared_up, refused_down}
use Rattle.ipx_router.proofs.judging.judge.judge_packet.Goals as goal

pub returns-in_err-verdict-clause-refused : goal.returns-in_err-verdict-clause-refused
returns-in_err-verdict-clause-refused g c =
    let routes = offers c.args.routes.now.records in
    let p = err_from_is_err_and c.from_residual.result c.from_residual.ensures.1 in
    rw (p.1, p.2)
    (refused_there c.args.ports.now c.args.up.now routes c.args.number c.args.packet _
    (ap (λ q. first_of (checks c.args.ports.now c.args.up.now routes q c.args.packet)) (sym c.port_of.ensures) ∙ c.in_err-verdict.ensures.refused))

pub returns-then-is_up-clause-cleared : goal.returns-then-is_up-clause-cleared
returns-then-is_up-clause-cleared g c =
    let routes = offers c.args.routes.now.records in
    cleared_up c.args.ports.now c.args.up.now routes c.args.number c.args.packet (sym c.is_up.ensures ∙ c.if-is_up.true)
    (ap (λ q. first_of (checks c.args.ports.now c.args.up.now routes q c.args.packet)) (sym c.port_of.ensures) ∙ c.in_ok-verdict.ensures.cleared)

pub returns-then-is_up-clause-found : goal.returns-then-is_up-clause-found
returns-then-is_up-clause-found g c =
    subst (λ (q : Port). IsFound c.args.ports.now c.args.up.now (offers c.args.routes.now.records) q c.args.packet c.in_ok-verdict.verdict)
    c.port_of.ensures c.in_ok-verdict.ensures.found

pub returns-else-is_up-clause-refused : goal.returns-else-is_up-clause-refused
returns-else-is_up-clause-refused g c =
    let routes = offers c.args.routes.now.records in
    refused_down c.args.ports.now c.args.up.now routes c.args.number c.args.packet (sym c.is_up.ensures ∙ c.if-is_up.false)
    (ap (λ q. first_of (checks c.args.ports.now c.args.up.now routes q c.args.packet)) (sym c.port_of.ensures) ∙ c.in_ok-verdict.ensures.cleared)
