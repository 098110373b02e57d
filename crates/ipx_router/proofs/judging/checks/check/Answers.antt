use Rattle.std.proofs.Common.{arith, ◌∙◌, sym, ap}
use Rattle.std.proofs.lemmas.Result.{err_from_is_err_and}
use Rattle.ipx_router.specs.inside.CheckGroups.{source_checks, propagated_checks, far_checks}
use Rattle.ipx_router.specs.Facts.{offers}
use Rattle.ipx_router.specs.Port.{is_local}
use Rattle.ipx_router.specs.Why.{first_of, is_propagated}
use Rattle.ipx_router.proofs.verdicts.ChecksOfEachKind.{first_front, first_behind, when_propagated, when_far, is_far-parts}
use Rattle.ipx_router.proofs.judging.checks.check.Goals as goal

pub returns-in-Some-clause-refused : goal.returns-in-Some-clause-refused
returns-in-Some-clause-refused g c =
    first_front (source_checks c.args.port.now c.args.packet.now.header) _ c.in-Some.why
    (ap (λ h. first_of (source_checks c.args.port.now h)) (sym c.header-header.ensures) ∙ sym c.source_why.ensures ∙ c.in-Some.is)

pub returns-in_err-networks_crossed-clause-refused :
    goal.returns-in_err-networks_crossed-clause-refused
returns-in_err-networks_crossed-clause-refused g c =
    let p = err_from_is_err_and c.from_residual.result c.from_residual.ensures.1 in
    rw (p.1, p.2)
    (when_propagated c.args.ports.now c.args.up.now (offers c.args.routes.now.records) c.args.port.now c.args.packet.now
    (ap is_propagated (sym c.header-header.ensures) ∙ sym c.is_propagated.ensures ∙ c.if-is_propagated.true)
    ∙ first_behind (source_checks c.args.port.now c.args.packet.now.header) (propagated_checks c.args.port.now c.args.packet.now)
    (ap (λ h. first_of (source_checks c.args.port.now h)) (sym c.header-header.ensures) ∙ sym c.source_why.ensures ∙ c.in_default.is)
    ∙ c.in_err-networks_crossed.ensures.refused)

pub returns-in_err-port-clause-refused : goal.returns-in_err-port-clause-refused
returns-in_err-port-clause-refused g c =
    let p = err_from_is_err_and c.from_residual-in_err-port.result c.from_residual-in_err-port.ensures.1 in
    rw (p.1, p.2)
    (when_far c.args.ports.now c.args.up.now (offers c.args.routes.now.records) c.args.port.now c.args.packet.now
    (is_far-parts c.args.port.now c.args.packet.now.header
    (ap is_propagated (sym c.header-header.ensures) ∙ sym c.is_propagated.ensures ∙ c.if-is_propagated.false)
    (ap (λ h. is_local c.args.port.now h.destination.network) (sym c.header-header.ensures) ∙ sym c.is_local.ensures ∙ c.if-not-is_local.true))
    ∙ first_behind (source_checks c.args.port.now c.args.packet.now.header) (far_checks c.args.ports.now c.args.up.now (offers c.args.routes.now.records) c.args.packet.now.header)
    (ap (λ h. first_of (source_checks c.args.port.now h)) (sym c.header-header.ensures) ∙ sym c.source_why.ensures ∙ c.in_default.is)
    ∙ ap (λ h. first_of (far_checks c.args.ports.now c.args.up.now (offers c.args.routes.now.records) h)) (sym c.header-header.ensures) ∙ c.in_err-port.ensures.refused)

pub returns-in_err-networks_crossed-clause-cleared : goal.returns-in_err-networks_crossed-clause-cleared
returns-in_err-networks_crossed-clause-cleared g c = grind arith

pub returns-in_err-networks_crossed-clause-onward : goal.returns-in_err-networks_crossed-clause-onward
returns-in_err-networks_crossed-clause-onward g c = grind arith

pub returns-then-is_propagated-clause-cleared : goal.returns-then-is_propagated-clause-cleared
returns-then-is_propagated-clause-cleared g c = grind arith

pub returns-then-is_propagated-clause-onward : goal.returns-then-is_propagated-clause-onward
returns-then-is_propagated-clause-onward g c = grind arith

pub way_of-requires : goal.way_of-requires
way_of-requires g c = search

pub returns-in_err-port-clause-cleared : goal.returns-in_err-port-clause-cleared
returns-in_err-port-clause-cleared g c = grind arith

pub returns-in_err-port-clause-onward : goal.returns-in_err-port-clause-onward
returns-in_err-port-clause-onward g c = grind arith

pub returns-then-not-is_local-clause-cleared : goal.returns-then-not-is_local-clause-cleared
returns-then-not-is_local-clause-cleared g c = grind arith

pub returns-then-not-is_local-clause-onward : goal.returns-then-not-is_local-clause-onward
returns-then-not-is_local-clause-onward g c = grind arith

pub returns-then-is_for_other-clause-refused : goal.returns-then-is_for_other-clause-refused
returns-then-is_for_other-clause-refused g c = grind arith

pub returns-clause-cleared : goal.returns-clause-cleared
returns-clause-cleared g c = grind arith

pub returns-clause-onward : goal.returns-clause-onward
returns-clause-onward g c = grind arith
