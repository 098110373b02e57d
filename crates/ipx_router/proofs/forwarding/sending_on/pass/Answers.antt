use Rattle.std.proofs.Common.{◌∙◌, sym, ap}
use Rattle.std.proofs.lemmas.Result.{err_from_is_err_and}
use Rattle.ipx_router.specs.Checks.{relay_checks}
use Rattle.ipx_router.specs.Facts.{offers}
use Rattle.ipx_router.specs.Why.{first_of}
use Rattle.ipx_router.proofs.relays.AskedFits.{relay_refused, relay_up, relay_down}
use Rattle.ipx_router.proofs.forwarding.sending_on.pass.Goals as goal

pub returns-in_err-onward-clause-refused : goal.returns-in_err-onward-clause-refused
returns-in_err-onward-clause-refused g c =
    let routes = offers c.args.routes.now.records in
    let p = err_from_is_err_and c.from_residual.result c.from_residual.ensures.1 in
    rw (p.1, p.2)
    (relay_refused c.args.ports.now c.args.up.now routes c.args.number c.args.packet.now _
    (ap (λ q. first_of (relay_checks c.args.ports.now c.args.up.now routes q c.args.packet.now)) (sym c.port_of.ensures) ∙ c.in_err-onward.ensures.refused))

pub returns-then-is_up-clause-cleared : goal.returns-then-is_up-clause-cleared
returns-then-is_up-clause-cleared g c =
    let routes = offers c.args.routes.now.records in
    relay_up c.args.ports.now c.args.up.now routes c.args.number c.args.packet.now (sym c.is_up.ensures ∙ c.if-is_up.true)
    (ap (λ q. first_of (relay_checks c.args.ports.now c.args.up.now routes q c.args.packet.now)) (sym c.port_of.ensures) ∙ c.in_ok-onward.ensures.cleared)

pub returns-else-is_up-clause-refused : goal.returns-else-is_up-clause-refused
returns-else-is_up-clause-refused g c =
    let routes = offers c.args.routes.now.records in
    relay_down c.args.ports.now c.args.up.now routes c.args.number c.args.packet.now (sym c.is_up.ensures ∙ c.if-is_up.false)
    (ap (λ q. first_of (relay_checks c.args.ports.now c.args.up.now routes q c.args.packet.now)) (sym c.port_of.ensures) ∙ c.in_ok-onward.ensures.cleared)
