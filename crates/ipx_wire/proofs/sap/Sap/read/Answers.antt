use Rattle.std.proofs.Common.{◌≡◌, ◌∙◌, Result, IfOk, IfErr, IsOkAnd, arith, sym, subst, refl}
use Rattle.ipx_wire.specs.Sap.{IsSap, IsNoSap}
use Rattle.ipx_wire.specs.declared.sap.Sap.{Sap}
use Rattle.ipx_wire.specs.declared.sap.SapFault.{SapFault}
use Rattle.ipx_wire.proofs.Saps.{sap_found, sap_refused, sap_only}
use Rattle.ipx_wire.proofs.sap.Sap.read.Goals as goal

pub returns-clause-found : goal.returns-clause-found
returns-clause-found c =
    subst (λ (r : Result Sap SapFault). IfOk r (IsSap c.args.payload.now)) (sym c.of.ensures)
    (sap_found c.args.payload.now (λ i. omega (arith, c.type_inv.payload i)))

pub returns-clause-only : goal.returns-clause-only
returns-clause-only c = λ s is.
    subst (λ (r : Result Sap SapFault). IsOkAnd r (λ q. q ≡ s)) (sym (c.of.ensures ∙ sap_only c.args.payload.now s is)) refl

pub returns-clause-refused : goal.returns-clause-refused
returns-clause-refused c =
    subst (λ (r : Result Sap SapFault). IfErr r (IsNoSap c.args.payload.now)) (sym c.of.ensures) (sap_refused c.args.payload.now)
