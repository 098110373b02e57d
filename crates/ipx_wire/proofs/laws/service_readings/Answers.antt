use Rattle.std.proofs.lemmas.Result.{IfOk-at_ok, IfErr-at_err}
use Rattle.ipx_wire.specs.Sap.{IsSap, IsNoSap}
use Rattle.ipx_wire.proofs.Saps.{sap_found, sap_refused, sap_fault, sap_only, one_sap}
use Rattle.ipx_wire.proofs.laws.service_readings.Goals as goal

pub returns-clause-sap_read : goal.returns-clause-sap_read
returns-clause-sap_read c = λ payload s are. (λ e. IfOk-at_ok (IsSap payload) e (sap_found payload are), λ is. sap_only payload s is)

pub returns-clause-sap_refused : goal.returns-clause-sap_refused
returns-clause-sap_refused c = λ payload f. (λ e. IfErr-at_err (IsNoSap payload) e (sap_refused payload), λ is. sap_fault payload f is)

pub returns-clause-one_sap : goal.returns-clause-one_sap
returns-clause-one_sap c = one_sap
