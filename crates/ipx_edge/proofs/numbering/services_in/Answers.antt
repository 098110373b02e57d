use Rattle.std.proofs.Common.{◌∙◌, sym, ap, arith, Ok}
use Rattle.ipx_wire.specs.declared.sap.Sap.{Sap}
use Rattle.ipx_edge.proofs.Advertised.{entries_fit}
use Rattle.ipx_edge.proofs.numbering.services_in.Goals as goal

pub returns-in-Ok-Response-clause-room : goal.returns-in-Ok-Response-clause-room
returns-in-Ok-Response-clause-room c = λ k below.
    let read = sym c.read.ensures.value ∙ c.in-Ok-Response.is ∙ ap (λ (s : Sap). Ok s) c.in-Ok-Response.field-0-is in
    omega (arith, below, c.len.ensures.value, entries_fit c.args.payload.now c.in-Ok-Response.field-0-0 c.in-Ok-Response.entries read)
