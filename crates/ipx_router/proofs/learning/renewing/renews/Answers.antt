use Rattle.std.proofs.Common.{◌∙◌, sym, ap, [], ◌∷◌, slice_get}
use Rattle.ipx_table.specs.Reading.{rules_of}
use Rattle.ipx_wire.specs.SapEntries.{sap_entry_at}
use Rattle.ipx_router.specs.Facts.{services_offered}
use Rattle.ipx_router.specs.Services.{service_order, service_reading}
use Rattle.ipx_router.proofs.changes.RenewedInPlace.{renewed_as}
use Rattle.ipx_router.proofs.learning.renewing.renews.Goals as goal

pub returns-then-is_known-clause-stands : goal.returns-then-is_known-clause-stands
returns-then-is_known-clause-stands g c = λ yes.
    let (known, at, says) = c.is_known.ensures c.if-is_known.true in
    renewed_as (rules_of service_reading service_order g.row.S c.args.table.now.shares) c.args.table.now.records c.renew_at.new.self.records
    c.place_of-place.result known (services_offered c.args.number c.args.node (sap_entry_at c.args.bytes.now ∷ []))
    (ap (λ os. slice_get os c.place_of-place.result) (sym c.offers-2.ensures.value) ∙ at) says c.renew_at.ensures.stands
