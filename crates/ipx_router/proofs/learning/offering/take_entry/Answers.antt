use Rattle.std.proofs.Common.{◌∙◌, sym, ap, subst, List}
use Rattle.ipx_router.specs.Facts.{offers}
use Rattle.ipx_router.specs.Services.{service_order}
use Rattle.ipx_router.specs.inside.Touched.{Touches}
use Rattle.ipx_router.specs.declared.service_offer.ServiceOffer.{ServiceOffer}
use Rattle.ipx_router.proofs.learning.offering.take_entry.Goals as goal
use Rattle.ipx_router.proofs.learning.offering.take_entry.Goals.{else-may_be_known-via-then-may_be_known+else-renews, else-may_be_known-via-else-may_be_known}

pub returns-clause-touches : goal.returns-clause-touches
returns-clause-touches g c = λ before old.
    c.offer_service.ensures.touches before
    (elim c.else-may_be_known.branch [
      | else-may_be_known-via-then-may_be_known+else-renews w ↦
          subst (λ (os : List ServiceOffer). Touches (λ s. (s.service.kind, s.service.name)) service_order before os c.args.touched.now.items)
          (sym (ap (λ table. offers table.records) w.table-is ∙ w.renews.ensures.offers)) old
      | else-may_be_known-via-else-may_be_known w ↦
          subst (λ (os : List ServiceOffer). Touches (λ s. (s.service.kind, s.service.name)) service_order before os c.args.touched.now.items)
          (sym (ap (λ table. offers table.records) w.table-is)) old
    ])
