use Rattle.std.proofs.Common.{◌∙◌, refl, sym, ap, subst, map, List, []}
use Rattle.ipx_router.specs.Facts.{offers}
use Rattle.ipx_router.specs.Outbox.{Appends}
use Rattle.ipx_router.specs.Relays.{Sent}
use Rattle.ipx_router.specs.Sends.{sap_broadcast}
use Rattle.ipx_router.specs.Services.{service_order}
use Rattle.ipx_router.specs.inside.Touched.{Touches, change_of}
use Rattle.ipx_router.specs.declared.service_offer.ServiceOffer.{ServiceOffer}
use Rattle.ipx_router.proofs.changes.ListedForEachPort.{no_items, no_service_change, service_news}
use Rattle.ipx_router.proofs.changes.RenewedInPlace.{none_touched}
use Rattle.ipx_router.proofs.ended.SentIsOfEnded.{none_each}
use Rattle.ipx_router.proofs.sending.OneAfterAnother.{appends_none}
use Rattle.ipx_router.proofs.learning.responses.learn_services.Goals as goal

pub returns-clause-sent : goal.returns-clause-sent
returns-clause-sent g c = λ routes.
    let before = offers c.args.table.now.records in
    let after = offers c.offer_services.new.table.records in
    let touches = subst (λ (os : List ServiceOffer). Touches (λ s. (s.service.kind, s.service.name)) service_order os after c.offer_services.new.touched.items)
    c.renew_services-renewed.ensures.offers c.offer_services.ensures.touches in
    let changed = ap (map change_of) c.deref.ensures.0 ∙ c.keep_changed_services.ensures before after touches in
    subst (λ (ps : List Sent). Appends c.args.outbox.now c.advertise_service_changes.new.outbox ps)
    (service_news c.args.ports.now c.args.up.now routes before after (map change_of c.deref.result.now) changed) c.advertise_service_changes.ensures

-- nothing was touched
pub returns-then-is_empty-clause-sent : goal.returns-then-is_empty-clause-sent
returns-then-is_empty-clause-sent g c = λ routes.
    let a = c.args in
    let before = offers a.table.now.records in
    let after = offers c.offer_services.new.table.records in
    let touches = subst (λ (os : List ServiceOffer). Touches (λ s. (s.service.kind, s.service.name)) service_order os after c.offer_services.new.touched.items)
    c.renew_services-renewed.ensures.offers c.offer_services.ensures.touches in
    let none = no_items c.offer_services.new.touched.items c.is_empty.ensures c.if-is_empty.true in
    subst (Appends a.outbox.now a.outbox.now)
    (sym (none_each (λ j. sap_broadcast a.ports.now j []) (λ j. refl) a.up.now)
    ∙ service_news a.ports.now a.up.now routes before after [] (no_service_change before after c.offer_services.new.touched.items none touches))
    (appends_none a.outbox.now)

-- nothing but ages changed
pub returns-then-renewed-len-clause-sent : goal.returns-then-renewed-len-clause-sent
returns-then-renewed-len-clause-sent g c = λ routes.
    let a = c.args in
    let before = offers a.table.now.records in
    let after = offers c.renew_services-renewed.new.table.records in
    subst (Appends a.outbox.now a.outbox.now)
    (sym (none_each (λ j. sap_broadcast a.ports.now j []) (λ j. refl) a.up.now)
    ∙ service_news a.ports.now a.up.now routes before after [] (no_service_change before after [] refl
    (none_touched (λ s. (s.service.kind, s.service.name)) service_order before after c.renew_services-renewed.ensures.offers)))
    (appends_none a.outbox.now)
