use Rattle.std.proofs.Common.{◌∙◌, refl, sym, ap, subst, map, List, []}
use Rattle.ipx_router.specs.Facts.{offers}
use Rattle.ipx_router.specs.Outbox.{Appends}
use Rattle.ipx_router.specs.Relays.{Sent}
use Rattle.ipx_router.specs.Sends.{rip_broadcast}
use Rattle.ipx_router.specs.inside.Touched.{change_of}
use Rattle.ipx_router.proofs.changes.ListedForEachPort.{no_items, no_route_change, route_news}
use Rattle.ipx_router.proofs.ended.SentIsOfEnded.{none_each}
use Rattle.ipx_router.proofs.sending.OneAfterAnother.{appends_none}
use Rattle.ipx_router.proofs.learning.responses.learn_routes.Goals as goal

pub returns-clause-sent : goal.returns-clause-sent
returns-clause-sent g c = λ services.
    let before = offers c.args.table.now.records in
    let after = offers c.offer_routes-touched.new.table.records in
    let changed = ap (map change_of) c.deref.ensures.0 ∙ c.keep_changed_routes.ensures before after c.offer_routes-touched.ensures.touches in
    subst (λ (ps : List Sent). Appends c.args.outbox.now c.advertise_route_changes.new.outbox ps)
    (route_news c.args.ports.now c.args.up.now before after services (map change_of c.deref.result.now) changed) c.advertise_route_changes.ensures

-- nothing was touched
pub returns-then-is_empty-clause-sent : goal.returns-then-is_empty-clause-sent
returns-then-is_empty-clause-sent g c = λ services.
    let a = c.args in
    let before = offers a.table.now.records in
    let after = offers c.offer_routes-touched.new.table.records in
    let none = no_items c.offer_routes-touched.result.items c.is_empty.ensures c.if-is_empty.true in
    subst (Appends a.outbox.now a.outbox.now)
    (sym (none_each (λ j. rip_broadcast a.ports.now j []) (λ j. refl) a.up.now)
    ∙ route_news a.ports.now a.up.now before after services [] (no_route_change before after c.offer_routes-touched.result.items none c.offer_routes-touched.ensures.touches))
    (appends_none a.outbox.now)
