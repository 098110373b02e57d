use Rattle.std.proofs.Common.{◌∙◌, refl, sym, ap, subst, length, map, List, [], arith}
use Rattle.std.proofs.lemmas.List.{length-map}
use Rattle.std.specs.List.{flat_map}
use Rattle.ipx_router.specs.News.{service_told}
use Rattle.ipx_router.specs.Numbers.{most_own_length}
use Rattle.ipx_router.specs.Outbox.{Appends}
use Rattle.ipx_router.specs.Sends.{sap_broadcast}
use Rattle.ipx_router.specs.inside.Putting.{no_port}
use Rattle.ipx_router.specs.inside.Touched.{change_of}
use Rattle.ipx_router.specs.declared.learning.touched.Touched.{Touched}
use Rattle.ipx_router.specs.declared.service_offer.ServiceOffer.{ServiceOffer}
use Rattle.ipx_router.proofs.changes.ListedForEachPort.{no_items, room_next, sent_next}
use Rattle.ipx_router.proofs.ended.SentIsOfEnded.{none_each}
use Rattle.ipx_router.proofs.sending.OneAfterAnother.{appends_none}
use Rattle.ipx_router.proofs.sending.PageOfServices.{page_of}
use Rattle.ipx_router.proofs.sending.RoomForServices.{told_few}
use Rattle.ipx_router.proofs.learning.news.advertise_service_changes.Goals as goal

pub broadcast_service_changes-requires-clause-page : goal.broadcast_service_changes-requires-clause-page
broadcast_service_changes-requires-clause-page c =
    let changes = c.args.changes.now in
    let put = c.put_changes-count.ensures in
    page_of put.puts (omega (arith, told_few no_port (map change_of changes), length-map changes change_of, c.requires.few)) put.few
    (λ less. ap (λ (cs : List (Touched ServiceOffer)). flat_map (service_told no_port) (map change_of cs)) (put.last less)) (omega arith)

pub loop-number-preserved : goal.loop-number-preserved
loop-number-preserved c =
    let k = c.loop-number.number-index in
    let n = length c.args.up.now in
    record {
      sent = sent_next (λ j. sap_broadcast c.args.ports.now j (flat_map (service_told j) (map change_of c.args.changes.now))) c.args.up.now k _
          c.loop-number-test.true c.loop-number.invariant.sent c.broadcast_service_changes.ensures.sent;
      room = c.broadcast_service_changes.ensures.left _ _ (room_next n k most_own_length c.loop-number-test.true c.loop-number.invariant.room);
    }

pub returns-then-is_empty : goal.returns-then-is_empty
returns-then-is_empty c =
    let a = c.args in
    subst (Appends a.outbox.now a.outbox.now)
    (sym (ap (λ cs. flat_map (λ j. sap_broadcast a.ports.now j (flat_map (service_told j) (map change_of cs))) a.up.now) (no_items a.changes.now c.is_empty.ensures c.if-is_empty.true)
    ∙ none_each (λ j. sap_broadcast a.ports.now j []) (λ j. refl) a.up.now))
    (appends_none a.outbox.now)
