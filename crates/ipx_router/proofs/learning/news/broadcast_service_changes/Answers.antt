use Rattle.std.proofs.Common.{ℕ, ◌∙◌, sym, ap, subst, map, false, List, [], arith}
use Rattle.std.proofs.lemmas.List.{length-map}
use Rattle.std.specs.List.{flat_map}
use Rattle.ipx_wire.specs.declared.service.Service.{Service}
use Rattle.ipx_router.specs.News.{service_told}
use Rattle.ipx_router.specs.Numbers.{services_a_page}
use Rattle.ipx_router.specs.Outbox.{Appends}
use Rattle.ipx_router.specs.inside.Envelope.{services_in, services_to_all}
use Rattle.ipx_router.specs.inside.Owed.{owed}
use Rattle.ipx_router.specs.inside.Putting.{no_port}
use Rattle.ipx_router.specs.inside.Touched.{change_of}
use Rattle.ipx_router.specs.declared.advertising.envelope.Envelope.{Envelope}
use Rattle.ipx_router.proofs.sending.RoomForServices.{all_sent, told_few}
use Rattle.ipx_router.proofs.learning.news.broadcast_service_changes.Goals as goal

pub returns-then-has_learned-clause-sent : goal.returns-then-has_learned-clause-sent
returns-then-has_learned-clause-sent c =
    let a = c.args in
    let sends = c.append_services.ensures.sends in
    let counted = sends.counted in
    let number = c.from-number.result in
    let all = all_sent sends.whole counted
    (omega (arith, told_few number (map change_of a.changes.now), length-map a.changes.now change_of, c.requires.few)) c.append_services.ensures.last in
    subst (Appends a.outbox.now c.append_services.new.self)
    (ap (λ (e : Envelope). owed services_a_page (services_in false e) [] sends.services) c.services_to_all-envelope.ensures
    ∙ ap (λ (ss : List Service). owed services_a_page (services_in false (services_to_all a.ports.now a.number)) [] ss)
    (sym (ap (λ (n : ℕ). flat_map (service_told n) (map change_of a.changes.now)) (sym c.from-number.ensures) ∙ all)))
    sends.appends

pub returns-else-has_learned-clause-sent : goal.returns-else-has_learned-clause-sent
returns-else-has_learned-clause-sent c =
    let a = c.args in
    let append = c.append_services-else-has_learned in
    let sends = append.ensures.sends in
    let counted = sends.counted in
    let all = all_sent sends.whole counted
    (omega (arith, told_few no_port (map change_of a.changes.now), length-map a.changes.now change_of, c.requires.few)) append.ensures.last in
    subst (Appends a.outbox.now append.new.self)
    (ap (λ (e : Envelope). owed services_a_page (services_in false e) [] sends.services) c.services_to_all-envelope.ensures
    ∙ ap (λ (ss : List Service). owed services_a_page (services_in false (services_to_all a.ports.now a.number)) [] ss)
    (sym (c.has_learned.ensures c.if-has_learned.false ∙ all)))
    sends.appends
