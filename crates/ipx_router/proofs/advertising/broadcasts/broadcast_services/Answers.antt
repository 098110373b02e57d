use Rattle.std.proofs.Common.{false, sym, ap, subst, ℕ}
use Rattle.std.specs.List.{flat_map}
use Rattle.ipx_router.specs.Facts.{offers}
use Rattle.ipx_router.specs.Numbers.{services_a_page}
use Rattle.ipx_router.specs.Outbox.{Fits, Appends}
use Rattle.ipx_router.specs.inside.Envelope.{services_in}
use Rattle.ipx_router.specs.inside.Selection.{service_selected_by}
use Rattle.ipx_router.specs.Told.{told_services}
use Rattle.ipx_router.specs.declared.advertising.envelope.Envelope.{Envelope}
use Rattle.ipx_router.specs.declared.advertising.selection.ServiceSelection.TheVariants.{All}
use Rattle.ipx_router.proofs.sending.PortByPort.{in_envelope}
use Rattle.ipx_router.proofs.telling.SentOfTold.{services_selected_all}
use Rattle.ipx_router.proofs.advertising.broadcasts.broadcast_services.Goals as goal

pub send_services-requires : goal.send_services-requires
send_services-requires g c =
    let port = ap (λ (e : Envelope). e.port) c.services_to_all-envelope.ensures in
    let room = subst (Fits c.args.outbox.now)
    (sym (in_envelope services_a_page (services_in false) (λ (j : ℕ). flat_map (service_selected_by All) (told_services (offers c.args.services.now.records) j)) c.services_to_all-envelope.ensures
    (services_selected_all (told_services (offers c.args.services.now.records) c.args.number))))
    c.requires.room in
    search (port, room)

pub returns : goal.returns
returns g c =
    subst (Appends c.args.outbox.now c.send_services.new.outbox)
    (in_envelope services_a_page (services_in false) (λ (j : ℕ). flat_map (service_selected_by All) (told_services (offers c.args.services.now.records) j)) c.services_to_all-envelope.ensures
    (services_selected_all (told_services (offers c.args.services.now.records) c.args.number)))
    c.send_services.ensures
