use Rattle.std.proofs.Common.{sym, ap, subst, ℕ}
use Rattle.std.specs.List.{flat_map}
use Rattle.ipx_router.specs.Facts.{offers}
use Rattle.ipx_router.specs.Numbers.{entries_a_page}
use Rattle.ipx_router.specs.Outbox.{Fits, Appends}
use Rattle.ipx_router.specs.inside.Envelope.{entries_in}
use Rattle.ipx_router.specs.inside.Selection.{selected_by}
use Rattle.ipx_router.specs.Told.{told}
use Rattle.ipx_router.specs.declared.advertising.envelope.Envelope.{Envelope}
use Rattle.ipx_router.specs.declared.advertising.selection.Selection.TheVariants.{All}
use Rattle.ipx_router.proofs.sending.PortByPort.{in_envelope}
use Rattle.ipx_router.proofs.telling.SentOfTold.{selected_all}
use Rattle.ipx_router.proofs.advertising.broadcasts.broadcast_routes.Goals as goal

pub send_routes-requires : goal.send_routes-requires
send_routes-requires g c =
    let port = ap (λ (e : Envelope). e.port) c.routes_to_all-envelope.ensures in
    let room = subst (Fits c.args.outbox.now)
    (sym (in_envelope entries_a_page entries_in (λ (j : ℕ). flat_map (selected_by All) (told c.args.ports.now c.args.up.now (offers c.args.routes.now.records) j)) c.routes_to_all-envelope.ensures
    (selected_all (told c.args.ports.now c.args.up.now (offers c.args.routes.now.records) c.args.number))))
    c.requires.room in
    search (port, room)

pub returns : goal.returns
returns g c =
    subst (Appends c.args.outbox.now c.send_routes.new.outbox)
    (in_envelope entries_a_page entries_in (λ (j : ℕ). flat_map (selected_by All) (told c.args.ports.now c.args.up.now (offers c.args.routes.now.records) j)) c.routes_to_all-envelope.ensures
    (selected_all (told c.args.ports.now c.args.up.now (offers c.args.routes.now.records) c.args.number)))
    c.send_routes.ensures
