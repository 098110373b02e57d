use Rattle.std.proofs.Common.{rules, ◌∙◌, sym, ap, subst, map, List, [], ◌∷◌, ◌≤◌, length, arith}
use Rattle.ipx_wire.specs.declared.rip.RipEntry.{RipEntry}
use Rattle.ipx_router.specs.Numbers.{entries_a_page}
use Rattle.ipx_router.specs.Outbox.{Appends}
use Rattle.ipx_router.specs.inside.Envelope.{entries_in, routes_to_all}
use Rattle.ipx_router.specs.Relays.{Sent}
use Rattle.ipx_router.specs.declared.advertising.envelope.Envelope.{Envelope}
use Rattle.ipx_router.proofs.changes.ListedForEachPort.{one_page}
use Rattle.ipx_router.proofs.learning.news.broadcast_page.Goals as goal

pub returns-clause-sent : goal.returns-clause-sent
returns-clause-sent c =
    let ports = c.args.ports.now in
    let number = c.args.number in
    let page = c.args.page.now.items in
    let most : length c.deref-2.result.now ≤ entries_a_page = c.deref-2.ensures.1 in
    let few : length page ≤ entries_a_page = omega (arith, ap length c.deref-2.ensures.0, most) in
    let some : 1 ≤ length page = search rules in
    let packets = ap (λ (e : Envelope). entries_in e c.deref-2.result.now ∷ []) c.routes_to_all-envelope.ensures
    ∙ ap (λ (p : List RipEntry). entries_in (routes_to_all ports number) p ∷ []) c.deref-2.ensures.0
    ∙ sym (ap (map (entries_in (routes_to_all ports number))) (one_page entries_a_page page few some)) in
    subst (λ (ps : List Sent). Appends c.args.outbox.now c.send_page.new.outbox ps) packets c.send_page.ensures
