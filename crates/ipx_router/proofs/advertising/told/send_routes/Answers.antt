use Rattle.std.proofs.Common.{sym, ap, ◌∙◌, List, [], ◌++◌, arith}
use Rattle.std.specs.List.{flat_map}
use Rattle.ipx_wire.specs.declared.rip.RipEntry.{RipEntry}
use Rattle.ipx_router.specs.Facts.{offers}
use Rattle.ipx_router.specs.Numbers.{entries_a_page}
use Rattle.ipx_router.specs.Port.{Port}
use Rattle.ipx_router.specs.inside.Envelope.{entries_in}
use Rattle.ipx_router.specs.inside.Owed.{owed}
use Rattle.ipx_router.specs.inside.Selection.{selected_by}
use Rattle.ipx_router.specs.Told.{told}
use Rattle.ipx_router.proofs.sending.PagesFilledFirst.{filled_fits, filled_pays}
use Rattle.ipx_router.proofs.sending.OneAfterAnother.{pays_same}
use Rattle.ipx_router.proofs.telling.NetworksAmongRoutes.{told_placed}
use Rattle.ipx_router.proofs.advertising.told.send_routes.Goals as goal

pub loop-count-init : goal.loop-count-init
loop-count-init g c =
    let a = c.args in
    let routes = offers a.table.now.records in
    let whole =
    c.new-routes.ensures
    ∙ told_placed c.cost-cost.result a.ports.now a.up.now routes a.envelope.port c.deref.result.now
    (c.cost-cost.ensures ∙ ap (λ (p : Port). p.cost) c.port_of.ensures) (c.deref.ensures.0 ∙ c.list_direct.ensures)
    in (
      pays_same a.outbox.now (ap (λ (es : List RipEntry). owed entries_a_page (entries_in a.envelope) [] (flat_map (selected_by a.selection) es)) (sym whole)),
      omega arith,
      λ less. absurd (omega (arith, less)),
      omega arith,
    )

pub send_filled-requires-clause-room : goal.send_filled-requires-clause-room
send_filled-requires-clause-room g c =
    let a = c.args in
    filled_fits entries_a_page (entries_in a.envelope) (omega arith)
    (flat_map (selected_by a.selection) (told a.ports.now a.up.now (offers a.table.now.records) a.envelope.port))
    (flat_map (selected_by a.selection) c.loop-count.routes) c.split_at.result.0.now (flat_map (selected_by a.selection) c.fill-count.new.routes)
    (c.fill-count.ensures.entries ∙ ap (λ (page : List RipEntry). page ++ flat_map (selected_by a.selection) c.fill-count.new.routes) (sym c.split_at.ensures.front))
    (omega (arith, c.split_at.ensures.front_len, c.fill-count.ensures.few))
    (λ less. c.fill-count.ensures.last (omega (arith, c.split_at.ensures.front_len, less)))
    c.loop-count.invariant.0 c.requires.room

pub loop-count-preserved : goal.loop-count-preserved
loop-count-preserved g c =
    let a = c.args in (
      filled_pays entries_a_page (entries_in a.envelope) (omega arith)
          (flat_map (selected_by a.selection) (told a.ports.now a.up.now (offers a.table.now.records) a.envelope.port))
          (flat_map (selected_by a.selection) c.loop-count.routes) c.split_at.result.0.now (flat_map (selected_by a.selection) c.fill-count.new.routes)
          (c.fill-count.ensures.entries ∙ ap (λ (page : List RipEntry). page ++ flat_map (selected_by a.selection) c.fill-count.new.routes) (sym c.split_at.ensures.front))
          (omega (arith, c.split_at.ensures.front_len, c.fill-count.ensures.few))
          (λ less. c.fill-count.ensures.last (omega (arith, c.split_at.ensures.front_len, less)))
          c.loop-count.invariant.0 c.send_filled.ensures,
      c.fill-count.ensures.few,
      c.fill-count.ensures.last,
      c.fill-count.array_long,
    )
