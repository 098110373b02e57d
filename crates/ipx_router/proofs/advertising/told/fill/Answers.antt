use Rattle.std.proofs.Common.{sym, ap, ◌∙◌, List, ◌++◌, take}
use Rattle.std.specs.List.{flat_map}
use Rattle.ipx_wire.specs.declared.rip.RipEntry.{RipEntry}
use Rattle.ipx_router.specs.inside.Selection.{selected_by}
use Rattle.ipx_router.specs.declared.advertising.selection.Selection.{Selection}
use Rattle.ipx_router.proofs.telling.SentOfTold.{selected_all}
use Rattle.ipx_router.proofs.advertising.told.fill.Goals as goal

pub returns-in-All-clause-entries : goal.returns-in-All-clause-entries
returns-in-All-clause-entries c =
    ap (λ (s : Selection). flat_map (selected_by s) c.args.routes.now) c.in-All.is
    ∙ selected_all c.args.routes.now
    ∙ c.fill.ensures.entries
    ∙ ap (λ (es : List RipEntry). take c.fill.result c.fill.new.page ++ es) (sym (selected_all c.fill.new.self))
    ∙ ap (λ (s : Selection). take c.fill.result c.fill.new.page ++ flat_map (selected_by s) c.fill.new.self) (sym c.in-All.is)
