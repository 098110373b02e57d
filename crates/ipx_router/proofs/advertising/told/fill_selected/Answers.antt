use Rattle.std.proofs.Common.{sym, ap, ◌∙◌, List, ◌++◌, take, arith}
use Rattle.std.proofs.lemmas.List.{length-set}
use Rattle.std.specs.List.{flat_map}
use Rattle.std.specs.Option.{option_to_list}
use Rattle.ipx_wire.specs.declared.rip.RipEntry.{RipEntry}
use Rattle.ipx_router.specs.inside.Selection.{selected_by}
use Rattle.ipx_router.proofs.sending.PagesFilledFirst.{one_filled, none_filled}
use Rattle.ipx_router.proofs.advertising.told.fill_selected.Goals as goal

pub returns-in_default-clause-entries : goal.returns-in_default-clause-entries
returns-in_default-clause-entries c =
    c.loop-count.invariant.4
    ∙ ap (λ (l : List RipEntry). take c.loop-count.count c.loop-count.page ++ flat_map (selected_by c.args.selection) l)
    (c.in_default.ensures.steps.0 ∙ sym c.in_default.ensures.steps.1)

pub loop-count-preserved-in-Some-select : goal.loop-count-preserved-in-Some-select
loop-count-preserved-in-Some-select c = (
  tt,
  tt,
  omega (arith, c.loop-count-test.true),
  length-set c.loop-count.page c.loop-count.count c.in-Some-select.entry ∙ c.loop-count.invariant.3,
  one_filled (selected_by c.args.selection) c.loop-count.page c.loop-count.count c.args.routes.now c.loop-count.routes c.next.new.self c.in-Some.entry c.in-Some.ensures.steps
      c.loop-count.invariant.4 c.in-Some-select.entry c.in-Some-select.ensures (omega (arith, c.loop-count-test.true, c.loop-count.invariant.3)),
)

pub loop-count-preserved : goal.loop-count-preserved
loop-count-preserved c = (
  tt,
  tt,
  c.loop-count.invariant.2,
  c.loop-count.invariant.3,
  none_filled (selected_by c.args.selection) c.loop-count.page c.loop-count.count c.args.routes.now c.loop-count.routes c.next.new.self c.in-Some.entry c.in-Some.ensures.steps
      c.loop-count.invariant.4 (ap option_to_list (sym c.in_default-select.is) ∙ c.select.ensures),
)
