use Rattle.std.proofs.Common.{◌≡◌, ◌≤◌, ◌++◌, take, length}
use Rattle.std.specs.List.{flat_map}
use Rattle.ipx_router.specs.Numbers.{entries_a_page}
use Rattle.ipx_router.specs.inside.Selection.{selected_by}
use Rattle.ipx_router.proofs.advertising.told.fill_selected.Given as goal

abbrev pub invariant-loop-count : goal.invariant-loop-count
invariant-loop-count l =
    ((goal.iterator-loop-count).can_next l.routes)
    × ((goal.iterator-loop-count).is_finite l.routes)
    × (l.count ≤ entries_a_page)
    × (length l.page ≡ entries_a_page)
    × (flat_map (selected_by l.selection) l.initial.routes ≡ take l.count l.page ++ flat_map (selected_by l.selection) l.routes)
