use Rattle.std.proofs.Common.{◌≡◌, ◌-◌, ◌≤◌, ◌++◌, length, take}
use Rattle.ipx_router.specs.Numbers.{entries_a_page}
use Rattle.ipx_router.proofs.advertising.told_routes.ToldRoutes.fill.Given as goal

abbrev pub invariant-loop-count : goal.invariant-loop-count
invariant-loop-count l =
    (l.count ≤ entries_a_page)
    × (length l.page ≡ entries_a_page)
    × (l.initial.self ≡ take l.count l.page ++ l.self)

abbrev pub decreases-loop-count : goal.decreases-loop-count
decreases-loop-count l = entries_a_page - l.count
