use Rattle.std.proofs.Common.{◌≡◌, false, take}
use Rattle.ipx_router.specs.inside.Selection.{is_asked}
use Rattle.ipx_router.proofs.advertising.selection.is_asked.Given as goal

abbrev pub invariant-loop-k : goal.invariant-loop-k
invariant-loop-k l = is_asked (take l.k l.request.entries) l.entry ≡ false
