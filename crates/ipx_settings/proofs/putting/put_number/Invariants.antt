use Rattle.std.proofs.Common.{◌≡◌, ◌+◌, ◌≤◌, ◌++◌, length, drop}
use Rattle.std.specs.Prelude.{decimal}
use Rattle.ipx_settings.proofs.putting.put_number.Given as goal

abbrev pub invariant-loop-left : goal.invariant-loop-left
invariant-loop-left l =
    (decimal l.fn.number ≡ decimal l.left ++ drop (l.first + 1) l.digits) × (length (decimal l.left) ≤ l.first + 1) × (l.first ≤ 9) × (length l.digits ≡ 10)

abbrev pub decreases-loop-left : goal.decreases-loop-left
decreases-loop-left l = l.left
