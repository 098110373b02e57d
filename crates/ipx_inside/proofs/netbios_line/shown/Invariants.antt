use Rattle.std.proofs.Common.{◌≡◌, ◌≤◌, ◌+◌}
use Rattle.ipx_inside.specs.NetBiosText.{shown}
use Rattle.ipx_inside.proofs.netbios_line.shown.Given as goal

abbrev pub invariant-loop-place : goal.invariant-loop-place
invariant-loop-place l =
    (l.end ≡ shown l.name l.place) × (l.end ≤ l.place + 1)
