use Rattle.std.proofs.Common.{◌≡◌, ◌≤◌, ◌+◌, ◌*◌, ◌++◌, take, length}
use Rattle.std.specs.List.{flat_map}
use Rattle.ipx_cmd.specs.CrossedText.{network_after}
use Rattle.ipx_cmd.proofs.show.crossed_line.put_networks.Given as goal

abbrev pub invariant-loop-place : goal.invariant-loop-place
invariant-loop-place l =
    (l.draft ≡ l.initial.draft ++ flat_map network_after (take l.place l.crossed)) × (length l.draft ≤ length l.initial.draft + 9 * l.place)
