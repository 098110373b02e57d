use Rattle.std.proofs.Common.{◌≡◌, ◌+◌, ◌*◌, ◌≤◌, ◌++◌, length, take, flat_map}
use Rattle.std.specs.Prelude.{codes}
use Rattle.std.specs.Net.Text.{hex}
use Rattle.ipx_settings.proofs.writing_hosts.put_groups.Given as goal

abbrev pub invariant-loop-group : goal.invariant-loop-group
invariant-loop-group l =
    (take l.end l.room ≡ take l.initial.end l.initial.room ++ flat_map (λ g. codes ":" ++ hex g) (take l.group-index l.rest))
    × (l.end ≤ l.initial.end + 5 * l.group-index) × (length l.room ≡ length l.initial.room)
