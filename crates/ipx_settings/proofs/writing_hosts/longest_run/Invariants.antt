use Rattle.std.proofs.Common.{◌≡◌, ◌+◌, ◌≤◌, length, drop}
use Rattle.std.specs.Net.Text.{zero_run, longest_zero_run}
use Rattle.ipx_settings.proofs.writing_hosts.longest_run.Given as goal

abbrev pub invariant-loop-place : goal.invariant-loop-place
invariant-loop-place l =
    (l.run ≡ zero_run (drop l.place l.groups)) × (l.longest.1 ≡ (longest_zero_run (drop l.place l.groups)).1)
    × (l.longest.0 ≡ l.place + (longest_zero_run (drop l.place l.groups)).0)
    × (l.place + l.run ≤ length l.groups) × (l.longest.0 + l.longest.1 ≤ length l.groups)

abbrev pub decreases-loop-place : goal.decreases-loop-place
decreases-loop-place l = l.place
