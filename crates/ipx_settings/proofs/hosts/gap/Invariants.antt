use Rattle.std.proofs.Common.{◌≡◌, ◌≤◌, ◌-◌, drop, length}
use Rattle.ipx_settings.specs.Hosts.{gap_of}
use Rattle.ipx_settings.proofs.Gaps.{shifted}
use Rattle.ipx_settings.proofs.hosts.gap.Given as goal

abbrev pub invariant-loop-place : goal.invariant-loop-place
invariant-loop-place l = (gap_of l.text ≡ shifted l.place (gap_of (drop l.place l.text))) × (l.place ≤ length l.text)

abbrev pub decreases-loop-place : goal.decreases-loop-place
decreases-loop-place l = length l.text - l.place
