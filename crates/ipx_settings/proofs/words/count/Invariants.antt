use Rattle.std.proofs.Common.{◌≡◌, ◌≤◌, ◌+◌, ◌-◌, drop, length}
use Rattle.ipx_settings.specs.Words.{words}
use Rattle.ipx_settings.proofs.words.count.Given as goal

abbrev pub invariant-loop-span : goal.invariant-loop-span
invariant-loop-span l = (length (words l.text) ≡ l.count + length (words (drop l.from l.text))) × (l.from ≤ length l.text) × (l.count ≤ l.from)

abbrev pub decreases-loop-span : goal.decreases-loop-span
decreases-loop-span l = length l.text - l.from
