use Rattle.std.proofs.Common.{◌≡◌, ◌≤◌, ◌-◌, drop, length}
use Rattle.std.specs.Prelude.{slice_get}
use Rattle.ipx_settings.specs.Words.{words}
use Rattle.ipx_settings.proofs.words.word_at.Given as goal

abbrev pub invariant-loop-span : goal.invariant-loop-span
invariant-loop-span l = (slice_get (words l.text) l.number ≡ slice_get (words (drop l.from l.text)) l.left) × (l.from ≤ length l.text)

abbrev pub decreases-loop-span : goal.decreases-loop-span
decreases-loop-span l = length l.text - l.from
