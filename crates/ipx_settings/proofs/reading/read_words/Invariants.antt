use Rattle.std.proofs.Common.{◌≡◌, ◌≤◌, ◌-◌, drop, length}
use Rattle.ipx_settings.specs.Lines.{read_from}
use Rattle.ipx_settings.specs.Words.{words}
use Rattle.ipx_settings.specs.declared.line.Line.TheVariants.{Nothing}
use Rattle.ipx_settings.proofs.reading.read_words.Given as goal

abbrev pub invariant-loop-span : goal.invariant-loop-span
invariant-loop-span l =
    (read_from l.context Nothing 0 (words l.text) ≡ read_from l.context l.line l.read (words (drop l.from l.text))) × (l.from ≤ length l.text) × (l.read ≤ l.from)

abbrev pub decreases-loop-span : goal.decreases-loop-span
decreases-loop-span l = length l.text - l.from
