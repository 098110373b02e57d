use Rattle.std.proofs.Common.{◌≡◌, ◌-◌}
use Rattle.ipx_configuration.specs.Lines.{ranges_from, words_from}
use Rattle.ipx_configuration.proofs.lines.add_ranges.Given as goal

abbrev pub invariant-loop-number : goal.invariant-loop-number
invariant-loop-number l =
    ranges_from l.fn.ranges 1 (words_from l.text 1 l.read) ≡ ranges_from l.it l.number (words_from l.text l.number l.read)

abbrev pub decreases-loop-number : goal.decreases-loop-number
decreases-loop-number l = l.read - l.number
