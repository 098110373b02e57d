use Rattle.std.proofs.Common.{◌≡◌, ◌+◌, ◌*◌, ◌≤◌, ◌∷◌, ◌++◌, length, take, flat_map}
use Rattle.ipx_settings.specs.WritingLines.{range_word}
use Rattle.ipx_settings.proofs.writing_lists.put_ranges.Given as goal

abbrev pub invariant-loop-range : goal.invariant-loop-range
invariant-loop-range l =
    (take l.end l.room ≡ take l.initial.end l.initial.room ++ flat_map (λ range. 32 ∷ range_word range) (take l.range-index l.ranges))
    × (l.end ≤ l.initial.end + 55 * l.range-index) × (length l.room ≡ length l.initial.room)
