use Rattle.std.proofs.Common.{◌≡◌, ◌≤◌, ◌+◌, ◌*◌, ◌++◌, take, length}
use Rattle.std.specs.List.{flat_map}
use Rattle.ipx_cmd.specs.RipText.{route_entry_text}
use Rattle.ipx_cmd.proofs.show.rip_lines.put_entries.Given as goal

abbrev pub invariant-loop-place : goal.invariant-loop-place
invariant-loop-place l =
    (l.draft ≡ l.initial.draft ++ flat_map route_entry_text (take l.place l.rip.entries)) × (length l.draft ≤ length l.initial.draft + 36 * l.place)
