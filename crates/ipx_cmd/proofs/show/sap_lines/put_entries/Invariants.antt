use Rattle.std.proofs.Common.{◌≡◌, ◌≤◌, ◌+◌, ◌*◌, ◌++◌, take, length}
use Rattle.std.specs.List.{flat_map}
use Rattle.ipx_wire.specs.SapEntries.{sap_entries_at}
use Rattle.ipx_cmd.specs.SapText.{service_entry_text}
use Rattle.ipx_cmd.proofs.show.sap_lines.put_entries.Given as goal

abbrev pub invariant-loop-place : goal.invariant-loop-place
invariant-loop-place l =
    (l.draft ≡ l.initial.draft ++ flat_map service_entry_text (take l.place (sap_entries_at l.count l.entries))) × (length l.draft ≤ length l.initial.draft + 188 * l.place)
