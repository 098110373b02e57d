use Rattle.std.proofs.Common.{◌≡◌, ◌+◌, ◌-◌, ◌*◌, length}
use Rattle.ipx_capture.specs.Place.{keeps, place}
use Rattle.ipx_cmd.proofs.captures.BetweenTwoRecords.{Midway}
use Rattle.ipx_cmd.proofs.show.run.show_records.Given as goal

abbrev pub invariant-loop-capture : goal.invariant-loop-capture
invariant-loop-capture g l =
    Midway (place l.initial.capture) (place l.capture) l.initial.outlet l.outlet l.text.items l.shown × (keeps l.capture ≡ keeps l.initial.capture)

abbrev pub decreases-loop-capture : goal.decreases-loop-capture
decreases-loop-capture g l = 262160 * (16777216 - (place l.capture).input.calls) + length (place l.capture).ahead
