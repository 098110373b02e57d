use Rattle.std.proofs.Common.{◌≡◌, ◌≤◌, ◌++◌, take}
use Rattle.std.specs.List.{flat_map}
use Rattle.std.specs.Vec.{vec_capacity}
use Rattle.ipx_cmd.specs.EventText.{sent_text}
use Rattle.ipx_cmd.proofs.texts.event_text.write_sent.Given as goal

abbrev pub invariant-loop-place : goal.invariant-loop-place
invariant-loop-place l =
    (l.text.items ≡ l.initial.text.items ++ flat_map sent_text (take l.place l.outbox.sent)) × (vec_capacity l.initial.text ≤ vec_capacity l.text)
