use Rattle.std.proofs.Common.{◌≡◌, ◌≤◌, ◌++◌, take}
use Rattle.std.specs.List.{flat_map}
use Rattle.std.specs.Vec.{vec_capacity}
use Rattle.ipx_cmd.specs.TableText.{service_held}
use Rattle.ipx_cmd.proofs.texts.table_text.write_services.Given as goal

abbrev pub invariant-loop-place : goal.invariant-loop-place
invariant-loop-place l =
    (l.text.items ≡ l.initial.text.items ++ flat_map service_held (take l.place l.router.services)) × (vec_capacity l.initial.text ≤ vec_capacity l.text)
