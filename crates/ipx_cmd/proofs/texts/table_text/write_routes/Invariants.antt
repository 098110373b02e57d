use Rattle.std.proofs.Common.{◌≡◌, ◌≤◌, ◌++◌, take}
use Rattle.std.specs.List.{flat_map}
use Rattle.std.specs.Vec.{vec_capacity}
use Rattle.ipx_cmd.specs.TableText.{route_held}
use Rattle.ipx_cmd.proofs.texts.table_text.write_routes.Given as goal

abbrev pub invariant-loop-place : goal.invariant-loop-place
invariant-loop-place l =
    (l.text.items ≡ l.initial.text.items ++ flat_map route_held (take l.place l.router.routes)) × (vec_capacity l.initial.text ≤ vec_capacity l.text)
