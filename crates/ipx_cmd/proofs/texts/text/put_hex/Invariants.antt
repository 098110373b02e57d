use Rattle.std.proofs.Common.{◌≡◌, ◌≤◌, ◌++◌, length}
use Rattle.std.specs.Vec.{vec_capacity}
use Rattle.hex.specs.Hex.{encode_upper}
use Rattle.ipx_cmd.proofs.texts.text.put_hex.Given as goal

abbrev pub invariant-loop-rest : goal.invariant-loop-rest
invariant-loop-rest l =
    (l.text.items ++ encode_upper l.rest ≡ l.initial.text.items ++ encode_upper l.bytes) × (vec_capacity l.initial.text ≤ vec_capacity l.text)

abbrev pub decreases-loop-rest : goal.decreases-loop-rest
decreases-loop-rest l = length l.rest
