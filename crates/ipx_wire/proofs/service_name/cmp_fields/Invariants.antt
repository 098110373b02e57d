use Rattle.std.proofs.Common.{◌≡◌, ◌*◌, take}
use Rattle.ipx_wire.proofs.service_name.cmp_fields.Given as goal

-- the bytes that were compared are equal
abbrev pub invariant-loop-k : goal.invariant-loop-k
invariant-loop-k l = take (8 * l.k) l.a ≡ take (8 * l.k) l.b
