use Rattle.std.proofs.Common.{◌≡◌, ℕ, refl, arith, subst}
use Rattle.std.specs.Int.{to_be_bytes, w16}
use Rattle.ipx_wire.specs.Put.{PutsAt}
use Rattle.ipx_wire.specs.Write.{query_number, query_packet_parts}
use Rattle.ipx_wire.proofs.Puts.{then}
use Rattle.ipx_wire.proofs.Written.{own_written}
use Rattle.ipx_wire.proofs.write.write_query.Goals as goal
use Rattle.ipx_wire.proofs.write.write_query.Goals.{then-nearest, else-nearest}

number : (c : goal.After-slice_known-4-1) → c.if-nearest.operation ≡ query_number c.args.nearest
number c =
    elim c.if-nearest.branch [
      | then-nearest w ↦ rw (w.operation-is, w.if-nearest.true) refl
      | else-nearest w ↦ rw (w.operation-is, w.if-nearest.false) refl
    ]

pub returns-clause-bytes : goal.returns-clause-bytes
returns-clause-bytes c =
    let operation = subst (λ (n : ℕ). PutsAt c.write.new.out 30 (to_be_bytes w16 n) c.put_u16.new.out) (number c) c.put_u16.ensures in
    own_written (query_packet_parts c.args.from c.args.to c.args.nearest c.args.kind) c.own.result c.args.out.now c.write.new.out c.put_u16-2.new.out 34
    c.own.ensures c.write.ensures.size (omega arith) c.write.ensures.bytes (then operation c.put_u16-2.ensures refl) refl
