use Rattle.std.proofs.Common.{◌≡◌, ◌+◌, ◌*◌, ℕ, refl, arith, subst}
use Rattle.std.specs.Int.{to_be_bytes, w16}
use Rattle.ipx_wire.specs.Numbers.{sap_type}
use Rattle.ipx_wire.specs.Put.{PutsAt}
use Rattle.ipx_wire.specs.Sap.{response_number}
use Rattle.ipx_wire.specs.Write.{own_header}
use Rattle.ipx_wire.proofs.Written.{own_written}
use Rattle.ipx_wire.proofs.write_services.write_sap_front.Goals as goal
use Rattle.ipx_wire.proofs.write_services.write_sap_front.Goals.{then-nearest, else-nearest}

pub returns-clause-bytes : goal.returns-clause-bytes
returns-clause-bytes c =
    let number : c.if-nearest.operation ≡ response_number c.args.nearest =
    elim c.if-nearest.branch [
      | then-nearest w ↦ rw (w.operation-is, w.if-nearest.true) refl
      | else-nearest w ↦ rw (w.operation-is, w.if-nearest.false) refl
    ] in
    let operation = subst (λ (n : ℕ). PutsAt c.write.new.out 30 (to_be_bytes w16 n) c.put_u16.new.out) number c.put_u16.ensures in
    own_written (record {
      header = own_header sap_type c.args.from c.args.to (2 + 64 * c.args.count);
      payload = to_be_bytes w16 (response_number c.args.nearest);
    }) c.own.result c.args.out.now c.write.new.out c.put_u16.new.out
    32 c.own.ensures c.write.ensures.size (omega (arith, c.requires.room)) c.write.ensures.bytes operation refl
