use Rattle.std.proofs.Common.{◌≡◌, ◌+◌, ◌*◌, ℕ, refl, arith, subst, length, lit<, rules}
use Rattle.std.specs.Int.{to_be_bytes, w16}
use Rattle.ipx_wire.specs.Put.{PutsAt}
use Rattle.ipx_wire.specs.Sap.{response_number}
use Rattle.ipx_wire.specs.WriteServices.{sap_packet_parts}
use Rattle.ipx_wire.proofs.Puts.{then}
use Rattle.ipx_wire.proofs.Written.{is_written, own_ranges, own_written}
use Rattle.ipx_wire.proofs.Services.{is_written_response, length-sap_payload, length-sap_packet}
use Rattle.ipx_wire.proofs.write_services.write_sap.Goals as goal
use Rattle.ipx_wire.proofs.write_services.write_sap.Goals.{then-nearest, else-nearest}

pub returns-clause-size : goal.returns-clause-size
returns-clause-size c =
    length-sap_packet c.args.from c.args.to c.args.nearest c.args.services.now (search rules) (search rules) c.put_services.ensures.each

pub returns-clause-response : goal.returns-clause-response
returns-clause-response c =
    is_written_response c.args.nearest c.args.services.now c.requires.some c.requires.most c.put_services.ensures.each

number : (c : goal.After-slice_known-4-1) → c.if-nearest.operation ≡ response_number c.args.nearest
number c =
    elim c.if-nearest.branch [
      | then-nearest w ↦ rw (w.operation-is, w.if-nearest.true) refl
      | else-nearest w ↦ rw (w.operation-is, w.if-nearest.false) refl
    ]

pub returns-clause-bytes : goal.returns-clause-bytes
returns-clause-bytes c =
    let operation = subst (λ (n : ℕ). PutsAt c.write.new.out 30 (to_be_bytes w16 n) c.put_u16.new.out) (number c) c.put_u16.ensures in
    let long = length-sap_payload c.args.nearest c.args.services.now c.put_services.ensures.each in
    own_written (sap_packet_parts c.args.from c.args.to c.args.nearest c.args.services.now) c.own.result c.args.out.now c.write.new.out c.put_services.new.out
    (32 + 64 * length c.args.services.now) c.own.ensures c.write.ensures.size (omega arith) c.write.ensures.bytes (then operation c.put_services.ensures.bytes refl)
    (omega (arith, long))

pub returns-clause-packet : goal.returns-clause-packet
returns-clause-packet c =
    let long = length-sap_payload c.args.nearest c.args.services.now c.put_services.ensures.each in
    is_written (sap_packet_parts c.args.from c.args.to c.args.nearest c.args.services.now)
    (own_ranges 4 c.args.from c.args.to (2 + 64 * length c.args.services.now) (lit< tt) (search rules) (search rules) (omega (arith, c.requires.most)))
    (omega (arith, long))
