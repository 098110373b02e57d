use Rattle.std.proofs.Common.{◌+◌, ◌*◌, ℕ, refl, arith, subst, length, lit<, rules}
use Rattle.std.specs.Int.{to_be_bytes, w16}
use Rattle.ipx_wire.specs.Put.{PutsAt}
use Rattle.ipx_wire.specs.Write.{rip_packet_parts}
use Rattle.ipx_wire.proofs.Puts.{then}
use Rattle.ipx_wire.proofs.Written.{is_written, own_ranges, own_written, length-rip_packet, length-rip_payload}
use Rattle.ipx_wire.proofs.write.write_rip.Goals as goal

pub returns-clause-size : goal.returns-clause-size
returns-clause-size c = length-rip_packet c.args.from c.args.to c.args.operation c.args.entries.now (search rules) (search rules)

pub returns-clause-bytes : goal.returns-clause-bytes
returns-clause-bytes c =
    let operation = subst (λ (n : ℕ). PutsAt c.write.new.out 30 (to_be_bytes w16 n) c.put_u16.new.out) c.number.ensures c.put_u16.ensures in
    let long = length-rip_payload c.args.operation c.args.entries.now in
    own_written (rip_packet_parts c.args.from c.args.to c.args.operation c.args.entries.now) c.own.result c.args.out.now c.write.new.out c.put_entries.new.out
    (32 + 8 * length c.args.entries.now) c.own.ensures c.write.ensures.size (omega arith) c.write.ensures.bytes (then operation c.put_entries.ensures refl)
    (omega (arith, long))

pub returns-clause-packet : goal.returns-clause-packet
returns-clause-packet c =
    let long = length-rip_payload c.args.operation c.args.entries.now in
    is_written (rip_packet_parts c.args.from c.args.to c.args.operation c.args.entries.now)
    (own_ranges 1 c.args.from c.args.to (2 + 8 * length c.args.entries.now) (lit< tt) (search rules) (search rules) (omega arith))
    (omega (arith, long))
