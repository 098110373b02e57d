use Rattle.std.proofs.Common.{refl, arith, rules}
use Rattle.ipx_wire.specs.Header.{header_bytes}
use Rattle.ipx_wire.proofs.Puts.{then, whole_put}
use Rattle.ipx_wire.proofs.Headers.{length-header_bytes}
use Rattle.ipx_wire.proofs.header.Header.write.Goals as goal

pub returns-clause-size : goal.returns-clause-size
returns-clause-size c =
    length-header_bytes c.args.self.now (search rules) (search rules)

pub returns-clause-bytes : goal.returns-clause-bytes
unfolding header_bytes
returns-clause-bytes c =
    let four = then (then (then c.put_u16.ensures c.put_u16-2.ensures refl) c.put_u8.ensures refl) c.put_u8-2.ensures refl in
    let all = then (then four c.put_address.ensures.bytes refl) c.put_address-2.ensures.bytes (omega (arith, c.put_address.ensures.size)) in
    whole_put _ _ _ 30 all (length-header_bytes c.args.self.now (search rules) (search rules))
