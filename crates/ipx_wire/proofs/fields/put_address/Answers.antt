use Rattle.std.proofs.Common.{refl, arith}
use Rattle.ipx_wire.specs.Address.{address_bytes}
use Rattle.ipx_wire.proofs.Puts.{then}
use Rattle.ipx_wire.proofs.fields.put_address.Goals as goal

pub returns-clause-bytes : goal.returns-clause-bytes
unfolding address_bytes
returns-clause-bytes c =
    then (then c.put_u32.ensures c.put_node.ensures.bytes refl) c.put_u16.ensures (omega (arith, c.put_node.ensures.size))
