use Rattle.std.proofs.Common.{refl, arith, length-append}
use Rattle.ipx_wire.specs.Address.{address_bytes}
use Rattle.ipx_wire.specs.Name.{name_field}
use Rattle.ipx_wire.specs.WriteServices.{service_bytes}
use Rattle.ipx_wire.proofs.Puts.{then}
use Rattle.ipx_wire.proofs.write_services.put_service.Goals as goal

pub returns-clause-bytes : goal.returns-clause-bytes
unfolding service_bytes
returns-clause-bytes c =
    then (then (then c.put_u16.ensures c.put_name.ensures.bytes refl) c.put_address.ensures.bytes (omega (arith, c.put_name.ensures.size)))
    c.put_u16-2.ensures
    (omega (arith, length-append (name_field c.args.service.now.name) (address_bytes c.args.service.now.address), c.put_name.ensures.size, c.put_address.ensures.size))
