-- Why ports make no router, where each of them is one.
use Rattle.std.proofs.Common.{List, map, arith}
use Rattle.std.proofs.lemmas.List.{length-map}
use Rattle.ipx_router.specs.RouterOf.{IsNoRouter}
use Rattle.ipx_router.specs.declared.ports_fault.PortsFault.{PortsFault}
use Rattle.ipx_c.specs.Makes.{ArePorts, IsUnmade}
use Rattle.ipx_c.specs.Sizes.{most_ports}
use Rattle.ipx_c.specs.Values.{port_of}
use Rattle.ipx_c.specs.declared.fault.Fault.TheVariants.{Ports}
use Rattle.ipx_c.specs.declared.values.PortValues.{PortValues}

pub unmade : (values : List PortValues) (fault : PortsFault) → ArePorts values
    → IsNoRouter most_ports (map port_of values) fault → IsUnmade values (Ports fault)
unmade values fault are why = grind (arith, length-map)
