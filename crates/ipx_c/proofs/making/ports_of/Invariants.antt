use Rattle.std.proofs.Common.{◌≡◌, map, take, drop}
use Rattle.std.specs.List.{AllByRecursion}
use Rattle.ipx_router.specs.Port.{IsPort}
use Rattle.ipx_router.specs.declared.port.PortFault.{PortFault}
use Rattle.ipx_c.specs.Makes.{IsFirstBad}
use Rattle.ipx_c.specs.Values.{port_of}
use Rattle.ipx_c.proofs.making.ports_of.Given as goal

abbrev pub invariant-loop-value : goal.invariant-loop-value
invariant-loop-value l = record {
  ports : l.ports.items ≡ map port_of (take l.value-index l.values);
  each : AllByRecursion IsPort (map port_of (take l.value-index l.values));
  bad : (fault : PortFault) → IsFirstBad (drop l.value-index l.values) fault → IsFirstBad l.values fault;
}
