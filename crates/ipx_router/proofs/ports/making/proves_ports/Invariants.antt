use Rattle.std.proofs.Common.{take}
use Rattle.std.specs.List.{AllByRecursion}
use Rattle.ipx_router.specs.Port.{IsPort}
use Rattle.ipx_router.proofs.ports.making.proves_ports.Given as goal

abbrev pub invariant-loop-port : goal.invariant-loop-port
invariant-loop-port l = record {
  are : AllByRecursion IsPort (take l.port-index l.ports);
}
