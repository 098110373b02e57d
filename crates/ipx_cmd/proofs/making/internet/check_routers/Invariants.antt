use Rattle.std.proofs.Common.{◌≡◌, map, take, Ok}
use Rattle.ipx_cmd.specs.InternetMachine.{named_routers}
use Rattle.ipx_cmd.proofs.making.internet.check_routers.Given as goal

abbrev pub invariant-loop-ports : goal.invariant-loop-ports
invariant-loop-ports l = named_routers (map (λ ports. ports.items) (take l.ports-index l.named)) ≡ Ok tt
