use Rattle.std.proofs.Common.{take}
use Rattle.std.specs.List.{AllByRecursion}
use Rattle.ipx_wire.specs.WriteServices.{IsService}
use Rattle.ipx_wire.proofs.laws.in_range.Given as goal

abbrev pub invariant-loop-service : goal.invariant-loop-service
invariant-loop-service l = AllByRecursion IsService (take l.service-index l.services)
