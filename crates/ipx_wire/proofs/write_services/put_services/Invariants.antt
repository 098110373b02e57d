use Rattle.std.proofs.Common.{◌≡◌, ◌+◌, ◌*◌, take}
use Rattle.std.specs.List.{flat_map, AllByRecursion}
use Rattle.ipx_wire.specs.Put.{PutsAt}
use Rattle.ipx_wire.specs.WriteServices.{IsService, service_bytes}
use Rattle.ipx_wire.proofs.write_services.put_services.Given as goal

abbrev pub invariant-loop-service : goal.invariant-loop-service
invariant-loop-service l = record {
  written : PutsAt l.initial.out l.place (flat_map service_bytes (take l.service-index l.services)) l.out;
  next : l.next ≡ l.place + 64 * l.service-index;
  each : AllByRecursion IsService (take l.service-index l.services);
}
