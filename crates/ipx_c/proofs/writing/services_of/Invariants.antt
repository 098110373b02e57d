use Rattle.std.proofs.Common.{◌≡◌, map, take, drop}
use Rattle.std.specs.List.{list_all}
use Rattle.ipx_c.specs.Writes.{service_of, is_named}
use Rattle.ipx_c.proofs.writing.services_of.Given as goal

abbrev pub invariant-loop-value : goal.invariant-loop-value
invariant-loop-value l = record {
  services : l.services.items ≡ map service_of (take l.value-index l.values);
  named : list_all is_named l.values ≡ list_all is_named (drop l.value-index l.values);
}
