use Rattle.std.proofs.Common.{◌≡◌, nat_le, drop}
use Rattle.std.specs.List.{list_all}
use Rattle.ipx_wire.specs.declared.sap_entries.SapEntry.{SapEntry}
use Rattle.ipx_edge.proofs.nearest.are_no_nearer.Given as goal

abbrev pub invariant-loop-k : goal.invariant-loop-k
invariant-loop-k l = list_all (λ (e : SapEntry). nat_le l.hops e.hops) l.entries ≡ list_all (λ (e : SapEntry). nat_le l.hops e.hops) (drop l.k l.entries)
