use Rattle.std.proofs.Common.{◌≡◌, ℕ, ◌<◌, ◌≤◌, ◌-◌, length, slice_index_or}
use Rattle.ipx_internet.specs.declared.stations.Station.{Station}
use Rattle.ipx_internet.proofs.stations.end_from.Given as goal

abbrev pub invariant-loop-end : goal.invariant-loop-end
invariant-loop-end l = record {
  from : l.first ≤ l.end;
  within : l.end ≤ length l.list;
  on : (k : ℕ) (d : Station) → l.first ≤ k → k < l.end → (slice_index_or l.list k d).network.0 ≡ l.network.0;
}

abbrev pub decreases-loop-end : goal.decreases-loop-end
decreases-loop-end l = length l.list - l.end
