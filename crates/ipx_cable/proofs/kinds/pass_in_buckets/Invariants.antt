use Rattle.ipx_cable.proofs.Lists.{MapsInPlace}
use Rattle.ipx_cable.specs.Stations.{aged_bucket}
use Rattle.ipx_cable.proofs.kinds.pass_in_buckets.Given as goal

abbrev pub invariant-loop-bucket : goal.invariant-loop-bucket
invariant-loop-bucket l = MapsInPlace aged_bucket l.initial.buckets l.buckets l.bucket-index
