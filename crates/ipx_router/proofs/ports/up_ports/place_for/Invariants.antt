use Rattle.std.proofs.Common.{◌≡◌, ◌++◌, take, drop, nat_lt}
use Rattle.ipx_router.specs.Sorted.{put}
use Rattle.ipx_router.proofs.ports.up_ports.place_for.Given as goal

abbrev pub invariant-loop-place : goal.invariant-loop-place
invariant-loop-place l = record {
  behind : put nat_lt l.number l.up ≡ take l.place l.up ++ put nat_lt l.number (drop l.place l.up);
}
