use Rattle.std.proofs.Common.{◌≡◌, ◌≤◌, length, filter}
use Rattle.ipx_segment.specs.Receivers.{numbers, gets}
use Rattle.ipx_segment.proofs.reaching.put_towards.Given as goal

abbrev pub invariant-loop-link : goal.invariant-loop-link
invariant-loop-link g l = record {
  reached : l.to.items ≡ filter (gets l.links l.sought l.came) (numbers l.link);
  few : length l.to.items ≤ l.link;
}
