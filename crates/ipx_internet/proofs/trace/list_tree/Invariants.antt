use Rattle.std.proofs.Common.{◌-◌, ◌≤◌, length}
use Rattle.ipx_internet.specs.Listed.{IsListed}
use Rattle.ipx_internet.specs.inside.Simulated.{net_among}
use Rattle.ipx_internet.specs.TraceRoom.{IsNoLess, HoldsNoLess}
use Rattle.ipx_internet.specs.Traced.{routers_of}
use Rattle.ipx_internet.specs.Tree.{root}
use Rattle.ipx_internet.specs.Weight.{IsBounded}
use Rattle.ipx_internet.proofs.trace.list_tree.Given as goal

abbrev pub invariant-loop-listing : goal.invariant-loop-listing
invariant-loop-listing g l = record {
  listed : IsListed (routers_of l.routers.items) (root (record { router = l.fn.coming.router; port = l.fn.coming.port }) l.fn.coming.bytes.now) l.listing;
  few : length l.listing.copies ≤ l.limit;
  bounded : IsBounded (net_among l.routers.items) (root (record { router = l.fn.coming.router; port = l.fn.coming.port }) l.fn.coming.bytes.now) (length l.listing.outcomes) l.listing.copies;
  memory : IsNoLess l.fn.lists l.listing.memory;
  outbox : HoldsNoLess l.initial.outbox l.outbox;
}

abbrev pub decreases-loop-listing : goal.decreases-loop-listing
decreases-loop-listing g l = l.limit - length l.listing.outcomes
