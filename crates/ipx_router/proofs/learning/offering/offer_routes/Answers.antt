use Rattle.std.proofs.Common.{◌≤◌, ◌∙◌, ap, subst, ◌++◌, length, arith}
use Rattle.ipx_table.specs.Stands.{Stands}
use Rattle.ipx_router.specs.Facts.{offers, routes_offered}
use Rattle.ipx_router.specs.Routes.{route_rules}
use Rattle.ipx_router.proofs.changes.LearnedEntryByEntry.{all_taken, routes_offered-append, stands_more}
use Rattle.ipx_router.proofs.learning.offering.offer_routes.Goals as goal

pub loop-k-preserved : goal.loop-k-preserved
loop-k-preserved g c = record {
  shares = c.offer_route.ensures.shares ∙ c.loop-k.invariant.shares;
  stands = stands_more (route_rules c.args.ports.now g.row.R) (routes_offered c.args.ports.now c.args.number c.args.node)
      (routes_offered-append c.args.ports.now c.args.number c.args.node) c.args.rip.now.entries c.loop-k.k c.entry.result c.entry.ensures
      c.args.table.now.records c.loop-k.table.records c.offer_route.new.table.records c.loop-k.invariant.stands c.offer_route.ensures.stands;
  touches = c.offer_route.ensures.touches (offers c.args.table.now.records) c.loop-k.invariant.touches;
  few = omega (arith, c.offer_route.ensures.few, c.loop-k.invariant.few);
}

pub returns-clause-stands : goal.returns-clause-stands
returns-clause-stands g c = λ facts stands.
    let end : length c.args.rip.now.entries ≤ c.loop-k.k = omega (arith, c.loop-k-test.false, c.len-k-end.ensures.value) in
    subst (λ fs. Stands (route_rules c.args.ports.now g.row.R) c.loop-k.table.records fs)
    (ap (λ es. facts ++ routes_offered c.args.ports.now c.args.number c.args.node es) (all_taken c.args.rip.now.entries c.loop-k.k end))
    (c.loop-k.invariant.stands facts stands)
