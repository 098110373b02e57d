use Rattle.std.proofs.Common.{◌≡◌, ◌≤◌, List, ◌++◌, length, take}
use Rattle.ipx_table.specs.Facts.{Fact}
use Rattle.ipx_table.specs.Stands.{Stands}
use Rattle.ipx_router.specs.Facts.{offers, routes_offered}
use Rattle.ipx_router.specs.Routes.{network_order, route_rules}
use Rattle.ipx_router.specs.inside.Touched.{Touches}
use Rattle.ipx_router.specs.declared.route_offer.RouteOffer.{RouteOffer}
use Rattle.ipx_router.proofs.learning.offering.offer_routes.Given as goal

abbrev pub invariant-loop-k : goal.invariant-loop-k
invariant-loop-k g l = record {
  shares : l.table.shares ≡ l.initial.table.shares;
  stands : (facts : List (Fact RouteOffer)) → Stands (route_rules l.ports g.row.R) l.initial.table.records facts
      → Stands (route_rules l.ports g.row.R) l.table.records (facts ++ routes_offered l.ports l.number l.node (take l.k l.rip.entries));
  touches : Touches (λ r. r.network) network_order (offers l.initial.table.records) (offers l.table.records) l.touched.items;
  few : length l.touched.items ≤ l.k;
}
