use Rattle.std.proofs.Common.{subst, drop, ◌++◌}
use Rattle.std.specs.List.{AllByRecursion}
use Rattle.ipx_internet.specs.Internet.{IsInternet, NodesDiffer}
use Rattle.ipx_internet.specs.Moment.{Moment, net_at}
use Rattle.ipx_internet.specs.Passed.{HasHistories}
use Rattle.ipx_internet.specs.Rounds.{IsDelivery}
use Rattle.ipx_internet.specs.Traced.{routers_of}
use Rattle.ipx_internet.specs.Tree.{IsRouter}
use Rattle.ipx_internet.proofs.deliveries.HistoriesOfRouters.{have_histories}
use Rattle.ipx_internet.proofs.internet.Internet.len.Goals as goal
use Rattle.ipx_internet.proofs.trees.RoutersAsTreesSee.{are_tabled}

pub returns-clause-internet : goal.returns-clause-internet
returns-clause-internet g c = subst (λ (m : Moment). IsInternet (net_at m)) c.self.view_is c.self.invariant.sound.internet

pub returns-clause-nodes : goal.returns-clause-nodes
returns-clause-nodes g c = subst (λ (m : Moment). NodesDiffer (net_at m)) c.self.view_is c.self.invariant.sound.nodes

pub returns-clause-tables : goal.returns-clause-tables
returns-clause-tables g c =
    subst (λ (m : Moment). AllByRecursion IsRouter (routers_of m.routers)) c.self.view_is
    (are_tabled g.row.R g.row.S c.trees.ensures.as_they_are c.self.inside.routers.items c.self.invariant.sound.pasts)

pub returns-clause-past : goal.returns-clause-past
returns-clause-past g c =
    subst (λ (m : Moment). HasHistories g.row.R g.row.S m) c.self.view_is (have_histories g.row.R g.row.S (record {
      routers = c.self.inside.routers.items;
      queue = drop c.self.inside.done c.self.inside.front.deliveries ++ c.self.inside.back.deliveries;
    }) c.self.invariant.sound.pasts)

pub returns-clause-waits : goal.returns-clause-waits
returns-clause-waits g c = subst (λ (m : Moment). AllByRecursion (IsDelivery (net_at m)) m.queue) c.self.view_is c.self.invariant.coming
