use Rattle.std.proofs.Common.{arith, rules}
use Rattle.ipx_router.proofs.histories.NewRouterStands.{made_router, made_then}
use Rattle.ipx_router.proofs.router.Router.of.Goals as goal

pub invariant_of-result : goal.invariant_of-result
invariant_of-result g c =
    made_router g.row.R g.row.S c.args.ports.now c.copy_of.result.items c.new.result.items c.with_shares.result.records c.with_shares-2.result.records
    c.with_shares.result.shares c.with_shares-2.result.shares
    (search rules) (search rules) (search rules) (search rules) (search rules) (search rules)
    (omega (arith, c.requires.few_routes)) (omega (arith, c.requires.few_services)) (search rules) (search rules) (search rules) (search rules)

pub returns-clause-stands : goal.returns-clause-stands
returns-clause-stands g c =
    made_then g.row.R g.row.S c.args.ports.now c.copy_of.result.items c.new.result.items c.with_shares.result.records c.with_shares-2.result.records
    (search rules) (search rules) (search rules) (search rules)

pub copy_of-requires : goal.copy_of-requires
copy_of-requires g c = grind arith

pub new-requires : goal.new-requires
new-requires g c = grind arith

pub deref-requires : goal.deref-requires
deref-requires g c = grind arith

pub deref-requires-2 : goal.deref-requires-2
deref-requires-2 g c = grind arith

pub with_shares-requires : goal.with_shares-requires
with_shares-requires g c = grind arith

pub with_shares-requires-2 : goal.with_shares-requires-2
with_shares-requires-2 g c = grind arith

pub route_shares-route_shares-requires : goal.route_shares-route_shares-requires
route_shares-route_shares-requires g c = grind arith

pub service_shares-service_shares-requires : goal.service_shares-service_shares-requires
service_shares-service_shares-requires g c = grind arith

pub proves_ports-requires : goal.proves_ports-requires
proves_ports-requires g c = search
