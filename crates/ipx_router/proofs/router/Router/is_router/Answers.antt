use Rattle.std.proofs.Common.{subst, ◌≤◌, length}
use Rattle.std.specs.List.{AllByRecursion}
use Rattle.ipx_router.specs.Numbers.{most_ports}
use Rattle.ipx_router.specs.Port.{IsPort, AreApart}
use Rattle.ipx_router.specs.RouterOf.{HasPast}
use Rattle.ipx_router.specs.Stands.{State}
use Rattle.ipx_router.proofs.router.Router.is_router.Goals as goal

pub returns-clause-some : goal.returns-clause-some
returns-clause-some g c = subst (λ (v : State). 1 ≤ length v.ports) c.self.view_is c.self.invariant.some

pub returns-clause-few : goal.returns-clause-few
returns-clause-few g c = subst (λ (v : State). length v.ports ≤ most_ports) c.self.view_is c.self.invariant.few

pub returns-clause-are : goal.returns-clause-are
returns-clause-are g c = subst (λ (v : State). AllByRecursion IsPort v.ports) c.self.view_is c.self.invariant.are

pub returns-clause-apart : goal.returns-clause-apart
returns-clause-apart g c = subst (λ (v : State). AreApart v.ports) c.self.view_is c.self.invariant.apart

pub returns-clause-past : goal.returns-clause-past
returns-clause-past g c =
    let kept = c.self.invariant in
    subst (λ (v : State). HasPast g.row.R g.row.S v) c.self.view_is
    (record { past = kept.past; stands = kept.stands; on_ports = kept.on_ports; of_bytes = kept.of_bytes })
