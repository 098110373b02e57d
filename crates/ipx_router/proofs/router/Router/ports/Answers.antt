use Rattle.std.proofs.Common.{arith, sym, ap, ◌∙◌, subst, ℕ, ◌≤◌, length}
use Rattle.ipx_router.specs.Numbers.{most_ports}
use Rattle.ipx_router.specs.Port.{AreApart}
use Rattle.ipx_router.specs.Stands.{State}
use Rattle.ipx_router.proofs.router.Router.ports.Goals as goal

pub returns-clause-value : goal.returns-clause-value
returns-clause-value g c = c.len.ensures.value ∙ ap (λ (v : State). length v.ports) c.self.view_is

pub returns-clause-some : goal.returns-clause-some
returns-clause-some g c = subst (λ (n : ℕ). 1 ≤ n) (sym c.len.ensures.value) c.self.invariant.some

pub returns-clause-few : goal.returns-clause-few
returns-clause-few g c = subst (λ (n : ℕ). n ≤ most_ports) (sym c.len.ensures.value) c.self.invariant.few

pub returns-clause-apart : goal.returns-clause-apart
returns-clause-apart g c = subst (λ (v : State). AreApart v.ports) c.self.view_is c.self.invariant.apart

pub len-requires : goal.len-requires
len-requires g c = grind arith
