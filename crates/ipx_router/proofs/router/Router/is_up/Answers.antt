use Rattle.std.proofs.Common.{◌∙◌, ◌≤◌, ap, length}
use Rattle.ipx_router.specs.Port.{is_up}
use Rattle.ipx_router.specs.Stands.{State}
use Rattle.ipx_router.proofs.histories.NewRouterStands.{stopped_up, missing_up}
use Rattle.ipx_router.proofs.router.Router.is_up.Goals as goal

pub returns-clause-stopped : goal.returns-clause-stopped
returns-clause-stopped g c = λ stopped.
    c.is_up.ensures ∙ ap (λ up. is_up up c.args.port) c.deref.ensures.0
    ∙ stopped_up _ _ _ _ _ c.self.invariant c.args.port (ap (λ (s : State). s.running) c.self.view_is ∙ stopped)

pub returns-clause-missing : goal.returns-clause-missing
returns-clause-missing g c = λ missing.
    c.is_up.ensures ∙ ap (λ up. is_up up c.args.port) c.deref.ensures.0
    ∙ missing_up _ _ _ _ _ c.self.invariant c.args.port (subst_back missing)
  where
    subst_back : length c.args.self.now.ports ≤ c.args.port → length c.self.inside.ports.items ≤ c.args.port
    subst_back missing = rw (ap (λ (s : State). length s.ports) c.self.view_is) missing
