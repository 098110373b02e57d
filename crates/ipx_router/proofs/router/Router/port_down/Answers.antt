use Rattle.std.proofs.Common.{◌≡◌, sym, ap, ◌∙◌, subst, true, false, List, ℕ}
use Rattle.ipx_router.specs.inside.Following.{Follows}
use Rattle.ipx_router.specs.History.{PortDown}
use Rattle.ipx_router.proofs.histories.NewRouterStands.{stopped_up}
use Rattle.ipx_router.proofs.histories.StateAfterEachEvent.{state_of, already_down}
use Rattle.ipx_router.specs.Port.{is_up}
use Rattle.ipx_router.specs.Stands.{State}
use Rattle.ipx_router.proofs.router.Router.port_down.Goals as goal

pub take_down-requires : goal.take_down-requires
take_down-requires g c =
    let n = c.args.port in
    let runs : c.args.self.now.running ≡ true = ap (λ (v : State). v.running) (sym c.self.view_is) ∙ c.if-not-self.false in
    let there : is_up c.args.self.now.up n ≡ true =
    ap (λ (v : State). is_up v.up n) (sym c.self.view_is) ∙ ap (λ (u : List ℕ). is_up u n) (sym c.deref.ensures.0)
    ∙ sym c.is_up.ensures ∙ c.if-not-is_up.false in
    search (runs, there)

pub returns-then-not-self-clause-follows : goal.returns-then-not-self-clause-follows
returns-then-not-self-clause-follows g c =
    let i = c.self.inside in
    let s = state_of i.ports.items i.running i.up.items i.seconds i.routes.records i.services.records in
    subst (λ (v : State). Follows g.row.R g.row.S v v (PortDown c.args.port)) c.self.view_is
    (already_down g.row.R g.row.S s c.args.port (stopped_up g.row.R g.row.S s i.routes.shares i.services.shares c.self.invariant c.args.port c.if-not-self.true))

pub returns-then-not-is_up-clause-follows : goal.returns-then-not-is_up-clause-follows
returns-then-not-is_up-clause-follows g c =
    let i = c.self.inside in
    let s = state_of i.ports.items i.running i.up.items i.seconds i.routes.records i.services.records in
    let down : is_up s.up c.args.port ≡ false =
    ap (λ (u : List ℕ). is_up u c.args.port) (sym c.deref.ensures.0) ∙ sym c.is_up.ensures ∙ c.if-not-is_up.true in
    subst (λ (v : State). Follows g.row.R g.row.S v v (PortDown c.args.port)) c.self.view_is (already_down g.row.R g.row.S s c.args.port down)
