use Rattle.std.proofs.Common.{◌≡◌, ◌∙◌, sym, ap, subst, Bool, true, false}
use Rattle.ipx_router.specs.Facts.{offers}
use Rattle.ipx_router.specs.inside.Following.{Follows, holding_of, is_next_periodic}
use Rattle.ipx_router.specs.History.{Stop}
use Rattle.ipx_router.specs.Outbox.{Appends}
use Rattle.ipx_router.specs.Outcomes.{outcome_of}
use Rattle.ipx_router.specs.Sends.{sends_of}
use Rattle.ipx_router.specs.Stands.{State}
use Rattle.ipx_router.proofs.histories.RouterOneEventMore.{none_of_stopped}
use Rattle.ipx_router.proofs.histories.StateAfterEachEvent.{state_of, stopped_stop}
use Rattle.ipx_router.proofs.sending.OneAfterAnother.{appends_none}
use Rattle.ipx_router.proofs.router.Router.stop.Goals as goal

pub returns-then-not-self-clause-follows : goal.returns-then-not-self-clause-follows
returns-then-not-self-clause-follows g c =
    let i = c.self.inside in
    let s = state_of i.ports.items i.running i.up.items i.seconds i.routes.records i.services.records in
    let halted : s.running ≡ false = c.if-not-self.true in
    subst (λ (v : State). Follows g.row.R g.row.S v v Stop) c.self.view_is
    (stopped_stop g.row.R g.row.S s halted (none_of_stopped g.row.R g.row.S s i.routes.shares i.services.shares c.self.invariant halted))

pub returns-then-not-self-clause-sends : goal.returns-then-not-self-clause-sends
returns-then-not-self-clause-sends g c =
    let s = c.args.self.now in
    let o = c.args.outbox.now in
    let runs : s.running ≡ false = ap (λ (v : State). v.running) (sym c.self.view_is) ∙ c.if-not-self.true in
    subst (Appends o o) (sym (ap (λ (r : Bool). sends_of s.ports (holding_of s) (holding_of s) r (is_next_periodic s) Stop) runs)) (appends_none o)

pub returns-then-not-self-clause-outcome : goal.returns-then-not-self-clause-outcome
returns-then-not-self-clause-outcome g c =
    let s = c.args.self.now in
    let runs : s.running ≡ false = ap (λ (v : State). v.running) (sym c.self.view_is) ∙ c.if-not-self.true in
    sym (ap (λ (r : Bool). outcome_of s.ports s.up (offers s.routes) r Stop) runs)

pub halt-requires : goal.halt-requires
halt-requires g c =
    let s = c.args.self.now in
    let runs : s.running ≡ true = ap (λ (v : State). v.running) (sym c.self.view_is) ∙ c.if-not-self.false in
    (search, (runs, c.requires.room))

pub returns-clause-follows : goal.returns-clause-follows
returns-clause-follows g c = c.halt.ensures.follows

pub returns-clause-sends : goal.returns-clause-sends
returns-clause-sends g c = c.halt.ensures.sends

pub returns-clause-outcome : goal.returns-clause-outcome
returns-clause-outcome g c =
    let s = c.args.self.now in
    let runs : s.running ≡ true = ap (λ (v : State). v.running) (sym c.self.view_is) ∙ c.if-not-self.false in
    sym (ap (λ (r : Bool). outcome_of s.ports s.up (offers s.routes) r Stop) runs)
