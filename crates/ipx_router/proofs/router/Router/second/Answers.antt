use Rattle.std.proofs.Common.{◌≡◌, ◌∙◌, sym, ap, subst, Bool, true, false}
use Rattle.ipx_router.specs.Facts.{offers}
use Rattle.ipx_router.specs.inside.Following.{Follows, holding_of, is_next_periodic}
use Rattle.ipx_router.specs.History.{Second}
use Rattle.ipx_router.specs.Outbox.{Appends}
use Rattle.ipx_router.specs.Outcomes.{outcome_of}
use Rattle.ipx_router.specs.Sends.{sends_of}
use Rattle.ipx_router.specs.Stands.{State}
use Rattle.ipx_router.proofs.histories.StateAfterEachEvent.{state_of, stopped_second}
use Rattle.ipx_router.proofs.sending.OneAfterAnother.{appends_none}
use Rattle.ipx_router.proofs.router.Router.second.Goals as goal

pub returns-then-not-self-clause-follows : goal.returns-then-not-self-clause-follows
returns-then-not-self-clause-follows g c =
    let i = c.self.inside in
    let s = state_of i.ports.items i.running i.up.items i.seconds i.routes.records i.services.records in
    subst (λ (v : State). Follows g.row.R g.row.S v v Second) c.self.view_is (stopped_second g.row.R g.row.S s c.if-not-self.true)

pub returns-then-not-self-clause-sends : goal.returns-then-not-self-clause-sends
returns-then-not-self-clause-sends g c =
    let s = c.args.self.now in
    let o = c.args.outbox.now in
    let runs : s.running ≡ false = ap (λ (v : State). v.running) (sym c.self.view_is) ∙ c.if-not-self.true in
    subst (Appends o o) (sym (ap (λ (r : Bool). sends_of s.ports (holding_of s) (holding_of s) r (is_next_periodic s) Second) runs)) (appends_none o)

pub returns-then-not-self-clause-outcome : goal.returns-then-not-self-clause-outcome
returns-then-not-self-clause-outcome g c =
    let s = c.args.self.now in
    let runs : s.running ≡ false = ap (λ (v : State). v.running) (sym c.self.view_is) ∙ c.if-not-self.true in
    sym (ap (λ (r : Bool). outcome_of s.ports s.up (offers s.routes) r Second) runs)

pub tick-requires : goal.tick-requires
tick-requires g c =
    let s = c.args.self.now in
    let runs : s.running ≡ true = ap (λ (v : State). v.running) (sym c.self.view_is) ∙ c.if-not-self.false in
    (search, (runs, c.requires.room))

pub returns-clause-follows : goal.returns-clause-follows
returns-clause-follows g c = c.tick.ensures.follows

pub returns-clause-sends : goal.returns-clause-sends
returns-clause-sends g c = c.tick.ensures.sends

pub returns-clause-outcome : goal.returns-clause-outcome
returns-clause-outcome g c =
    let s = c.args.self.now in
    let runs : s.running ≡ true = ap (λ (v : State). v.running) (sym c.self.view_is) ∙ c.if-not-self.false in
    sym (ap (λ (r : Bool). outcome_of s.ports s.up (offers s.routes) r Second) runs)
