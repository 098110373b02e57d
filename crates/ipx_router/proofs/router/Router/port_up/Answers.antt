use Rattle.std.proofs.Common.{◌≡◌, ◌∙◌, sym, ap, subst, ℕ, Bool, true, false, not, ◌&&◌, if◌then◌else◌, List, [], flat_map}
use Rattle.ipx_router.specs.Facts.{offers}
use Rattle.ipx_router.specs.inside.Following.{Follows, holding_of, is_next_periodic}
use Rattle.ipx_router.specs.History.{PortUp}
use Rattle.ipx_router.specs.Outbox.{Appends}
use Rattle.ipx_router.specs.Outcomes.{outcome_of}
use Rattle.ipx_router.specs.Port.{is_up}
use Rattle.ipx_router.specs.Sends.{sends_of, port_up_on}
use Rattle.ipx_router.specs.Stands.{State}
use Rattle.ipx_router.specs.declared.outcome.Outcome.TheVariants.{AlreadyUp, CameUp}
use Rattle.ipx_router.proofs.histories.StateAfterEachEvent.{state_of, already_up}
use Rattle.ipx_router.proofs.sending.OneAfterAnother.{appends_none}
use Rattle.ipx_router.proofs.router.Router.port_up.Goals as goal

pub returns-then-not-self-clause-follows : goal.returns-then-not-self-clause-follows
returns-then-not-self-clause-follows g c =
    let i = c.self.inside in
    let s = state_of i.ports.items i.running i.up.items i.seconds i.routes.records i.services.records in
    let n = c.args.port in
    subst (λ (v : State). Follows g.row.R g.row.S v v (PortUp n)) c.self.view_is
    (already_up g.row.R g.row.S s n (ap (λ (r : Bool). r && not (is_up s.up n)) c.if-not-self.true))

pub returns-then-not-self-clause-sends : goal.returns-then-not-self-clause-sends
returns-then-not-self-clause-sends g c =
    let s = c.args.self.now in
    let o = c.args.outbox.now in
    let n = c.args.port in
    let runs : s.running ≡ false = ap (λ (v : State). v.running) (sym c.self.view_is) ∙ c.if-not-self.true in
    subst (Appends o o) (sym (ap (λ (r : Bool). sends_of s.ports (holding_of s) (holding_of s) r (is_next_periodic s) (PortUp n)) runs)) (appends_none o)

pub returns-then-not-self-clause-outcome : goal.returns-then-not-self-clause-outcome
returns-then-not-self-clause-outcome g c =
    let s = c.args.self.now in
    let runs : s.running ≡ false = ap (λ (v : State). v.running) (sym c.self.view_is) ∙ c.if-not-self.true in
    sym (ap (λ (r : Bool). outcome_of s.ports s.up (offers s.routes) r (PortUp c.args.port)) runs)

pub returns-then-is_up-clause-follows : goal.returns-then-is_up-clause-follows
returns-then-is_up-clause-follows g c =
    let s = c.args.self.now in
    let n = c.args.port in
    let runs : s.running ≡ true = ap (λ (v : State). v.running) (sym c.self.view_is) ∙ c.if-not-self.false in
    let up : is_up s.up n ≡ true =
    ap (λ (v : State). is_up v.up n) (sym c.self.view_is) ∙ ap (λ (u : List ℕ). is_up u n) (sym c.deref.ensures.0) ∙ sym c.is_up.ensures ∙ c.if-is_up.true in
    already_up g.row.R g.row.S s n (ap (λ (r : Bool). r && not (is_up s.up n)) runs ∙ ap not up)

pub returns-then-is_up-clause-sends : goal.returns-then-is_up-clause-sends
returns-then-is_up-clause-sends g c =
    let s = c.args.self.now in
    let o = c.args.outbox.now in
    let n = c.args.port in
    let runs : s.running ≡ true = ap (λ (v : State). v.running) (sym c.self.view_is) ∙ c.if-not-self.false in
    let up : is_up s.up n ≡ true =
    ap (λ (v : State). is_up v.up n) (sym c.self.view_is) ∙ ap (λ (u : List ℕ). is_up u n) (sym c.deref.ensures.0) ∙ sym c.is_up.ensures ∙ c.if-is_up.true in
    let none : (s.running && not (is_up s.up n)) ≡ false = ap (λ (r : Bool). r && not (is_up s.up n)) runs ∙ ap not up in
    subst (Appends o o) (sym (ap (λ (b : Bool). if b then flat_map (port_up_on s.ports (holding_of s) n) s.up else []) none)) (appends_none o)

pub returns-then-is_up-clause-outcome : goal.returns-then-is_up-clause-outcome
returns-then-is_up-clause-outcome g c =
    let s = c.args.self.now in
    let n = c.args.port in
    let runs : s.running ≡ true = ap (λ (v : State). v.running) (sym c.self.view_is) ∙ c.if-not-self.false in
    let up : is_up s.up n ≡ true =
    ap (λ (v : State). is_up v.up n) (sym c.self.view_is) ∙ ap (λ (u : List ℕ). is_up u n) (sym c.deref.ensures.0) ∙ sym c.is_up.ensures ∙ c.if-is_up.true in
    sym (ap (λ (r : Bool). outcome_of s.ports s.up (offers s.routes) r (PortUp n)) runs ∙ ap (λ (b : Bool). if b then AlreadyUp else CameUp) up)

pub bring_up-requires : goal.bring_up-requires
bring_up-requires g c =
    let s = c.args.self.now in
    let n = c.args.port in
    let runs : s.running ≡ true = ap (λ (v : State). v.running) (sym c.self.view_is) ∙ c.if-not-self.false in
    let down : is_up s.up n ≡ false =
    ap (λ (v : State). is_up v.up n) (sym c.self.view_is) ∙ ap (λ (u : List ℕ). is_up u n) (sym c.deref.ensures.0) ∙ sym c.is_up.ensures ∙ c.if-is_up.false in
    (search, (c.requires.port, (runs, (down, c.requires.room))))

pub returns-clause-follows : goal.returns-clause-follows
returns-clause-follows g c = c.bring_up.ensures.follows

pub returns-clause-sends : goal.returns-clause-sends
returns-clause-sends g c = c.bring_up.ensures.sends

pub returns-clause-outcome : goal.returns-clause-outcome
returns-clause-outcome g c =
    let s = c.args.self.now in
    let n = c.args.port in
    let runs : s.running ≡ true = ap (λ (v : State). v.running) (sym c.self.view_is) ∙ c.if-not-self.false in
    let down : is_up s.up n ≡ false =
    ap (λ (v : State). is_up v.up n) (sym c.self.view_is) ∙ ap (λ (u : List ℕ). is_up u n) (sym c.deref.ensures.0) ∙ sym c.is_up.ensures ∙ c.if-is_up.false in
    sym (ap (λ (r : Bool). outcome_of s.ports s.up (offers s.routes) r (PortUp n)) runs ∙ ap (λ (b : Bool). if b then AlreadyUp else CameUp) down)
