use Rattle.std.proofs.Common.{rules, arith, ◌≡◌, ◌<◌, ap, subst, ℕ, true, List, length, Some, IfOk, IfErr}
use Rattle.std.specs.List.{AllByRecursion}
use Rattle.ipx_router.specs.Facts.{offers}
use Rattle.ipx_router.specs.inside.Judged.{IsVerdict}
use Rattle.ipx_router.specs.Port.{Port, is_up}
use Rattle.ipx_router.specs.Stands.{State}
use Rattle.ipx_router.specs.Why.{why}
use Rattle.ipx_router.proofs.histories.RouterOneEventMore.{ups_within, routes_up}
use Rattle.ipx_router.proofs.histories.StateAfterEachEvent.{state_of}
use Rattle.ipx_router.proofs.router.Router.judge.Goals as goal

pub judge-requires : goal.judge-requires
judge-requires g c =
    let i = c.self.inside in
    let s = state_of i.ports.items i.running i.up.items i.seconds i.routes.records i.services.records in
    let within : c.args.port < length s.ports = rw (ap (λ (v : State). length v.ports) c.self.view_is) c.requires in
    let port : c.args.port < length c.deref.result.now = rw c.deref.ensures.0 within in
    let ups : AllByRecursion (λ j. j < length c.deref.result.now) c.deref-2.result.now =
    rw (c.deref.ensures.0, c.deref-2.ensures.0) (ups_within g.row.R g.row.S s i.routes.shares i.services.shares c.self.invariant) in
    let by_ups : AllByRecursion (λ r. is_up c.deref-2.result.now r.port ≡ true) (offers i.routes.records) =
    rw c.deref-2.ensures.0 (routes_up g.row.R g.row.S s i.routes.shares i.services.shares c.self.invariant) in
    search (rules, port, ups, by_ups)

pub returns-clause-refused : goal.returns-clause-refused
returns-clause-refused g c =
    let i = c.self.inside in
    let s = state_of i.ports.items i.running i.up.items i.seconds i.routes.records i.services.records in
    let n = c.args.port in
    let b = c.args.bytes.now in
    subst (λ (x : State). IfErr c.judge.result (λ reason. why x.ports x.up (offers x.routes) x.running n b ≡ Some reason)) c.self.view_is
    (subst (λ (ps : List Port). IfErr c.judge.result (λ reason. why ps s.up (offers s.routes) s.running n b ≡ Some reason)) c.deref.ensures.0
    (subst (λ (us : List ℕ). IfErr c.judge.result (λ reason. why c.deref.result.now us (offers s.routes) s.running n b ≡ Some reason)) c.deref-2.ensures.0
    c.judge.ensures.refused))

pub returns-clause-verdict : goal.returns-clause-verdict
returns-clause-verdict g c =
    let i = c.self.inside in
    let s = state_of i.ports.items i.running i.up.items i.seconds i.routes.records i.services.records in
    let n = c.args.port in
    let b = c.args.bytes.now in
    subst (λ (x : State). IfOk c.judge.result (IsVerdict x.ports x.up (offers x.routes) x.running n b)) c.self.view_is
    (subst (λ (ps : List Port). IfOk c.judge.result (IsVerdict ps s.up (offers s.routes) s.running n b)) c.deref.ensures.0
    (subst (λ (us : List ℕ). IfOk c.judge.result (IsVerdict c.deref.result.now us (offers s.routes) s.running n b)) c.deref-2.ensures.0
    c.judge.ensures.verdict))

pub deref-requires : goal.deref-requires
deref-requires g c = grind arith

pub deref-requires-2 : goal.deref-requires-2
deref-requires-2 g c = grind arith
