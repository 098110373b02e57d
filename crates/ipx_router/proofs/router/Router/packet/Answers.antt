use Rattle.std.proofs.Common.{◌≡◌, refl, sym, ap, ◌∙◌, subst, ℕ, Bool, List, Some}
use Rattle.ipx_wire.specs.Packet.{Parts}
use Rattle.ipx_wire.specs.declared.rip.Operation.TheVariants.{Request, Response}
use Rattle.ipx_wire.specs.declared.sap.Sap.TheVariants.{Query, Response as SapResponse}
use Rattle.ipx_router.specs.Heard.{HeardRip, HeardSap}
use Rattle.ipx_router.specs.Facts.{offers}
use Rattle.ipx_router.specs.inside.CheckGroups.{GoesAs}
use Rattle.ipx_router.specs.inside.Judged.{IsVerdict}
use Rattle.ipx_router.specs.Port.{port_at}
use Rattle.ipx_router.specs.Stands.{State}
use Rattle.ipx_router.specs.declared.judging.checks.Onward.{Onward}
use Rattle.ipx_router.specs.declared.judging.judge.Verdict.{Verdict}
use Rattle.ipx_router.specs.inside.Received.{IsPassed, IsHeard, IsSentOn, IsSentOnTo}
use Rattle.ipx_router.proofs.verdicts.EffectOfWhatCame.{dropped_follows, forwarded_becomes}
use Rattle.ipx_router.proofs.router.Router.packet.Goals as goal

abbrev Is : State → ℕ → List ℕ → Verdict → Type 0
Is s number bytes v = IsVerdict s.ports s.up (offers s.routes) s.running number bytes v

abbrev As : State → ℕ → Parts → Onward → Type 0
As s number p onward = GoesAs s.ports s.up (offers s.routes) (port_at s.ports number) p (Some onward)

pub learn_routes-requires : goal.learn_routes-requires
learn_routes-requires g c =
    let n = c.args.port in
    let b = c.args.bytes.now in
    let told = subst (λ (v : Verdict). Is c.args.self.now n b v) c.in-Ok-Rip.field-0-is c.in-Ok-Rip.ensures.verdict in
    let passes : IsPassed c.args.self.now n b = told.0 in
    let is : IsHeard c.args.self.now n b (HeardRip c.in-Ok-Rip.source c.in-Ok-Rip.rip) = told.1 in
    let says : c.in-Ok-Rip.rip.operation ≡ Response = sym c.operation.ensures ∙ c.in-Response.is in
    search (passes, is, says)

pub answer_routes-requires : goal.answer_routes-requires
answer_routes-requires g c =
    let n = c.args.port in
    let b = c.args.bytes.now in
    let told = subst (λ (v : Verdict). Is c.args.self.now n b v) c.in-Ok-Rip.field-0-is c.in-Ok-Rip.ensures.verdict in
    let passes : IsPassed c.args.self.now n b = told.0 in
    let is : IsHeard c.args.self.now n b (HeardRip c.in-Ok-Rip.source c.in-Ok-Rip.rip) = told.1 in
    let asks : c.in-Ok-Rip.rip.operation ≡ Request = sym c.operation.ensures ∙ c.in-Request.is in
    search (passes, is, asks)

pub learn_services-requires : goal.learn_services-requires
learn_services-requires g c =
    let n = c.args.port in
    let b = c.args.bytes.now in
    let told = subst (λ (v : Verdict). Is c.args.self.now n b v) c.in-Ok-Sap.field-0-is c.in-Ok-Sap.ensures.verdict in
    let passes : IsPassed c.args.self.now n b = told.0 in
    let is : (nearest : Bool) × IsHeard c.args.self.now n b (HeardSap c.in-Ok-Sap.source (SapResponse nearest c.in-Response-sap.entries)) =
    (c.in-Response-sap.nearest, told.1 ∙ ap (λ x. Some (HeardSap c.in-Ok-Sap.source x)) c.in-Response-sap.is) in
    search (passes, is)

pub answer_services-requires : goal.answer_services-requires
answer_services-requires g c =
    let n = c.args.port in
    let b = c.args.bytes.now in
    let told = subst (λ (v : Verdict). Is c.args.self.now n b v) c.in-Ok-Sap.field-0-is c.in-Ok-Sap.ensures.verdict in
    let passes : IsPassed c.args.self.now n b = told.0 in
    let is : IsHeard c.args.self.now n b (HeardSap c.in-Ok-Sap.source (Query c.in-Query.nearest c.in-Query.kind)) =
    told.1 ∙ ap (λ x. Some (HeardSap c.in-Ok-Sap.source x)) c.in-Query.is in
    search (passes, is)

pub propagate-requires : goal.propagate-requires
propagate-requires g c =
    let n = c.args.port in
    let b = c.args.bytes.now in
    let goes = subst (λ (v : Verdict). Is c.args.self.now n b v) c.in-Ok-Goes.field-0-is c.in-Ok-Goes.ensures.verdict in
    let how = subst (λ (o : Onward). As c.args.self.now n c.in-Ok-Goes.packet o) c.in-Propagate.is goes.1 in
    let on : IsSentOn c.args.self.now n b c.in-Ok-Goes.packet c.in-Propagate.crossed = (goes.0, how.0, how.1) in
    search on

pub forward-requires : goal.forward-requires
forward-requires g c =
    let n = c.args.port in
    let b = c.args.bytes.now in
    let goes = subst (λ (v : Verdict). Is c.args.self.now n b v) c.in-Ok-Goes.field-0-is c.in-Ok-Goes.ensures.verdict in
    let how = subst (λ (o : Onward). As c.args.self.now n c.in-Ok-Goes.packet o) c.in-Forward.is goes.1 in
    let on : IsSentOnTo c.args.self.now n b c.in-Ok-Goes.packet c.in-Forward.out c.in-Forward.link = (goes.0, how.0, how.1) in
    search on

pub returns-in-Err-clause-follows : goal.returns-in-Err-clause-follows
returns-in-Err-clause-follows g c =
    let n = c.args.port in
    let b = c.args.bytes.now in
    let told = c.in-Err.ensures.refused in
    dropped_follows c.args.self.now n b g.row.R g.row.S c.in-Err.why told

pub returns-in-Forward-clause-outcome : goal.returns-in-Forward-clause-outcome
returns-in-Forward-clause-outcome g c =
    let n = c.args.port in
    let b = c.args.bytes.now in
    let goes = subst (λ (v : Verdict). Is c.args.self.now n b v) c.in-Ok-Goes.field-0-is c.in-Ok-Goes.ensures.verdict in
    let how = subst (λ (o : Onward). As c.args.self.now n c.in-Ok-Goes.packet o) c.in-Forward.is goes.1 in
    let on : IsSentOnTo c.args.self.now n b c.in-Ok-Goes.packet c.in-Forward.out c.in-Forward.link = (goes.0, how.0, how.1) in
    sym (forwarded_becomes c.args.self.now n b c.args.self.now.ports c.args.self.now.up refl refl c.in-Ok-Goes.packet c.in-Forward.out c.in-Forward.link on)

pub operation-requires : goal.operation-requires
operation-requires g c = search

pub judge-requires : goal.judge-requires
judge-requires g c = (search, c.requires.port)
