use Rattle.std.proofs.Common.{◌==◌, not, sym, ◌∙◌}
use Rattle.ipx_router.proofs.telling.NextServiceTold as one
use Rattle.ipx_router.proofs.telling.FromTheFirstChosen.{told_hops}
use Rattle.ipx_router.proofs.advertising.told_services.ToldServices.next_offer.Goals as goal

pub returns-in_err-offer-clause-none : goal.returns-in_err-offer-clause-none
returns-in_err-offer-clause-none c =
    let s = c.self.inside in
    let none = sym c.self.view_is ∙ one.no_service s.number s.services.now c.seek.result.now c.self.invariant c.seek.ensures c.in_err-offer.ensures.cases in
    rw c.from_residual.ensures (none, none)

pub invariant_of-self : goal.invariant_of-self
invariant_of-self c =
    let s = c.self.inside in
    one.others_ascend s.number s.services.now c.seek.result.now c.self.invariant c.seek.ensures c.in_ok-offer.offer.now c.in_ok-offer.others.now c.in_ok-offer.ensures.cases.0

pub returns-clause-some : goal.returns-clause-some
returns-clause-some c =
    let s = c.self.inside in
    sym c.self.view_is
    ∙ one.service_next s.number s.services.now c.seek.result.now c.self.invariant c.seek.ensures c.in_ok-offer.offer.now c.in_ok-offer.others.now c.in_ok-offer.ensures.cases.0

pub returns-clause-near : goal.returns-clause-near
returns-clause-near c =
    let s = c.self.inside in
    let offer = c.in_ok-offer.offer.now in
    told_hops (not (offer.port == s.number)) offer.service.hops
    (one.is_told s.number s.services.now c.seek.result.now c.self.invariant c.seek.ensures offer c.in_ok-offer.others.now c.in_ok-offer.ensures.cases.0)
