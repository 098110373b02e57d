use Rattle.std.proofs.Common.{◌≡◌, ◌<◌, ◌==◌, not, ◌∷◌, sym, ap, ◌∙◌, subst}
use Rattle.ipx_wire.specs.declared.rip.RipEntry.{RipEntry}
use Rattle.ipx_router.specs.Numbers.{unreachable}
use Rattle.ipx_router.specs.inside.Sources.{waits_before}
use Rattle.ipx_router.specs.Told.{network_before, told_at}
use Rattle.ipx_router.specs.inside.ToldRoutes.{routes_left}
use Rattle.ipx_router.proofs.telling.NextRouteTold as one
use Rattle.ipx_router.proofs.telling.FromTheFirstChosen.{told_hops, one_fewer, yields_none}
use Rattle.ipx_router.proofs.advertising.told_routes.ToldRoutesIterator.next.Goals as goal
use Rattle.ipx_router.proofs.advertising.told_routes.ToldRoutesIterator.next.Goals.{in-Some+else-not-is_direct_next, in_default}

pub told_at-learned-requires : goal.told_at-learned-requires
told_at-learned-requires c =
    let s = c.self.inside in
    let route = c.in-Some.route.now in
    subst (λ (e : RipEntry). e.hops < unreachable) (sym c.entry_of.ensures)
    (told_hops (not (route.port == s.number)) route.hops
    (one.is_told s.number s.cost s.direct.now s.routes.now c.seek-self-inside.result.now c.self.invariant c.seek-self-inside.ensures
    route c.in-Some.others.now c.in-Some.ensures.cases.0))

pub invariant_of-self : goal.invariant_of-self
invariant_of-self c =
    let s = c.self.inside in
    one.others_ascend s.number s.cost s.direct.now s.routes.now c.seek-self-inside.result.now c.self.invariant c.seek-self-inside.ensures
    c.in-Some.route.now c.in-Some.others.now c.in-Some.ensures.cases.0

learned : (c : goal.After-others-then-not-is_direct_next-1)
    → c.args.self.now ≡ c.told_at-learned.result ∷ routes_left c.self.inside.number c.self.inside.cost c.self.inside.direct.now c.in-Some.others.now
learned c =
    let s = c.self.inside in
    let others = c.in-Some.others.now in
    let told = ap (told_at s.cost) (sym c.entry_of.ensures) ∙ sym c.told_at-learned.ensures in
    sym c.self.view_is
    ∙ one.learned_next s.number s.cost s.direct.now s.routes.now c.seek-self-inside.result.now c.self.invariant c.seek-self-inside.ensures
    c.in-Some.route.now others c.in-Some.ensures.cases.0
    (ap (λ (e : RipEntry). waits_before network_before e s.direct.now) told ∙ sym c.is_direct_next.ensures ∙ c.if-not-is_direct_next.true)
    ∙ ap (λ (e : RipEntry). e ∷ routes_left s.number s.cost s.direct.now others) told

pub returns-then-not-is_direct_next-clause-steps :
    goal.returns-then-not-is_direct_next-clause-steps
returns-then-not-is_direct_next-clause-steps c = learned c

pub returns-then-not-is_direct_next-clause-goes : goal.returns-then-not-is_direct_next-clause-goes
returns-then-not-is_direct_next-clause-goes c = record { on = λ _. (tt, tt, one_fewer (learned c)); keeps = tt; rests = λ _. tt }

pub returns-in_err-entry-clause-steps : goal.returns-in_err-entry-clause-steps
returns-in_err-entry-clause-steps c =
    let s = c.self.inside in
    let left = c.seek-self-inside.result.now in
    let none : one.NothingLeft s.number s.cost s.direct.now s.routes.now left c.self.invariant c.seek-self-inside.ensures = elim c.match-split_first.branch [
      | in-Some+else-not-is_direct_next w ↦
          one.one_waits s.number s.cost s.direct.now s.routes.now left c.self.invariant c.seek-self-inside.ensures
          w.in-Some.route.now w.in-Some.others.now w.in-Some.ensures.cases.0
          (ap (λ (e : RipEntry). waits_before network_before e s.direct.now) (ap (told_at s.cost) (sym w.entry_of.ensures) ∙ sym w.told_at-learned.ensures)
          ∙ sym w.is_direct_next.ensures ∙ w.if-not-is_direct_next.false)
          c.in_err-entry.ensures.cases
      | in_default w ↦
          one.nothing_left s.number s.cost s.direct.now s.routes.now left c.self.invariant c.seek-self-inside.ensures
          w.in_default.ensures.cases c.in_err-entry.ensures.cases
    ] in
    yields_none c.from_residual.result c.from_residual.ensures (sym c.self.view_is ∙ none.0) none.1

pub invariant_of-self-2 : goal.invariant_of-self-2
invariant_of-self-2 c =
    let s = c.self.inside in
    one.left_ascends s.number s.cost s.direct.now s.routes.now c.seek-self-inside.result.now c.self.invariant c.seek-self-inside.ensures

direct : (c : goal.After-result-1)
    → c.args.self.now ≡ c.in_ok-entry.entry.now ∷ routes_left c.self.inside.number c.self.inside.cost c.in_ok-entry.others.now c.seek-self-inside.result.now
direct c =
    let s = c.self.inside in
    let left = c.seek-self-inside.result.now in
    let is = c.in_ok-entry.ensures.cases.0 in
    sym c.self.view_is
    ∙ elim c.match-split_first.branch [
      | in-Some+else-not-is_direct_next w ↦
          one.direct_next s.number s.cost s.direct.now s.routes.now left c.self.invariant c.seek-self-inside.ensures
          w.in-Some.route.now w.in-Some.others.now w.in-Some.ensures.cases.0
          (ap (λ (e : RipEntry). waits_before network_before e s.direct.now) (ap (told_at s.cost) (sym w.entry_of.ensures) ∙ sym w.told_at-learned.ensures)
          ∙ sym w.is_direct_next.ensures ∙ w.if-not-is_direct_next.false)
          c.in_ok-entry.entry.now c.in_ok-entry.others.now is
      | in_default w ↦
          one.alone_next s.number s.cost s.direct.now s.routes.now left c.self.invariant c.seek-self-inside.ensures
          w.in_default.ensures.cases c.in_ok-entry.entry.now c.in_ok-entry.others.now is
    ]

pub returns-clause-steps : goal.returns-clause-steps
returns-clause-steps c = direct c

pub returns-clause-goes : goal.returns-clause-goes
returns-clause-goes c = record { on = λ _. (tt, tt, one_fewer (direct c)); keeps = tt; rests = λ _. tt }
