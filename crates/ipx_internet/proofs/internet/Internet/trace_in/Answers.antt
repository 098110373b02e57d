use Rattle.std.proofs.Common.{◌≡◌, sym, ap, ◌∙◌, subst, ℕ, ◌≤◌, arith, is_err, IsErrAnd, IfErr, Result, Ok, Err, refl, length, List}
use Rattle.std.proofs.lemmas.Result.{err_from_is_err_and, IfErr-at_err, IfOk-from_err}
use Rattle.std.proofs.lemmas.Bool.{both_ways}
use Rattle.std.specs.List.{AllByRecursion}
use Rattle.ipx_router.specs.Stands.{State}
use Rattle.ipx_internet.specs.Internet.{IsPlace}
use Rattle.ipx_internet.specs.Listed.{told, IsCut}
use Rattle.ipx_internet.specs.Moment.{Moment, net_at}
use Rattle.ipx_internet.specs.inside.Simulated.{net_among}
use Rattle.ipx_internet.specs.Traced.{routers_of, tree, outcome_at}
use Rattle.ipx_internet.specs.Tree.{Copy, IsRouter, IsTree, root}
use Rattle.ipx_internet.specs.Weight.{weight}
use Rattle.ipx_internet.specs.declared.fault.TraceFault.{TraceFault}
use Rattle.ipx_internet.specs.declared.fault.TraceFault.TheVariants.{NoSuchPort, Limit, Memory}
use Rattle.ipx_internet.proofs.internet.Internet.trace_in.Goals as goal
use Rattle.ipx_internet.proofs.trees.ListedOfStations.{some_state}
use Rattle.ipx_internet.proofs.trees.OutcomeOfEachReception.{as_many, each_has_one, told_whole, told_each}

-- a fault that is told is what cut the listing short
cut_at : {T : Type 0} (r : Result T TraceFault) (cause : TraceFault) (limit count : ℕ) → IsErrAnd r (λ fault. fault ≡ cause) → IsCut limit count cause
    → IfErr r (λ fault. IsCut limit count fault)
cut_at (Ok x) cause limit count is cut = tt
cut_at (Err fault) cause limit count is cut = subst (λ (f : TraceFault). IsCut limit count f) (sym is) cut

cut_by : {T : Type 0} (r : Result T TraceFault) (cause : TraceFault) (limit count : ℕ) → IsErrAnd r (λ fault. fault ≡ cause) → IsCut limit count cause
    → (fault : TraceFault) → r ≡ Err fault → IsCut limit count fault
cut_by r cause limit count is cut fault told = IfErr-at_err (λ f. IsCut limit count f) told (cut_at r cause limit count is cut)

abbrev IsMissing : TraceFault → Type 0
IsMissing NoSuchPort = Unit
IsMissing Limit = ⊥
IsMissing Memory = ⊥

pub proves_sized-requires : goal.proves_sized-requires
proves_sized-requires g c =
    let same : c.args.self.now.routers ≡ c.deref.result.now = ap (λ (m : Moment). m.routers) (sym c.self.view_is) ∙ sym c.deref.ensures.value in
    some_state c.deref.result.now c.args.router c.args.port
    (subst (λ (ss : List State). IsPlace (net_among ss) (record { router = c.args.router; port = c.args.port })) same
    (c.has_place.ensures.0 c.if-not-has_place.false))

pub list_tree-requires : goal.list_tree-requires
list_tree-requires g c =
    let states = c.self.inside.routers.items in
    let same : c.args.self.now.routers ≡ states = ap (λ (m : Moment). m.routers) (sym c.self.view_is) in
    let tables : AllByRecursion IsRouter (routers_of states) = subst (λ (ss : List State). AllByRecursion IsRouter (routers_of ss)) same c.len.ensures.tables in
    let place : IsPlace (net_among states) (record { router = c.args.router; port = c.args.port }) =
    subst (λ (ss : List State). IsPlace (net_among ss) (record { router = c.args.router; port = c.args.port })) same
    (c.has_place.ensures.0 c.if-not-has_place.false) in
    (c.proves_sized.ensures, (c.self.invariant.sound.internet, (c.self.invariant.sound.nodes, (tables, (c.self.invariant.sound.stationed, place)))))

pub returns-clause-is_tree : goal.returns-clause-is_tree
returns-clause-is_tree g c =
    let states = c.self.inside.routers.items in
    let same : states ≡ c.args.self.now.routers = ap (λ (m : Moment). m.routers) c.self.view_is in
    let first : Copy = root (record { router = c.args.router; port = c.args.port }) c.args.bytes.now in
    let l = c.in_ok-listing.listing in
    told_whole (outcome_at (routers_of states)) (tree (routers_of states) first) l.copies l.outcomes c.in_ok-listing.ensures.copies c.in_ok-listing.ensures.outcomes
    ∙ ap (λ (ss : List State). tree (routers_of ss) first) same

pub returns-clause-outcomes : goal.returns-clause-outcomes
returns-clause-outcomes g c =
    let states = c.self.inside.routers.items in
    let same : states ≡ c.args.self.now.routers = ap (λ (m : Moment). m.routers) c.self.view_is in
    let first : Copy = root (record { router = c.args.router; port = c.args.port }) c.args.bytes.now in
    let l = c.in_ok-listing.listing in
    subst (λ (ss : List State). AllByRecursion (λ r. r.outcome ≡ outcome_at (routers_of ss) r.copy) (told l.copies l.outcomes)) same
    (told_each (outcome_at (routers_of states)) (tree (routers_of states) first) l.copies l.outcomes c.in_ok-listing.ensures.copies c.in_ok-listing.ensures.outcomes)

pub returns-clause-few : goal.returns-clause-few
returns-clause-few g c =
    let states = c.self.inside.routers.items in
    let first : Copy = root (record { router = c.args.router; port = c.args.port }) c.args.bytes.now in
    let l = c.in_ok-listing.listing in
    let both = each_has_one (outcome_at (routers_of states)) (tree (routers_of states) first) l.copies l.outcomes c.in_ok-listing.ensures.copies
    c.in_ok-listing.ensures.outcomes in
    let same = as_many l.copies l.outcomes both in
    let few = c.in_ok-listing.ensures.few in
    omega (arith, same, few)

pub returns-clause-bounded : goal.returns-clause-bounded
returns-clause-bounded g c =
    let states = c.self.inside.routers.items in
    let same : states ≡ c.args.self.now.routers = ap (λ (m : Moment). m.routers) c.self.view_is in
    let first : Copy = root (record { router = c.args.router; port = c.args.port }) c.args.bytes.now in
    let l = c.in_ok-listing.listing in
    let both = each_has_one (outcome_at (routers_of states)) (tree (routers_of states) first) l.copies l.outcomes c.in_ok-listing.ensures.copies
    c.in_ok-listing.ensures.outcomes in
    subst (λ (ss : List State). length (told l.copies l.outcomes) ≤ weight (net_among ss) first) same
    (subst (λ (n : ℕ). n ≤ weight (net_among states) first) (sym (as_many l.copies l.outcomes both)) c.in_ok-listing.ensures.bounded)

pub returns-in_err-listing-clause-is_tree : goal.returns-in_err-listing-clause-is_tree
returns-in_err-listing-clause-is_tree g c =
    IfOk-from_err c.from_residual.result _ (ap (λ r. is_err r) (err_from_is_err_and c.from_residual.result c.from_residual.ensures.1).1)

pub returns-in_err-listing-clause-outcomes : goal.returns-in_err-listing-clause-outcomes
returns-in_err-listing-clause-outcomes g c =
    IfOk-from_err c.from_residual.result _ (ap (λ r. is_err r) (err_from_is_err_and c.from_residual.result c.from_residual.ensures.1).1)

pub returns-in_err-listing-clause-few : goal.returns-in_err-listing-clause-few
returns-in_err-listing-clause-few g c =
    IfOk-from_err c.from_residual.result _ (ap (λ r. is_err r) (err_from_is_err_and c.from_residual.result c.from_residual.ensures.1).1)

pub returns-then-not-has_place-clause-missing : goal.returns-then-not-has_place-clause-missing
returns-then-not-has_place-clause-missing g c = (
  (λ _ place. both_ways c.has_place.result c.if-not-has_place.true (c.has_place.ensures.1 place)),
  (λ _. refl),
)

pub returns-then-not-has_place-clause-limit : goal.returns-then-not-has_place-clause-limit
returns-then-not-has_place-clause-limit g c = λ is. absurd (IfErr-at_err (λ fault. IsMissing fault) is tt)

pub returns-then-not-has_place-clause-memory : goal.returns-then-not-has_place-clause-memory
returns-then-not-has_place-clause-memory g c = λ is. absurd (IfErr-at_err (λ fault. IsMissing fault) is tt)

pub returns-then-not-has_place-clause-enough : goal.returns-then-not-has_place-clause-enough
returns-then-not-has_place-clause-enough g c = λ _ is. IfErr-at_err (λ fault. IsMissing fault) is tt

pub returns-in_err-listing-clause-missing : goal.returns-in_err-listing-clause-missing
returns-in_err-listing-clause-missing g c = (
  (λ is _. cut_by c.from_residual.result _ c.args.limit (length (tree (routers_of c.self.inside.routers.items) (root (record { router = c.args.router; port = c.args.port }) c.args.bytes.now))) c.from_residual.ensures.1 c.in_err-listing.ensures.refused NoSuchPort is),
  (λ none. absurd (none (c.has_place.ensures.0 c.if-not-has_place.false))),
)

pub returns-in_err-listing-clause-limit : goal.returns-in_err-listing-clause-limit
returns-in_err-listing-clause-limit g c =
    let same = ap (λ (m : Moment). length (tree (routers_of m.routers) (root (record { router = c.args.router; port = c.args.port }) c.args.bytes.now))) c.self.view_is in
    λ is. let cut = cut_by c.from_residual.result _ c.args.limit (length (tree (routers_of c.self.inside.routers.items) (root (record { router = c.args.router; port = c.args.port }) c.args.bytes.now))) c.from_residual.ensures.1 c.in_err-listing.ensures.refused Limit is in
    omega (arith, cut, same)

pub returns-in_err-listing-clause-memory : goal.returns-in_err-listing-clause-memory
returns-in_err-listing-clause-memory g c = λ is. cut_by c.from_residual.result _ c.args.limit (length (tree (routers_of c.self.inside.routers.items) (root (record { router = c.args.router; port = c.args.port }) c.args.bytes.now))) c.from_residual.ensures.1 c.in_err-listing.ensures.refused Memory is

pub returns-in_err-listing-clause-enough : goal.returns-in_err-listing-clause-enough
returns-in_err-listing-clause-enough g c =
    let same = ap (λ (m : Moment). weight (net_at m) (root (record { router = c.args.router; port = c.args.port }) c.args.bytes.now)) c.self.view_is in
    λ within is. let cut = cut_by c.from_residual.result _ c.args.limit (weight (net_among c.self.inside.routers.items) (root (record { router = c.args.router; port = c.args.port }) c.args.bytes.now)) c.from_residual.ensures.1 c.in_err-listing.ensures.enough Limit is in
    omega (arith, within, cut, same)

pub returns-clause-whole : goal.returns-clause-whole
returns-clause-whole g c =
    subst (λ (m : Moment). IsTree (routers_of m.routers) (root (record { router = c.args.router; port = c.args.port }) c.args.bytes.now) (tree (routers_of m.routers) (root (record { router = c.args.router; port = c.args.port }) c.args.bytes.now))) c.self.view_is c.in_ok-listing.ensures.whole

pub returns-clause-missing : goal.returns-clause-missing
returns-clause-missing g c = ((λ is _. IfErr-at_err (λ fault. ⊥) is tt), (λ none. absurd (none (c.has_place.ensures.0 c.if-not-has_place.false))))

pub returns-clause-limit : goal.returns-clause-limit
returns-clause-limit g c = λ is. absurd (IfErr-at_err (λ fault. ⊥) is tt)

pub returns-clause-memory : goal.returns-clause-memory
returns-clause-memory g c = λ is. absurd (IfErr-at_err (λ fault. ⊥) is tt)

pub returns-clause-enough : goal.returns-clause-enough
returns-clause-enough g c = λ _ is. IfErr-at_err (λ fault. ⊥) is tt

pub returns-in_err-listing-clause-whole : goal.returns-in_err-listing-clause-whole
returns-in_err-listing-clause-whole g c =
    IfOk-from_err c.from_residual.result _ (ap (λ r. is_err r) (err_from_is_err_and c.from_residual.result c.from_residual.ensures.1).1)

pub returns-in_err-listing-clause-bounded : goal.returns-in_err-listing-clause-bounded
returns-in_err-listing-clause-bounded g c =
    IfOk-from_err c.from_residual.result _ (ap (λ r. is_err r) (err_from_is_err_and c.from_residual.result c.from_residual.ensures.1).1)
