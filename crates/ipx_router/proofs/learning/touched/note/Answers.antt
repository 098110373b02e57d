use Rattle.std.proofs.Common.{◌≡◌, ◌∙◌, sym, ap, subst, false, ◌<◌, length, get_or, insert, List, Equal}
use Rattle.ipx_table.specs.Stands.{Ascends}
use Rattle.ipx_router.specs.inside.Touched.{Touches, is_touched}
use Rattle.ipx_router.specs.declared.learning.touched.Touched.{Touched}
use Rattle.ipx_router.proofs.changes.NotedInPlace.{touches_new}
use Rattle.ipx_router.proofs.changes.NotedAgain.{touches_again}
use Rattle.ipx_router.proofs.learning.touched.note.Goals as goal

pub returns-in-Ok-clause-touches : goal.returns-in-Ok-clause-touches
returns-in-Ok-clause-touches g c = λ before now new old was is stay.
    let key_of = g.O.Offer.reading.key in
    let order = g.O.Key.Ord.cmp in
    let all = c.args.touched.now.items in
    let one : Touched g.row.O.Denot = record { offer = c.args.offer.now; before = c.args.before.now; after = c.args.after.now } in
    let place = c.in-Ok.place in
    let known = subst (λ (xs : List (Touched g.row.O.Denot)). (place < length xs) × ((d : Touched g.row.O.Denot) → order (key_of (get_or xs place d).offer) c.key.result ≡ Equal))
    c.deref.ensures.0 c.in-Ok.ensures.known in
    let same = sym (ap (order (key_of (get_or all place one).offer)) c.key.ensures) ∙ known.1 one in
    subst (λ (xs : List (Touched g.row.O.Denot)). Touches key_of order before new xs) (sym (c.renew.ensures.value one))
    (touches_again key_of order g.met.O.Key.Ord.total before now new all place one (key_of one.offer) one.after old known.0 same is stay)

pub returns-in-Err-clause-touches : goal.returns-in-Err-clause-touches
returns-in-Err-clause-touches g c = λ before now new old was is stay.
    let key_of = g.O.Offer.reading.key in
    let order = g.O.Key.Ord.cmp in
    let all = c.args.touched.now.items in
    let one : Touched g.row.O.Denot = record { offer = c.args.offer.now; before = c.args.before.now; after = c.args.after.now } in
    let place = subst (λ (xs : List (Touched g.row.O.Denot)). Ascends (λ a b. order (key_of a.offer) (key_of b.offer)) xs
    → Ascends (λ a b. order (key_of a.offer) (key_of b.offer)) (insert xs c.in-Err.place one) × (is_touched key_of order c.key.result xs ≡ false))
    c.deref.ensures.0 (c.in-Err.ensures.gap one (sym c.key.ensures)) old.by_key in
    let none = subst (λ k. is_touched key_of order k all ≡ false) c.key.ensures place.1 in
    subst (λ (xs : List (Touched g.row.O.Denot)). Touches key_of order before new xs) (sym c.insert.ensures.items)
    (touches_new key_of order g.met.O.Key.Ord.total before now new all c.in-Err.place one old was is stay place.0 none)
