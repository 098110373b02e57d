use Rattle.std.proofs.Common.{rules, refl, length}
use Rattle.std.proofs.lemmas.List.Sorted.{answers_always}
use Rattle.ipx_router.proofs.changes.NotedInPlace.{held_key, gap_behind, gap_found}
use Rattle.ipx_router.proofs.learning.touched.place_of.Goals as goal

pub returns-clause-known : goal.returns-clause-known
returns-clause-known g c =
    let facts = c.binary_search_by_key.ensures in
    let found = facts.position (λ t. g.O.Offer.reading.key t.offer) (answers_always _ _ _ (λ f a r h called. search rules)) in
    held_key g.O.Offer.reading.key g.O.Key.Ord.cmp g.met.O.Key.Ord.total c.args.key.now c.args.touched.now c.binary_search_by_key.result facts.bound found

pub returns-clause-gap : goal.returns-clause-gap
returns-clause-gap g c = λ t is up.
    let facts = c.binary_search_by_key.ensures in
    let found = facts.position (λ t. g.O.Offer.reading.key t.offer) (answers_always _ _ _ (λ f a r h called. search rules)) in
    gap_found g.O.Offer.reading.key g.O.Key.Ord.cmp g.met.O.Key.Ord.total c.args.key.now t is c.args.touched.now up c.binary_search_by_key.result facts.bound found

pub returns-then-is_behind-clause-gap : goal.returns-then-is_behind-clause-gap
returns-then-is_behind-clause-gap g c = λ t is up.
    gap_behind g.O.Offer.reading.key g.O.Key.Ord.cmp g.met.O.Key.Ord.total t c.args.key.now is c.args.touched.now (length c.args.touched.now) refl up
    (c.is_behind.ensures c.if-is_behind.true t)
