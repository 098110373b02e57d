use Rattle.std.proofs.Common.{sym, ap, ◌∙◌, is_eq}
use Rattle.ipx_table.specs.inside.Sought.{answers_to}
use Rattle.ipx_table.proofs.Order.{is_equal}
use Rattle.ipx_table.proofs.Searching.{answered, equal_at, through_key}
use Rattle.ipx_table.proofs.sought.is_at.Goals as goal

pub returns-clause-below : goal.returns-clause-below
returns-clause-below g c = λ yes.
    let order = g.O.Key.Ord.cmp in
    let key_of = g.O.Offer.reading.key in
    let key = c.args.key.now in
    let it = c.index-offers-place.result in
    let equal = is_equal (order (key_of it) key) (ap is_eq (sym c.cmp_key.ensures) ∙ sym c.is_eq.ensures ∙ yes) in
    let there = answered (λ a b. order (key_of a) (key_of b)) (λ o. order (key_of o) key)
    (λ x y less e. through_key order g.met.O.Key.Ord.total (key_of x) (key_of y) key less e) c.args.offers.now c.args.place it c.if-place-offers.false c.requires in
    (equal_at (answers_to (λ o. order (key_of o) key) c.args.offers.now) c.args.place (sym there ∙ ap (λ o. order (key_of o) key) (sym c.index-offers-place.is) ∙ equal)).0

pub returns-clause-held : goal.returns-clause-held
returns-clause-held g c = λ yes.
    let order = g.O.Key.Ord.cmp in
    let key_of = g.O.Offer.reading.key in
    let key = c.args.key.now in
    let it = c.index-offers-place.result in
    let equal = is_equal (order (key_of it) key) (ap is_eq (sym c.cmp_key.ensures) ∙ sym c.is_eq.ensures ∙ yes) in
    let there = answered (λ a b. order (key_of a) (key_of b)) (λ o. order (key_of o) key)
    (λ x y less e. through_key order g.met.O.Key.Ord.total (key_of x) (key_of y) key less e) c.args.offers.now c.args.place it c.if-place-offers.false c.requires in
    (equal_at (answers_to (λ o. order (key_of o) key) c.args.offers.now) c.args.place (sym there ∙ ap (λ o. order (key_of o) key) (sym c.index-offers-place.is) ∙ equal)).1
