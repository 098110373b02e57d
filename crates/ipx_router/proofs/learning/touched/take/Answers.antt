use Rattle.std.proofs.Common.{◌∙◌, sym, is_eq}
use Rattle.ipx_router.specs.Facts.{offers}
use Rattle.ipx_router.proofs.changes.DiffersByOneFact.{found}
use Rattle.ipx_router.proofs.changes.EqualOffersAreOne.{exact_left}
use Rattle.ipx_router.proofs.changes.NotedInPlace.{all_stay, offers_stay, touches_same}
use Rattle.ipx_router.proofs.learning.touched.take.Goals as goal

pub returns-then-not-is_change-clause-touches : goal.returns-then-not-is_change-clause-touches
returns-then-not-is_change-clause-touches g c = λ exact before old.
    let key_of = g.O.Offer.reading.key in
    let order = g.O.Key.Ord.cmp in
    let total = g.met.O.Key.Ord.total in
    let now = c.args.table.now.records in
    let new = c.exchange-exchanged.new.self.records in
    let key = key_of c.args.offer.now in
    let was = c.exchange-exchanged.ensures.before ∙ sym (found (λ o. is_eq (order (key_of o) key)) now) in
    let is = c.exchange-exchanged.ensures.after ∙ sym (found (λ o. is_eq (order (key_of o) key)) new) in
    let one = exact_left g.O.PartialEq.eq exact c.exchange-exchanged.result.before c.exchange-exchanged.result.after
    (c.exchange-exchanged.ensures.unchanged (sym c.is_change.ensures ∙ c.if-not-is_change.true)) in
    touches_same key_of order total before (offers now) (offers new) c.args.touched.now.items
    (all_stay key_of order total key (offers now) (offers new)
    (λ other apart. offers_stay key_of order total now new other (c.exchange-exchanged.ensures.others other apart)) (sym was ∙ one ∙ is)) old

pub returns-clause-touches : goal.returns-clause-touches
returns-clause-touches g c = λ exact before old.
    let key_of = g.O.Offer.reading.key in
    let order = g.O.Key.Ord.cmp in
    let total = g.met.O.Key.Ord.total in
    let now = c.args.table.now.records in
    let new = c.exchange-exchanged.new.self.records in
    let key = key_of c.args.offer.now in
    let was = c.exchange-exchanged.ensures.before ∙ sym (found (λ o. is_eq (order (key_of o) key)) now) in
    let is = c.exchange-exchanged.ensures.after ∙ sym (found (λ o. is_eq (order (key_of o) key)) new) in
    c.note.ensures.touches before (offers now) (offers new) old was is
    (λ other apart. offers_stay key_of order total now new other (c.exchange-exchanged.ensures.others other apart))

pub exchange-exchanged-requires : goal.exchange-exchanged-requires
exchange-exchanged-requires g c = search

pub note-requires : goal.note-requires
note-requires g c = search
