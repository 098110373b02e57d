use Rattle.std.proofs.Common.{◌∙◌, sym, ap, subst, List, IfSome, ◌<◌, option_map, take}
use Rattle.std.proofs.lemmas.Cmp.{on_total}
use Rattle.ipx_table.specs.Alive.{lifetime}
use Rattle.ipx_table.specs.Reading.{rules_of}
use Rattle.ipx_table.specs.Slots.{seen, seen_at}
use Rattle.ipx_table.specs.inside.Sought.{answers_to}
use Rattle.ipx_table.specs.Stands.{Ascends, record_of}
use Rattle.ipx_table.proofs.Clocks.{slot-found}
use Rattle.ipx_table.proofs.OneOffer as one
use Rattle.ipx_table.proofs.Searching.{ascends-offers, through_key}
use Rattle.ipx_table.proofs.table.Table.get.Goals as goal

pub place_in-found-requires : goal.place_in-found-requires
place_in-found-requires g c =
    let r = rules_of g.O.Offer.reading g.O.Key.Ord.cmp g.row.CAP c.args.self.now.shares in
    let total = on_total g.O.Offer.reading.key g.met.O.Key.Ord.total in
    subst (λ (os : List g.row.O.Denot). Ascends r.by_key os) (one.offers-seen c.self.inside.clock (take c.self.inside.live c.self.inside.records) ∙ sym c.offers_before.ensures.value)
    (ascends-offers r.by_key total (seen c.self.inside.clock (take c.self.inside.live c.self.inside.records)) c.self.invariant.sorted.ascending)

pub with_age-requires-clause-slot : goal.with_age-requires-clause-slot
with_age-requires-clause-slot g c =
    subst (λ o. IfSome o (λ p. p.1 < lifetime)) (sym c.record_found.ensures)
    (slot-found (take c.self.inside.live c.self.inside.records) c.place_in-found.result.held c.place_in-found.result.below c.self.invariant.sorted.slots)

pub returns-clause-value : goal.returns-clause-value
returns-clause-value g c =
    let r = rules_of g.O.Offer.reading g.O.Key.Ord.cmp g.row.CAP c.args.self.now.shares in
    let total = on_total g.O.Offer.reading.key g.met.O.Key.Ord.total in
    let below = c.place_in-found.ensures.below
    ∙ ap (λ (os : List g.row.O.Denot). (answers_to (λ o. g.O.Key.Ord.cmp (g.O.Offer.reading.key o) c.args.key.now) os).below) c.offers_before.ensures.value in
    let held = c.place_in-found.ensures.held
    ∙ ap (λ (os : List g.row.O.Denot). (answers_to (λ o. g.O.Key.Ord.cmp (g.O.Offer.reading.key o) c.args.key.now) os).held) c.offers_before.ensures.value in
    c.with_age.ensures ∙ ap (option_map (seen_at c.self.inside.clock)) c.record_found.ensures
    ∙ one.found_told r.by_key total c.self.inside.clock (take c.self.inside.live c.self.inside.records) c.self.invariant.sorted.ascending (λ o. g.O.Key.Ord.cmp (g.O.Offer.reading.key o) c.args.key.now)
    (λ x y less e. through_key g.O.Key.Ord.cmp g.met.O.Key.Ord.total (g.O.Offer.reading.key x) (g.O.Offer.reading.key y) c.args.key.now less e)
    c.place_in-found.result below held
    ∙ ap (λ v. record_of g.O.Offer.reading.key g.O.Key.Ord.cmp c.args.key.now v.records) c.self.view_is
