use Rattle.std.proofs.Common.{◌∙◌, sym, ap, subst, List, map, take}
use Rattle.std.proofs.lemmas.Cmp.{on_total}
use Rattle.ipx_table.specs.Reading.{rules_of}
use Rattle.ipx_table.specs.Slots.{seen}
use Rattle.ipx_table.specs.Stands.{Ascends}
use Rattle.ipx_table.proofs.OneOffer.{offers-seen}
use Rattle.ipx_table.proofs.Searching.{ascends-offers}
use Rattle.ipx_table.proofs.table.Table.offers.Goals as goal

pub returns-clause-value : goal.returns-clause-value
returns-clause-value g c =
    c.offers_before.ensures.value
    ∙ sym (offers-seen c.self.inside.clock (take c.self.inside.live c.self.inside.records))
    ∙ ap (λ v. map (λ h. h.offer) v.records) c.self.view_is

pub returns-clause-ascending : goal.returns-clause-ascending
returns-clause-ascending g c =
    let r = rules_of g.O.Offer.reading g.O.Key.Ord.cmp g.row.CAP c.args.self.now.shares in
    let total = on_total g.O.Offer.reading.key g.met.O.Key.Ord.total in
    subst (λ (os : List g.row.O.Denot). Ascends r.by_key os) (offers-seen c.self.inside.clock (take c.self.inside.live c.self.inside.records) ∙ sym c.offers_before.ensures.value)
    (ascends-offers r.by_key total (seen c.self.inside.clock (take c.self.inside.live c.self.inside.records)) c.self.invariant.sorted.ascending)
