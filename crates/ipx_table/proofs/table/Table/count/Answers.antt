use Rattle.std.proofs.Common.{◌∙◌, ap, ◌==◌, length, filter, take}
use Rattle.ipx_table.specs.Reading.{port_of, count_by}
use Rattle.ipx_table.proofs.OneOffer.{count-seen}
use Rattle.ipx_table.proofs.table.Table.count.Goals as goal

pub returns : goal.returns
returns g c =
    c.count_by.ensures
    ∙ ap (λ os. length (filter (λ o. port_of g.O.Offer.reading o == c.args.port) os)) c.offers_before.ensures.value
    ∙ count-seen (port_of g.O.Offer.reading) c.args.port c.self.inside.clock (take c.self.inside.live c.self.inside.records)
    ∙ ap (λ v. count_by (port_of g.O.Offer.reading) c.args.port v.records) c.self.view_is
