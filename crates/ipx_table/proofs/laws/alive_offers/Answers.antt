use Rattle.std.proofs.lemmas.Cmp.{on_total}
use Rattle.ipx_table.specs.Reading.{rules_of}
use Rattle.ipx_table.proofs.Living.{few, kept}
use Rattle.ipx_table.proofs.laws.alive_offers.Goals as goal

pub returns-clause-distinct : goal.returns-clause-distinct
returns-clause-distinct g c = λ capacity shares facts.
    (kept (rules_of g.O.Offer.reading g.O.Key.Ord.cmp capacity shares) (on_total g.O.Offer.reading.key g.met.O.Key.Ord.total) facts).distinct

pub returns-clause-few : goal.returns-clause-few
returns-clause-few g c = λ capacity shares facts. few (rules_of g.O.Offer.reading g.O.Key.Ord.cmp capacity shares) facts

pub returns-clause-young : goal.returns-clause-young
returns-clause-young g c = λ capacity shares facts.
    (kept (rules_of g.O.Offer.reading g.O.Key.Ord.cmp capacity shares) (on_total g.O.Offer.reading.key g.met.O.Key.Ord.total) facts).young
