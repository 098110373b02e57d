use Rattle.std.proofs.Common.{ap}
use Rattle.std.proofs.lemmas.Cmp.{on_total}
use Rattle.ipx_table.specs.Reading.{rules_of}
use Rattle.ipx_table.proofs.Refused.{refused, is_refusal}
use Rattle.ipx_table.proofs.laws.refused_offers.Goals as goal

pub returns-clause-worse : goal.returns-clause-worse
returns-clause-worse g c = λ capacity shares facts offer e.
    refused (rules_of g.O.Offer.reading g.O.Key.Ord.cmp capacity shares) (on_total g.O.Offer.reading.key g.met.O.Key.Ord.total) g.O.PartialEq.eq facts offer (ap is_refusal e)

pub returns-clause-full : goal.returns-clause-full
returns-clause-full g c = λ capacity shares facts offer e.
    refused (rules_of g.O.Offer.reading g.O.Key.Ord.cmp capacity shares) (on_total g.O.Offer.reading.key g.met.O.Key.Ord.total) g.O.PartialEq.eq facts offer (ap is_refusal e)

pub returns-clause-nothing : goal.returns-clause-nothing
returns-clause-nothing g c = λ capacity shares facts offer e.
    refused (rules_of g.O.Offer.reading g.O.Key.Ord.cmp capacity shares) (on_total g.O.Offer.reading.key g.met.O.Key.Ord.total) g.O.PartialEq.eq facts offer (ap is_refusal e)
