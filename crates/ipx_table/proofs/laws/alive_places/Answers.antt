use Rattle.ipx_table.specs.Reading.{rules_of}
use Rattle.ipx_table.proofs.Places.{place_of, listed_at}
use Rattle.ipx_table.proofs.laws.alive_places.Goals as goal

pub returns-clause-place : goal.returns-clause-place
returns-clause-place g c = λ capacity shares. place_of (rules_of g.O.Offer.reading g.O.Key.Ord.cmp capacity shares)

pub returns-clause-listed : goal.returns-clause-listed
returns-clause-listed g c = λ capacity shares. listed_at (rules_of g.O.Offer.reading g.O.Key.Ord.cmp capacity shares)
