use Rattle.std.proofs.lemmas.Cmp.{on_total}
use Rattle.ipx_table.specs.Reading.{rules_of}
use Rattle.ipx_table.proofs.Standing.{stands-end}
use Rattle.ipx_table.proofs.table.Table.clear.Goals as goal

pub returns-clause-stands : goal.returns-clause-stands
returns-clause-stands g c = λ facts.
    let r = rules_of g.O.Offer.reading g.O.Key.Ord.cmp g.row.CAP c.args.self.now.shares in
    stands-end r (on_total g.O.Offer.reading.key g.met.O.Key.Ord.total) facts
