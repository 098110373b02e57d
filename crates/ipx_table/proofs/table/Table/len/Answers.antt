use Rattle.std.proofs.Common.{subst, take}
use Rattle.std.proofs.lemmas.Cmp.{on_total}
use Rattle.ipx_table.specs.Reading.{rules_of}
use Rattle.ipx_table.specs.Slots.{seen}
use Rattle.ipx_table.specs.Stands.{IsAscending, IsDistinct}
use Rattle.ipx_table.proofs.Placing.{distinct-ascending}
use Rattle.ipx_table.proofs.table.Table.len.Goals as goal

pub returns-clause-ascending : goal.returns-clause-ascending
returns-clause-ascending g c =
    let r = rules_of g.O.Offer.reading g.O.Key.Ord.cmp g.row.CAP c.args.self.now.shares in
    subst (λ v. IsAscending r.by_key v.records) c.self.view_is c.self.invariant.sorted.ascending

pub returns-clause-distinct : goal.returns-clause-distinct
returns-clause-distinct g c =
    let r = rules_of g.O.Offer.reading g.O.Key.Ord.cmp g.row.CAP c.args.self.now.shares in
    subst (λ v. IsDistinct r.by_key v.records) c.self.view_is
    (distinct-ascending r.by_key (on_total g.O.Offer.reading.key g.met.O.Key.Ord.total) (seen c.self.inside.clock (take c.self.inside.live c.self.inside.records)) c.self.invariant.sorted.ascending)
