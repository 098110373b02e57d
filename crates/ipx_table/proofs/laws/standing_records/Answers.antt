use Rattle.std.proofs.Common.{sym, subst}
use Rattle.std.proofs.lemmas.Cmp.{on_total}
use Rattle.ipx_table.specs.Alive.{alive}
use Rattle.ipx_table.specs.Accepted.{marked}
use Rattle.ipx_table.specs.Reading.{rules_of}
use Rattle.ipx_table.specs.Stands.{IsAscending}
use Rattle.ipx_table.proofs.Living.{kept}
use Rattle.ipx_table.proofs.Members.{IsIn, ordered_in, in_ordered}
use Rattle.ipx_table.proofs.Places.{place_of, listed_at}
use Rattle.ipx_table.proofs.Ranks.{ascending-in_order}
use Rattle.ipx_table.proofs.laws.standing_records.Goals as goal

pub returns-clause-place : goal.returns-clause-place
returns-clause-place g c = λ capacity shares facts records k held stands there.
    let r = rules_of g.O.Offer.reading g.O.Key.Ord.cmp capacity shares in
    let in_it = in_ordered r.by_key held (alive r (marked r facts)) (subst (λ hs. IsIn r.by_key held hs) stands (k, there)) in
    place_of r (marked r facts) in_it.0 held in_it.1

pub returns-clause-listed : goal.returns-clause-listed
returns-clause-listed g c = λ capacity shares facts records place held stands alive_there.
    let r = rules_of g.O.Offer.reading g.O.Key.Ord.cmp capacity shares in
    subst (λ hs. IsIn r.by_key held hs) (sym stands) (ordered_in r.by_key held (alive r (marked r facts)) (listed_at r (marked r facts) place held alive_there))

pub returns-clause-ascending : goal.returns-clause-ascending
returns-clause-ascending g c = λ capacity shares facts records stands.
    let r = rules_of g.O.Offer.reading g.O.Key.Ord.cmp capacity shares in
    let total = on_total g.O.Offer.reading.key g.met.O.Key.Ord.total in
    subst (λ hs. IsAscending r.by_key hs) (sym stands) (ascending-in_order r.by_key total (alive r (marked r facts)) (kept r total facts).distinct)
