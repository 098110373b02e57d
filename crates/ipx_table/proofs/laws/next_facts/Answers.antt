use Rattle.std.proofs.Common.{[], ◌∷◌, ◌++◌, ap, ◌∙◌, sym, not, ◌==◌}
use Rattle.std.proofs.lemmas.Cmp.{on_total}
use Rattle.ipx_table.specs.Alive.{alive}
use Rattle.ipx_table.specs.Accepted.{marked}
use Rattle.ipx_table.specs.Facts.{Offered}
use Rattle.ipx_table.specs.Reading.{rules_of}
use Rattle.ipx_table.proofs.History.{alive_after-offered, alive_after-second, alive_after-port, alive_after-end}
use Rattle.ipx_table.proofs.Order.{filter-in_order}
use Rattle.ipx_table.proofs.Seconds.{second-in_order}
use Rattle.ipx_table.proofs.Standing.{record-others}
use Rattle.ipx_table.specs.Stands.{in_order}
use Rattle.ipx_table.proofs.laws.next_facts.Goals as goal

pub returns-clause-others : goal.returns-clause-others
returns-clause-others g c = λ capacity shares facts offer key.
    let r = rules_of g.O.Offer.reading g.O.Key.Ord.cmp capacity shares in
    let total = g.met.O.Key.Ord.total in
    record-others g.O.Offer.reading g.O.Key.Ord.cmp total capacity shares (alive r (marked r facts)) (alive r (marked r (facts ++ Offered offer ∷ []))) offer
    (ap (in_order r.by_key) (alive_after-offered r facts offer)) key

pub returns-clause-second : goal.returns-clause-second
returns-clause-second g c = λ capacity shares facts.
    let r = rules_of g.O.Offer.reading g.O.Key.Ord.cmp capacity shares in
    let total = on_total g.O.Offer.reading.key g.met.O.Key.Ord.total in
    ap (in_order r.by_key) (alive_after-second r facts) ∙ second-in_order r.by_key total (alive r (marked r facts))

pub returns-clause-port_end : goal.returns-clause-port_end
returns-clause-port_end g c = λ capacity shares facts port.
    let r = rules_of g.O.Offer.reading g.O.Key.Ord.cmp capacity shares in
    let total = on_total g.O.Offer.reading.key g.met.O.Key.Ord.total in
    ap (in_order r.by_key) (alive_after-port r facts port)
    ∙ sym (filter-in_order r.by_key total (λ h. not (r.port h.offer == port)) (alive r (marked r facts)))

pub returns-clause-end : goal.returns-clause-end
returns-clause-end g c = λ capacity shares facts.
    let r = rules_of g.O.Offer.reading g.O.Key.Ord.cmp capacity shares in
    ap (in_order r.by_key) (alive_after-end r facts)
