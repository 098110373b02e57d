use Rattle.std.proofs.Common.{◌∙◌, sym, ap, subst, ℕ, ◌≤◌, ◌==◌}
use Rattle.std.proofs.lemmas.Cmp.{on_total}
use Rattle.ipx_table.specs.Accepted.{marked}
use Rattle.ipx_table.specs.Alive.{alive}
use Rattle.ipx_table.specs.Reading.{rules_of, count_by}
use Rattle.ipx_table.proofs.Offers.{count-in_order}
use Rattle.ipx_table.proofs.Shares.{within_share, one_source-port}
use Rattle.ipx_table.proofs.laws.shares_hold.Goals as goal

pub returns-clause-within : goal.returns-clause-within
returns-clause-within g c = λ capacity shares. within_share (rules_of g.O.Offer.reading g.O.Key.Ord.cmp capacity shares) (one_source-port g.O.Offer.reading)

pub returns-clause-records : goal.returns-clause-records
returns-clause-records g c = λ capacity shares facts records port stands.
    let r = rules_of g.O.Offer.reading g.O.Key.Ord.cmp capacity shares in
    let total = on_total g.O.Offer.reading.key g.met.O.Key.Ord.total in
    let same = ap (count_by r.port port) stands ∙ count-in_order r total (λ h. r.port h.offer == port) (alive r (marked r facts)) in
    subst (λ (n : ℕ). n ≤ r.share port) (sym same) (within_share r (one_source-port g.O.Offer.reading) facts port)
