use Rattle.std.proofs.Common.{◌∙◌, sym, ap, subst, ℕ, ◌<◌, ◌==◌}
use Rattle.std.proofs.lemmas.Cmp.{on_total}
use Rattle.ipx_table.specs.Accepted.{marked}
use Rattle.ipx_table.specs.Alive.{alive}
use Rattle.ipx_table.specs.Reading.{rules_of, count_by}
use Rattle.ipx_table.specs.Stands.{record_of}
use Rattle.ipx_table.proofs.Offers.{count-in_order}
use Rattle.ipx_table.proofs.Room.{room, admitted_with_room}
use Rattle.ipx_table.proofs.Shares.{within_share, one_source-port}
use Rattle.ipx_table.proofs.Standing.{record-in_order}
use Rattle.ipx_table.proofs.laws.room_within_a_share.Goals as goal

pub returns-clause-admitted : goal.returns-clause-admitted
returns-clause-admitted g c = λ capacity shares ports facts offer shared up none less.
    let r = rules_of g.O.Offer.reading g.O.Key.Ord.cmp capacity shares in
    admitted_with_room r g.O.PartialEq.eq facts offer up none (room r ports facts offer shared (within_share r (one_source-port g.O.Offer.reading) facts) less) less

pub returns-clause-records : goal.returns-clause-records
returns-clause-records g c = λ capacity shares ports facts records offer stands shared up none less.
    let r = rules_of g.O.Offer.reading g.O.Key.Ord.cmp capacity shares in
    let total = on_total g.O.Offer.reading.key g.met.O.Key.Ord.total in
    let living = alive r (marked r facts) in
    let none_alive = sym (record-in_order g.O.Offer.reading g.O.Key.Ord.cmp g.met.O.Key.Ord.total capacity shares (g.O.Offer.reading.key offer) living)
    ∙ ap (record_of g.O.Offer.reading.key g.O.Key.Ord.cmp (g.O.Offer.reading.key offer)) (sym stands) ∙ none in
    let less_alive = subst (λ (n : ℕ). n < r.share (r.port offer))
    (ap (count_by r.port (r.port offer)) stands ∙ count-in_order r total (λ h. r.port h.offer == r.port offer) living) less in
    returns-clause-admitted g c capacity shares ports facts offer shared up none_alive less_alive
