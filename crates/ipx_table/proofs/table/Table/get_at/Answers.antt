use Rattle.std.proofs.Common.{◌≡◌, ◌∙◌, sym, ap, subst, ◌<◌, option_map, slice_get, IfSome, take}
use Rattle.std.proofs.lemmas.Cmp.{on_total}
use Rattle.std.proofs.lemmas.Option.{slice_get-map}
use Rattle.ipx_table.specs.Alive.{lifetime}
use Rattle.ipx_table.specs.Reading.{rules_of}
use Rattle.ipx_table.specs.Slots.{seen, seen_at}
use Rattle.ipx_table.specs.Stands.{smaller_than}
use Rattle.ipx_table.proofs.Clocks.{slot-got}
use Rattle.ipx_table.proofs.Ranks.{smaller-ascending}
use Rattle.ipx_table.proofs.table.Table.get_at.Goals as goal

pub returns-clause-smaller : goal.returns-clause-smaller
returns-clause-smaller g c =
    let r = rules_of g.O.Offer.reading g.O.Key.Ord.cmp g.row.CAP c.args.self.now.shares in
    let told = seen c.self.inside.clock (take c.self.inside.live c.self.inside.records) in
    let value = c.with_age.ensures ∙ ap (option_map (seen_at c.self.inside.clock)) c.get.ensures ∙ sym (slice_get-map (seen_at c.self.inside.clock) (take c.self.inside.live c.self.inside.records) c.args.k) in
    subst (λ v. IfSome c.with_age.result (λ h. smaller_than g.O.Offer.reading.key g.O.Key.Ord.cmp (g.O.Offer.reading.key h.offer) v.records ≡ c.args.k)) c.self.view_is
    (subst (λ o. IfSome o (λ h. smaller_than g.O.Offer.reading.key g.O.Key.Ord.cmp (g.O.Offer.reading.key h.offer) told ≡ c.args.k)) (sym value)
    (smaller-ascending r.by_key (on_total g.O.Offer.reading.key g.met.O.Key.Ord.total) told c.args.k c.self.invariant.sorted.ascending))

pub with_age-requires-clause-slot : goal.with_age-requires-clause-slot
with_age-requires-clause-slot g c =
    subst (λ o. IfSome o (λ p. p.1 < lifetime)) (sym c.get.ensures) (slot-got (take c.self.inside.live c.self.inside.records) c.args.k c.self.invariant.sorted.slots)

pub returns-clause-value : goal.returns-clause-value
returns-clause-value g c =
    c.with_age.ensures ∙ ap (option_map (seen_at c.self.inside.clock)) c.get.ensures
    ∙ sym (slice_get-map (seen_at c.self.inside.clock) (take c.self.inside.live c.self.inside.records) c.args.k)
    ∙ ap (λ v. slice_get v.records c.args.k) c.self.view_is
