use Rattle.std.proofs.Common.{◌∙◌, sym, ap, subst, ℕ, take}
use Rattle.std.specs.List.{list_any}
use Rattle.std.proofs.lemmas.Cmp.{on_total}
use Rattle.ipx_table.specs.Reading.{rules_of}
use Rattle.ipx_table.specs.Slots.{seen}
use Rattle.ipx_table.specs.inside.Clock.{next, IsSorted}
use Rattle.ipx_table.specs.Stands.{second_later, is_last}
use Rattle.ipx_table.proofs.Clocks.{next_going, quiet-seen}
use Rattle.ipx_table.proofs.Following.{stands_second, sorted_later, ascending-second}
use Rattle.ipx_table.proofs.table.Table.pass.Goals as goal

pub invariant_of-self : goal.invariant_of-self
invariant_of-self g c =
    let r = rules_of g.O.Offer.reading g.O.Key.Ord.cmp g.row.CAP c.args.self.now.shares in
    let total = on_total g.O.Offer.reading.key g.met.O.Key.Ord.total in
    let clock = c.self.inside.clock in
    let records = (take c.self.inside.live c.self.inside.records) in
    let quiet = ap (λ v. list_any is_last v.records) c.self.view_is ∙ c.requires.quiet in
    record {
      sorted = subst (λ (later : ℕ). IsSorted r.by_key records later) (sym c.next_slot-self-inside.ensures)
          (sorted_later r.by_key total records records clock (next clock) (second_later (seen clock records))
          (quiet-seen clock c.self.invariant.sorted.going records c.self.invariant.sorted.slots quiet)
          (ascending-second r.by_key total (seen clock records) c.self.invariant.sorted.ascending)
          c.self.invariant.sorted.slots (next_going clock c.self.invariant.sorted.going));
      within = c.self.invariant.within;
    }

pub returns-clause-records : goal.returns-clause-records
returns-clause-records g c =
    let clock = c.self.inside.clock in
    let records = (take c.self.inside.live c.self.inside.records) in
    let quiet = ap (λ v. list_any is_last v.records) c.self.view_is ∙ c.requires.quiet in
    ap (λ (later : ℕ). seen later records) c.next_slot-self-inside.ensures
    ∙ quiet-seen clock c.self.invariant.sorted.going records c.self.invariant.sorted.slots quiet
    ∙ ap (λ v. second_later v.records) c.self.view_is

pub returns-clause-stands : goal.returns-clause-stands
returns-clause-stands g c = λ facts stands.
    let r = rules_of g.O.Offer.reading g.O.Key.Ord.cmp g.row.CAP c.args.self.now.shares in
    let total = on_total g.O.Offer.reading.key g.met.O.Key.Ord.total in
    stands_second r total c.args.self.now.records (seen c.next_slot-self-inside.result (take c.self.inside.live c.self.inside.records)) facts (returns-clause-records g c) stands
