use Rattle.std.proofs.Common.{◌≡◌, ◌∙◌, sym, ap, subst, not, ◌==◌, ◌<◌, List, ℕ, map, filter, take}
use Rattle.std.specs.List.{AllByRecursion}
use Rattle.std.proofs.lemmas.Cmp.{on_total}
use Rattle.ipx_table.specs.Alive.{lifetime}
use Rattle.ipx_table.specs.Reading.{rules_of}
use Rattle.ipx_table.specs.Slots.{seen}
use Rattle.ipx_table.specs.inside.Clock.{next, IsSorted}
use Rattle.ipx_table.specs.Stands.{Ascends, second_later, ended, is_last}
use Rattle.ipx_table.proofs.Clocks.{next_going, second-seen, ended-seen}
use Rattle.ipx_table.proofs.Following.{stands_second, sorted_later, ascending-second, ascends-some}
use Rattle.ipx_table.proofs.Halving.{in_front, gone_behind, stay_within}
use Rattle.ipx_table.proofs.Singles.{all-filter}
use Rattle.ipx_table.proofs.table.Table.second_in_place.Goals as goal

pub invariant_of-self : goal.invariant_of-self
invariant_of-self g c =
    let r = rules_of g.O.Offer.reading g.O.Key.Ord.cmp g.row.CAP c.args.self.now.shares in
    let total = on_total g.O.Offer.reading.key g.met.O.Key.Ord.total in
    let clock = c.self.inside.clock in
    let slot = c.next_slot-self-inside.result in
    let was = take c.self.inside.live c.self.inside.records in
    let now = take c.part-self-inside.result c.part-self-inside.new.self in
    let left : now ≡ filter (λ p. not (p.1 == next clock)) was =
    in_front (λ p. p.1 == slot) c.truncate.new.self c.part-self-inside.new.self c.part-self-inside.result c.part-self-inside.ensures.parted c.part-self-inside.ensures.stay
    ∙ ap (filter (λ p. not (p.1 == slot))) c.truncate.ensures
    ∙ ap (λ (s : ℕ). filter (λ p. not (p.1 == s)) was) c.next_slot-self-inside.ensures in
    record {
      sorted = subst (λ (later : ℕ). IsSorted r.by_key now later) (sym c.next_slot-self-inside.ensures)
          (sorted_later r.by_key total was now clock (next clock) (second_later (seen clock was))
          (ap (seen (next clock)) left ∙ second-seen clock c.self.invariant.sorted.going was c.self.invariant.sorted.slots)
          (ascending-second r.by_key total (seen clock was) c.self.invariant.sorted.ascending)
          (subst (λ (ps : List (g.row.O.Denot × ℕ)). AllByRecursion (λ p. p.1 < lifetime) ps) (sym left)
          (all-filter (λ p. p.1 < lifetime) (λ p. not (p.1 == next clock)) was c.self.invariant.sorted.slots))
          (next_going clock c.self.invariant.sorted.going));
      within = stay_within (λ p. p.1 == slot) c.truncate.new.self c.part-self-inside.new.self c.part-self-inside.result c.part-self-inside.ensures.parted c.part-self-inside.ensures.stay;
    }

pub returns-clause-records : goal.returns-clause-records
returns-clause-records g c =
    let clock = c.self.inside.clock in
    let slot = c.next_slot-self-inside.result in
    let was = take c.self.inside.live c.self.inside.records in
    ap (seen slot)
    (in_front (λ p. p.1 == slot) c.truncate.new.self c.part-self-inside.new.self c.part-self-inside.result c.part-self-inside.ensures.parted c.part-self-inside.ensures.stay
    ∙ ap (filter (λ p. not (p.1 == slot))) c.truncate.ensures)
    ∙ ap (λ (s : ℕ). seen s (filter (λ p. not (p.1 == s)) was)) c.next_slot-self-inside.ensures
    ∙ second-seen clock c.self.invariant.sorted.going was c.self.invariant.sorted.slots
    ∙ ap (λ v. second_later v.records) c.self.view_is

pub returns-clause-stands : goal.returns-clause-stands
returns-clause-stands g c = λ facts stands.
    let r = rules_of g.O.Offer.reading g.O.Key.Ord.cmp g.row.CAP c.args.self.now.shares in
    let total = on_total g.O.Offer.reading.key g.met.O.Key.Ord.total in
    stands_second r total c.args.self.now.records (seen c.next_slot-self-inside.result (take c.part-self-inside.result c.part-self-inside.new.self)) facts (returns-clause-records g c) stands

pub returns-clause-ended : goal.returns-clause-ended
returns-clause-ended g c =
    let slot = c.next_slot-self-inside.result in
    let was = take c.self.inside.live c.self.inside.records in
    ap (map (λ p. p.0))
    (gone_behind (λ p. p.1 == slot) c.truncate.new.self c.part-self-inside.new.self c.part-self-inside.result c.part-self-inside.ensures.parted c.part-self-inside.ensures.stay
    ∙ ap (filter (λ p. p.1 == slot)) c.truncate.ensures)
    ∙ ap (λ (s : ℕ). map (λ p. p.0) (filter (λ p. p.1 == s) was)) c.next_slot-self-inside.ensures
    ∙ ended-seen c.self.inside.clock c.self.invariant.sorted.going was c.self.invariant.sorted.slots
    ∙ ap (λ v. ended v.records) c.self.view_is

pub returns-clause-by_key : goal.returns-clause-by_key
returns-clause-by_key g c =
    let r = rules_of g.O.Offer.reading g.O.Key.Ord.cmp g.row.CAP c.args.self.now.shares in
    let total = on_total g.O.Offer.reading.key g.met.O.Key.Ord.total in
    let old = seen c.self.inside.clock (take c.self.inside.live c.self.inside.records) in
    subst (λ (os : List g.row.O.Denot). Ascends r.by_key os) (sym (returns-clause-ended g c ∙ sym (ap (λ v. ended v.records) c.self.view_is)))
    (ascends-some r.by_key total is_last old c.self.invariant.sorted.ascending)
