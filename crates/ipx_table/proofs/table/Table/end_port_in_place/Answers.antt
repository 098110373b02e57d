use Rattle.std.proofs.Common.{◌≡◌, ◌∙◌, sym, ap, subst, not, ◌==◌, ◌<◌, List, ℕ, map, filter, take}
use Rattle.std.specs.List.{AllByRecursion}
use Rattle.std.proofs.lemmas.Cmp.{on_total}
use Rattle.ipx_table.specs.Alive.{lifetime}
use Rattle.ipx_table.specs.Reading.{rules_of, port_of}
use Rattle.ipx_table.specs.Slots.{seen}
use Rattle.ipx_table.specs.Stands.{Ascends, without_port, ended_with_port}
use Rattle.ipx_table.proofs.Following.{stands_port, sorted_later, ascending-filter, ascends-some, stay-seen, gone-seen}
use Rattle.ipx_table.proofs.Halving.{in_front, gone_behind, stay_within}
use Rattle.ipx_table.proofs.Singles.{all-filter}
use Rattle.ipx_table.proofs.table.Table.end_port_in_place.Goals as goal

pub invariant_of-self : goal.invariant_of-self
invariant_of-self g c =
    let r = rules_of g.O.Offer.reading g.O.Key.Ord.cmp g.row.CAP c.args.self.now.shares in
    let total = on_total g.O.Offer.reading.key g.met.O.Key.Ord.total in
    let clock = c.self.inside.clock in
    let goes = λ (p : g.row.O.Denot × ℕ). r.port p.0 == c.args.port in
    let was = take c.self.inside.live c.self.inside.records in
    let now = take c.part-self-inside.result c.part-self-inside.new.self in
    let left : now ≡ filter (λ p. not (goes p)) was =
    in_front goes c.truncate.new.self c.part-self-inside.new.self c.part-self-inside.result c.part-self-inside.ensures.parted c.part-self-inside.ensures.stay
    ∙ ap (filter (λ p. not (goes p))) c.truncate.ensures in
    record {
      sorted = sorted_later r.by_key total was now clock clock (without_port r.port c.args.port (seen clock was))
          (ap (seen clock) left ∙ stay-seen r.port c.args.port clock was)
          (ascending-filter r.by_key total (λ h. not (r.port h.offer == c.args.port)) (seen clock was) c.self.invariant.sorted.ascending)
          (subst (λ (ps : List (g.row.O.Denot × ℕ)). AllByRecursion (λ p. p.1 < lifetime) ps) (sym left)
          (all-filter (λ p. p.1 < lifetime) (λ p. not (goes p)) was c.self.invariant.sorted.slots))
          c.self.invariant.sorted.going;
      within = stay_within goes c.truncate.new.self c.part-self-inside.new.self c.part-self-inside.result c.part-self-inside.ensures.parted c.part-self-inside.ensures.stay;
    }

pub returns-clause-records : goal.returns-clause-records
returns-clause-records g c =
    let port = port_of g.O.Offer.reading in
    let goes = λ (p : g.row.O.Denot × ℕ). port p.0 == c.args.port in
    let clock = c.self.inside.clock in
    ap (seen clock)
    (in_front goes c.truncate.new.self c.part-self-inside.new.self c.part-self-inside.result c.part-self-inside.ensures.parted c.part-self-inside.ensures.stay
    ∙ ap (filter (λ p. not (goes p))) c.truncate.ensures)
    ∙ stay-seen port c.args.port clock (take c.self.inside.live c.self.inside.records)
    ∙ ap (λ v. without_port port c.args.port v.records) c.self.view_is

pub returns-clause-stands : goal.returns-clause-stands
returns-clause-stands g c = λ facts stands.
    let r = rules_of g.O.Offer.reading g.O.Key.Ord.cmp g.row.CAP c.args.self.now.shares in
    let total = on_total g.O.Offer.reading.key g.met.O.Key.Ord.total in
    stands_port r total c.args.self.now.records (seen c.self.inside.clock (take c.part-self-inside.result c.part-self-inside.new.self)) facts c.args.port
    (returns-clause-records g c) stands

pub returns-clause-ended : goal.returns-clause-ended
returns-clause-ended g c =
    let port = port_of g.O.Offer.reading in
    let goes = λ (p : g.row.O.Denot × ℕ). port p.0 == c.args.port in
    ap (map (λ p. p.0))
    (gone_behind goes c.truncate.new.self c.part-self-inside.new.self c.part-self-inside.result c.part-self-inside.ensures.parted c.part-self-inside.ensures.stay
    ∙ ap (filter goes) c.truncate.ensures)
    ∙ gone-seen port c.args.port c.self.inside.clock (take c.self.inside.live c.self.inside.records)
    ∙ ap (λ v. ended_with_port port c.args.port v.records) c.self.view_is

pub returns-clause-by_key : goal.returns-clause-by_key
returns-clause-by_key g c =
    let r = rules_of g.O.Offer.reading g.O.Key.Ord.cmp g.row.CAP c.args.self.now.shares in
    let total = on_total g.O.Offer.reading.key g.met.O.Key.Ord.total in
    let old = seen c.self.inside.clock (take c.self.inside.live c.self.inside.records) in
    subst (λ (os : List g.row.O.Denot). Ascends r.by_key os)
    (sym (returns-clause-ended g c ∙ sym (ap (λ v. ended_with_port r.port c.args.port v.records) c.self.view_is)))
    (ascends-some r.by_key total (λ h. r.port h.offer == c.args.port) old c.self.invariant.sorted.ascending)
