use Rattle.std.proofs.Common.{rules, ◌≡◌, ◌∙◌, refl, sym, ap, subst, ◌<◌, true, false, List, ℕ, length}
use Rattle.std.specs.List.{AllByRecursion}
use Rattle.std.proofs.lemmas.Option.{slice_get_within}
use Rattle.std.proofs.lemmas.Cmp.{on_total}
use Rattle.ipx_table.specs.Reading.{rules_of}
use Rattle.ipx_table.specs.Slots.{seen}
use Rattle.ipx_table.specs.Alive.{lifetime}
use Rattle.ipx_table.proofs.OneOffer as one
use Rattle.ipx_table.proofs.Placing.{all-set, all-remove}
use Rattle.ipx_table.proofs.taking.take_own.Goals as goal

pub returns-then-is_down-clause-records : goal.returns-then-is_down-clause-records
returns-then-is_down-clause-records g c =
    let r = rules_of g.O.Offer.reading g.O.Key.Ord.cmp g.row.CAP c.args.shares.now in
    let total = on_total g.O.Offer.reading.key g.met.O.Key.Ord.total in
    let down : r.is_down c.args.offer.now ≡ true = sym c.is_down.ensures ∙ c.if-is_down.true in
    ap (seen c.args.clock) c.remove.ensures
    ∙ one.goes r total c.args.clock c.args.records.now c.requires.sorted c.args.place c.args.known.now c.args.offer.now c.requires.at c.requires.key
    (one.judged r total c.args.clock c.args.records.now c.requires.sorted c.args.place c.args.known.now c.args.offer.now c.requires.at c.requires.key ∙ rw down refl) c.requires.source

pub returns-then-is_down-clause-slots : goal.returns-then-is_down-clause-slots
returns-then-is_down-clause-slots g c =
    subst (λ (ps : List (g.row.O.Denot × ℕ)). AllByRecursion (λ p. p.1 < lifetime) ps) (sym c.remove.ensures)
    (all-remove (λ p. p.1 < lifetime) c.args.records.now c.args.place c.requires.sorted.slots)

pub put-requires : goal.put-requires
put-requires g c =
    let within : c.args.place < length c.args.records.now = slice_get_within c.args.records.now c.args.place c.args.known.now c.requires.at in
    search (rules, within)

pub returns-clause-records : goal.returns-clause-records
returns-clause-records g c =
    let r = rules_of g.O.Offer.reading g.O.Key.Ord.cmp g.row.CAP c.args.shares.now in
    let total = on_total g.O.Offer.reading.key g.met.O.Key.Ord.total in
    let up : r.is_down c.args.offer.now ≡ false = sym c.is_down.ensures ∙ c.if-is_down.false in
    let own = c.requires.source in
    ap (seen c.args.clock) c.put.ensures
    ∙ one.renewed r total c.args.clock c.args.records.now c.requires.sorted c.args.place c.args.known.now c.args.offer.now c.requires.at c.requires.key
    (one.judged r total c.args.clock c.args.records.now c.requires.sorted c.args.place c.args.known.now c.args.offer.now c.requires.at c.requires.key ∙ rw (up, own) refl)

pub returns-clause-slots : goal.returns-clause-slots
returns-clause-slots g c =
    subst (λ (ps : List (g.row.O.Denot × ℕ)). AllByRecursion (λ p. p.1 < lifetime) ps) (sym c.put.ensures)
    (all-set (λ p. p.1 < lifetime) c.args.records.now c.args.place (c.args.offer.now, c.args.clock) c.requires.sorted.slots c.requires.sorted.going)
