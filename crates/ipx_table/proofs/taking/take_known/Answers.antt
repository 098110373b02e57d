use Rattle.std.proofs.Common.{rules, ◌≡◌, ◌∙◌, refl, sym, ap, subst, ◌<◌, true, false, List, ℕ, length}
use Rattle.std.specs.List.{AllByRecursion}
use Rattle.std.proofs.lemmas.Option.{slice_get_within}
use Rattle.std.proofs.lemmas.Cmp.{on_total}
use Rattle.ipx_table.specs.Reading.{rules_of}
use Rattle.ipx_table.specs.Slots.{seen, seen_at}
use Rattle.ipx_table.specs.Alive.{lifetime}
use Rattle.ipx_table.proofs.OneOffer as one
use Rattle.ipx_table.proofs.Placing.{all-set}
use Rattle.ipx_table.specs.Accepted.{may_replace}
use Rattle.ipx_table.proofs.taking.take_known.Goals as goal

pub returns-then-is_down-clause-records : goal.returns-then-is_down-clause-records
returns-then-is_down-clause-records g c =
    let r = rules_of g.O.Offer.reading g.O.Key.Ord.cmp g.row.CAP c.args.shares.now in
    let total = on_total g.O.Offer.reading.key g.met.O.Key.Ord.total in
    let other : r.same_source c.args.known.now.0 c.args.offer.now ≡ false = sym c.is_of_one_source.ensures ∙ c.if-is_of_one_source.false in
    let down : r.is_down c.args.offer.now ≡ true = sym c.is_down.ensures ∙ c.if-is_down.true in
    one.stays r total c.args.clock c.args.records.now c.requires.sorted c.args.place c.args.known.now c.args.offer.now c.requires.at c.requires.key
    (one.judged r total c.args.clock c.args.records.now c.requires.sorted c.args.place c.args.known.now c.args.offer.now c.requires.at c.requires.key ∙ rw down refl) other

pub returns-then-not-is_worse-clause-records : goal.returns-then-not-is_worse-clause-records
returns-then-not-is_worse-clause-records g c =
    let r = rules_of g.O.Offer.reading g.O.Key.Ord.cmp g.row.CAP c.args.shares.now in
    let total = on_total g.O.Offer.reading.key g.met.O.Key.Ord.total in
    let other : r.same_source c.args.known.now.0 c.args.offer.now ≡ false = sym c.is_of_one_source.ensures ∙ c.if-is_of_one_source.false in
    let up : r.is_down c.args.offer.now ≡ false = sym c.is_down.ensures ∙ c.if-is_down.false in
    let better : r.is_worse c.args.known.now.0 c.args.offer.now ≡ false = sym c.is_worse.ensures ∙ c.if-not-is_worse.true in
    one.stays r total c.args.clock c.args.records.now c.requires.sorted c.args.place c.args.known.now c.args.offer.now c.requires.at c.requires.key
    (one.judged r total c.args.clock c.args.records.now c.requires.sorted c.args.place c.args.known.now c.args.offer.now c.requires.at c.requires.key ∙ rw (up, other, better) refl) other

pub returns-then-not-may_replace-clause-records : goal.returns-then-not-may_replace-clause-records
returns-then-not-may_replace-clause-records g c =
    let r = rules_of g.O.Offer.reading g.O.Key.Ord.cmp g.row.CAP c.args.shares.now in
    let total = on_total g.O.Offer.reading.key g.met.O.Key.Ord.total in
    let other : r.same_source c.args.known.now.0 c.args.offer.now ≡ false = sym c.is_of_one_source.ensures ∙ c.if-is_of_one_source.false in
    let up : r.is_down c.args.offer.now ≡ false = sym c.is_down.ensures ∙ c.if-is_down.false in
    let worse : r.is_worse c.args.known.now.0 c.args.offer.now ≡ true = sym c.is_worse.ensures ∙ c.if-not-is_worse.false in
    let may_not : may_replace r c.args.offer.now (seen c.args.clock c.args.records.now) (seen_at c.args.clock c.args.known.now) ≡ false =
    sym (c.may_replace.ensures c.args.clock) ∙ c.if-not-may_replace.true in
    one.stays r total c.args.clock c.args.records.now c.requires.sorted c.args.place c.args.known.now c.args.offer.now c.requires.at c.requires.key
    (one.judged r total c.args.clock c.args.records.now c.requires.sorted c.args.place c.args.known.now c.args.offer.now c.requires.at c.requires.key ∙ rw (up, other, worse, may_not) refl) other

pub put-requires : goal.put-requires
put-requires g c =
    let within : c.args.place < length c.args.records.now = slice_get_within c.args.records.now c.args.place c.args.known.now c.requires.at in
    search (rules, within)

pub returns-clause-records : goal.returns-clause-records
returns-clause-records g c =
    let r = rules_of g.O.Offer.reading g.O.Key.Ord.cmp g.row.CAP c.args.shares.now in
    let total = on_total g.O.Offer.reading.key g.met.O.Key.Ord.total in
    let other : r.same_source c.args.known.now.0 c.args.offer.now ≡ false = sym c.is_of_one_source.ensures ∙ c.if-is_of_one_source.false in
    let up : r.is_down c.args.offer.now ≡ false = sym c.is_down.ensures ∙ c.if-is_down.false in
    let worse : r.is_worse c.args.known.now.0 c.args.offer.now ≡ true = sym c.is_worse.ensures ∙ c.if-not-is_worse.false in
    let may : may_replace r c.args.offer.now (seen c.args.clock c.args.records.now) (seen_at c.args.clock c.args.known.now) ≡ true =
    sym (c.may_replace.ensures c.args.clock) ∙ c.if-not-may_replace.false in
    ap (seen c.args.clock) c.put.ensures
    ∙ one.renewed r total c.args.clock c.args.records.now c.requires.sorted c.args.place c.args.known.now c.args.offer.now c.requires.at c.requires.key
    (one.judged r total c.args.clock c.args.records.now c.requires.sorted c.args.place c.args.known.now c.args.offer.now c.requires.at c.requires.key ∙ rw (up, other, worse, may) refl)

pub returns-clause-slots : goal.returns-clause-slots
returns-clause-slots g c =
    subst (λ (ps : List (g.row.O.Denot × ℕ)). AllByRecursion (λ p. p.1 < lifetime) ps) (sym c.put.ensures)
    (all-set (λ p. p.1 < lifetime) c.args.records.now c.args.place (c.args.offer.now, c.args.clock) c.requires.sorted.slots c.requires.sorted.going)
