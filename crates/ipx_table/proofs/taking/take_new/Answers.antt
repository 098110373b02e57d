use Rattle.std.proofs.Common.{rules, ◌≡◌, ◌∙◌, refl, sym, ap, subst, ◌<◌, ◌≤◌, ◌==◌, nat_lt, length, true, false, List, ℕ, arith, is_lt}
use Rattle.std.specs.List.{AllByRecursion}
use Rattle.std.proofs.lemmas.Bool.{le-ltb, lt-ltb, eqb-true, eqb-false}
use Rattle.std.proofs.lemmas.List.{length-map}
use Rattle.std.proofs.lemmas.Cmp.{on_total}
use Rattle.ipx_table.specs.Reading.{rules_of}
use Rattle.ipx_table.specs.Slots.{seen, seen_at}
use Rattle.ipx_table.specs.Alive.{lifetime}
use Rattle.ipx_table.proofs.OneOffer as one
use Rattle.ipx_table.proofs.Placing.{all-insert}
use Rattle.ipx_table.specs.Accepted.{has_share}
use Rattle.ipx_table.proofs.Singles.{length-filter}
use Rattle.ipx_table.proofs.taking.take_new.Goals as goal

pub returns-then-is_down-clause-records : goal.returns-then-is_down-clause-records
returns-then-is_down-clause-records g c =
    let r = rules_of g.O.Offer.reading g.O.Key.Ord.cmp g.row.CAP c.args.shares.now in
    let total = on_total g.O.Offer.reading.key g.met.O.Key.Ord.total in
    let down : r.is_down c.args.offer.now ≡ true = sym c.is_down.ensures ∙ c.if-is_down.true in
    one.left r total c.args.clock c.args.records.now c.requires.sorted c.args.offer.now c.requires.none (rw down refl)

pub returns-then-is_full-clause-records : goal.returns-then-is_full-clause-records
returns-then-is_full-clause-records g c =
    let r = rules_of g.O.Offer.reading g.O.Key.Ord.cmp g.row.CAP c.args.shares.now in
    let total = on_total g.O.Offer.reading.key g.met.O.Key.Ord.total in
    let up : r.is_down c.args.offer.now ≡ false = sym c.is_down.ensures ∙ c.if-is_down.false in
    let told = seen c.args.clock c.args.records.now in
    let full : nat_lt (length told) g.row.CAP ≡ false = le-ltb (length told) g.row.CAP
    (omega (arith, length-map c.args.records.now (seen_at c.args.clock), eqb-true (length c.args.records.now) g.row.CAP (sym c.is_full.ensures.value ∙ c.if-is_full.true))) in
    one.left r total c.args.clock c.args.records.now c.requires.sorted c.args.offer.now c.requires.none (rw (up, full) refl)

pub has_share-requires : goal.has_share-requires
has_share-requires g c =
    let r = rules_of g.O.Offer.reading g.O.Key.Ord.cmp g.row.CAP c.args.shares.now in
    let apart = eqb-false (length c.args.records.now) g.row.CAP (sym c.is_full.ensures.value ∙ c.if-is_full.false) in
    let size : length c.offers.result.now ≡ length c.args.records.now = ap length c.offers.ensures.value ∙ length-map c.args.records.now (λ p. p.0) in
    record { below = omega (arith, length-filter (λ o. r.port o == c.source.result.0) c.offers.result.now, size, apart, c.is_full.ensures.fits) }

pub returns-then-not-has_share-clause-records : goal.returns-then-not-has_share-clause-records
returns-then-not-has_share-clause-records g c =
    let r = rules_of g.O.Offer.reading g.O.Key.Ord.cmp g.row.CAP c.args.shares.now in
    let total = on_total g.O.Offer.reading.key g.met.O.Key.Ord.total in
    let up : r.is_down c.args.offer.now ≡ false = sym c.is_down.ensures ∙ c.if-is_down.false in
    let told = seen c.args.clock c.args.records.now in
    let none_left : has_share r c.args.offer.now told ≡ false =
    sym (one.shared r c.args.clock c.args.records.now c.args.offer.now c.source.result.0 c.has_share.result c.offers.result.now c.offers.ensures.value (ap (λ s. s.0) c.source.ensures) c.has_share.ensures)
    ∙ c.if-not-has_share.true in
    one.left r total c.args.clock c.args.records.now c.requires.sorted c.args.offer.now c.requires.none (rw (up, none_left) (one.and_false (nat_lt (length told) g.row.CAP)))

pub returns-then-not-has_share-clause-answer : goal.returns-then-not-has_share-clause-answer
returns-then-not-has_share-clause-answer g c =
    let r = rules_of g.O.Offer.reading g.O.Key.Ord.cmp g.row.CAP c.args.shares.now in
    let up : r.is_down c.args.offer.now ≡ false = sym c.is_down.ensures ∙ c.if-is_down.false in
    let told = seen c.args.clock c.args.records.now in
    let none_left : has_share r c.args.offer.now told ≡ false =
    sym (one.shared r c.args.clock c.args.records.now c.args.offer.now c.source.result.0 c.has_share.result c.offers.result.now c.offers.ensures.value (ap (λ s. s.0) c.source.ensures) c.has_share.ensures)
    ∙ c.if-not-has_share.true in
    let no_room = one.and_false (nat_lt (length told) g.row.CAP) in
    rw (up, none_left, no_room) refl

pub insert-requires : goal.insert-requires
insert-requires g c =
    let r = rules_of g.O.Offer.reading g.O.Key.Ord.cmp g.row.CAP c.args.shares.now in
    let told = seen c.args.clock c.args.records.now in
    let apart = eqb-false (length c.args.records.now) g.row.CAP (sym c.is_full.ensures.value ∙ c.if-is_full.false) in
    let room : length c.args.records.now < g.row.CAP = omega (arith, apart, c.is_full.ensures.fits) in
    let within : c.args.below ≤ length c.args.records.now = omega (
      arith,
      c.requires.below,
      length-filter (λ h. is_lt (r.by_key h.offer c.args.offer.now)) told,
      length-map c.args.records.now (seen_at c.args.clock),
    ) in
    search (rules, within, room)

pub returns-clause-records : goal.returns-clause-records
returns-clause-records g c =
    let r = rules_of g.O.Offer.reading g.O.Key.Ord.cmp g.row.CAP c.args.shares.now in
    let total = on_total g.O.Offer.reading.key g.met.O.Key.Ord.total in
    let up : r.is_down c.args.offer.now ≡ false = sym c.is_down.ensures ∙ c.if-is_down.false in
    let told = seen c.args.clock c.args.records.now in
    let apart = eqb-false (length c.args.records.now) g.row.CAP (sym c.is_full.ensures.value ∙ c.if-is_full.false) in
    let room : nat_lt (length told) g.row.CAP ≡ true = lt-ltb (length told) g.row.CAP
    (omega (arith, length-map c.args.records.now (seen_at c.args.clock), apart, c.is_full.ensures.fits)) in
    let some_left : has_share r c.args.offer.now told ≡ true =
    sym (one.shared r c.args.clock c.args.records.now c.args.offer.now c.source.result.0 c.has_share.result c.offers.result.now c.offers.ensures.value (ap (λ s. s.0) c.source.ensures) c.has_share.ensures)
    ∙ c.if-not-has_share.false in
    ap (seen c.args.clock) c.insert.ensures
    ∙ one.added r total c.args.clock c.args.records.now c.requires.sorted c.args.offer.now c.args.below c.requires.below c.requires.none (rw (up, room, some_left) refl)

pub returns-clause-slots : goal.returns-clause-slots
returns-clause-slots g c =
    subst (λ (ps : List (g.row.O.Denot × ℕ)). AllByRecursion (λ p. p.1 < lifetime) ps) (sym c.insert.ensures)
    (all-insert (λ p. p.1 < lifetime) c.args.records.now c.args.below (c.args.offer.now, c.args.clock) c.requires.sorted.slots c.requires.sorted.going)

pub returns-clause-answer : goal.returns-clause-answer
returns-clause-answer g c =
    let r = rules_of g.O.Offer.reading g.O.Key.Ord.cmp g.row.CAP c.args.shares.now in
    let up : r.is_down c.args.offer.now ≡ false = sym c.is_down.ensures ∙ c.if-is_down.false in
    let told = seen c.args.clock c.args.records.now in
    let apart = eqb-false (length c.args.records.now) g.row.CAP (sym c.is_full.ensures.value ∙ c.if-is_full.false) in
    let room : nat_lt (length told) g.row.CAP ≡ true = lt-ltb (length told) g.row.CAP
    (omega (arith, length-map c.args.records.now (seen_at c.args.clock), apart, c.is_full.ensures.fits)) in
    let some_left : has_share r c.args.offer.now told ≡ true =
    sym (one.shared r c.args.clock c.args.records.now c.args.offer.now c.source.result.0 c.has_share.result c.offers.result.now c.offers.ensures.value (ap (λ s. s.0) c.source.ensures) c.has_share.ensures)
    ∙ c.if-not-has_share.false in
    rw (up, room, some_left) refl
