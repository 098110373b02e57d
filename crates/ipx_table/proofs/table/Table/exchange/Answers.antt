use Rattle.std.proofs.Common.{rules, ◌≡◌, ◌∙◌, sym, ap, subst, List, ℕ, option_map, take, take_all, arith}
use Rattle.std.proofs.lemmas.Cmp.{on_total}
use Rattle.ipx_table.specs.inside.AfterOffer.{after_offer}
use Rattle.ipx_table.specs.Reading.{rules_of}
use Rattle.ipx_table.specs.Slots.{seen}
use Rattle.ipx_table.specs.inside.Clock.{IsSorted}
use Rattle.ipx_table.specs.inside.Sought.{answers_to}
use Rattle.ipx_table.specs.Stands.{Ascends, in_order, record_of}
use Rattle.ipx_table.specs.Taken.{is_change, known_of, offer_left, same_left, taken_over}
use Rattle.ipx_table.proofs.Exchanging.{left, same_beside}
use Rattle.ipx_table.proofs.Following.{stands_offered, taken_standing, sorted_offered, others_stay}
use Rattle.ipx_table.proofs.OneOffer.{offers-seen}
use Rattle.ipx_table.proofs.Placing.{distinct-ascending}
use Rattle.ipx_table.proofs.Searching.{ascends-offers}
use Rattle.ipx_table.proofs.Standing.{record-in_order}
use Rattle.ipx_table.proofs.table.Table.exchange.Goals as goal

pub place_near-found-requires : goal.place_near-found-requires
place_near-found-requires g c =
    let r = rules_of g.O.Offer.reading g.O.Key.Ord.cmp g.row.CAP c.args.self.now.shares in
    let total = on_total g.O.Offer.reading.key g.met.O.Key.Ord.total in
    let was = subst (λ (ps : List (g.row.O.Denot × ℕ)). IsSorted r.by_key ps c.self.inside.clock) (sym c.truncate.ensures) c.self.invariant.sorted in
    subst (λ (os : List g.row.O.Denot). Ascends r.by_key os) (offers-seen c.self.inside.clock c.truncate.new.self ∙ sym c.offers.ensures.value)
    (ascends-offers r.by_key total (seen c.self.inside.clock c.truncate.new.self) was.ascending)

pub take_offer-exchanged-requires : goal.take_offer-exchanged-requires
take_offer-exchanged-requires g c =
    let r = rules_of g.O.Offer.reading g.O.Key.Ord.cmp g.row.CAP c.deref.result.now in
    let sorted = subst (λ (ps : List (g.row.O.Denot × ℕ)). IsSorted r.by_key ps c.self.inside.clock) (sym c.truncate.ensures) c.self.invariant.sorted in
    let below = c.place_near-found.ensures.below
    ∙ ap (λ k. (answers_to (λ o. g.O.Key.Ord.cmp (g.O.Offer.reading.key o) k) c.offers.result.now).below) c.key.ensures
    ∙ ap (λ (os : List g.row.O.Denot). (answers_to (λ o. g.O.Key.Ord.cmp (g.O.Offer.reading.key o) (g.O.Offer.reading.key c.args.offer)) os).below) c.offers.ensures.value in
    let held = c.place_near-found.ensures.held
    ∙ ap (λ k. (answers_to (λ o. g.O.Key.Ord.cmp (g.O.Offer.reading.key o) k) c.offers.result.now).held) c.key.ensures
    ∙ ap (λ (os : List g.row.O.Denot). (answers_to (λ o. g.O.Key.Ord.cmp (g.O.Offer.reading.key o) (g.O.Offer.reading.key c.args.offer)) os).held) c.offers.ensures.value in
    search (rules, sorted, below, held)

pub invariant_of-self : goal.invariant_of-self
invariant_of-self g c =
    let r = rules_of g.O.Offer.reading g.O.Key.Ord.cmp g.row.CAP c.deref.result.now in
    let total = on_total g.O.Offer.reading.key g.met.O.Key.Ord.total in
    let was = subst (λ (ps : List (g.row.O.Denot × ℕ)). IsSorted r.by_key ps c.self.inside.clock) (sym c.truncate.ensures) c.self.invariant.sorted in
    let now = c.take_offer-exchanged.new.records in
    let whole : take c.len-self-inside.result now ≡ now = take_all c.len-self-inside.result now (omega (arith, c.len-self-inside.ensures.value)) in
    record {
      sorted = subst (λ (ps : List (g.row.O.Denot × ℕ)). IsSorted r.by_key ps c.self.inside.clock) (sym whole)
          (sorted_offered r total c.truncate.new.self now c.self.inside.clock c.args.offer was c.take_offer-exchanged.ensures.records c.take_offer-exchanged.ensures.slots);
      within = omega (arith, c.len-self-inside.ensures.value);
    }

pub returns-clause-stands : goal.returns-clause-stands
returns-clause-stands g c = λ facts stands.
    let r = rules_of g.O.Offer.reading g.O.Key.Ord.cmp g.row.CAP c.args.self.now.shares in
    let total = on_total g.O.Offer.reading.key g.met.O.Key.Ord.total in
    let was = subst (λ (ps : List (g.row.O.Denot × ℕ)). IsSorted r.by_key ps c.self.inside.clock) (sym c.truncate.ensures) c.self.invariant.sorted in
    let old = seen c.self.inside.clock c.truncate.new.self in
    let now = c.take_offer-exchanged.new.records in
    let whole : take c.len-self-inside.result now ≡ now = take_all c.len-self-inside.result now (omega (arith, c.len-self-inside.ensures.value)) in
    let new = seen c.self.inside.clock (take c.len-self-inside.result now) in
    let step = ap (seen c.self.inside.clock) whole
    ∙ subst (λ (shares : List ℕ). let s = rules_of g.O.Offer.reading g.O.Key.Ord.cmp g.row.CAP shares in seen c.self.inside.clock now ≡ in_order s.by_key (after_offer s old c.args.offer))
    (c.deref.ensures.0 ∙ ap (λ v. v.shares) c.self.view_is) c.take_offer-exchanged.ensures.records in
    stands_offered r total old new facts c.args.offer was.ascending step (ap (seen c.self.inside.clock) c.truncate.ensures ∙ ap (λ v. v.records) c.self.view_is ∙ stands)

pub returns-clause-answer : goal.returns-clause-answer
returns-clause-answer g c = λ facts stands.
    let r = rules_of g.O.Offer.reading g.O.Key.Ord.cmp g.row.CAP c.args.self.now.shares in
    let total = on_total g.O.Offer.reading.key g.met.O.Key.Ord.total in
    let old = seen c.self.inside.clock c.truncate.new.self in
    let answer = subst (λ (shares : List ℕ). let s = rules_of g.O.Offer.reading g.O.Key.Ord.cmp g.row.CAP shares in c.take_offer-exchanged.result.taken ≡ taken_over s g.O.PartialEq.eq old c.args.offer)
    (c.deref.ensures.0 ∙ ap (λ v. v.shares) c.self.view_is) c.take_offer-exchanged.ensures.answer in
    answer ∙ taken_standing r total g.O.PartialEq.eq old facts c.args.offer (ap (seen c.self.inside.clock) c.truncate.ensures ∙ ap (λ v. v.records) c.self.view_is ∙ stands)

pub returns-clause-others : goal.returns-clause-others
returns-clause-others g c = λ key other.
    let now = c.take_offer-exchanged.new.records in
    let whole : take c.len-self-inside.result now ≡ now = take_all c.len-self-inside.result now (omega (arith, c.len-self-inside.ensures.value)) in
    ap (λ ps. record_of g.O.Offer.reading.key g.O.Key.Ord.cmp key (seen c.self.inside.clock ps)) whole
    ∙ others_stay g.O.Offer.reading g.O.Key.Ord.cmp g.met.O.Key.Ord.total g.row.CAP c.deref.result.now
    (seen c.self.inside.clock c.truncate.new.self) (seen c.self.inside.clock now) c.args.offer c.take_offer-exchanged.ensures.records key other
    ∙ ap (λ ps. record_of g.O.Offer.reading.key g.O.Key.Ord.cmp key (seen c.self.inside.clock ps)) c.truncate.ensures
    ∙ ap (λ v. record_of g.O.Offer.reading.key g.O.Key.Ord.cmp key v.records) c.self.view_is

pub returns-clause-before : goal.returns-clause-before
returns-clause-before g c =
    let key = g.O.Offer.reading.key c.args.offer in
    c.take_offer-exchanged.ensures.before
    ∙ ap (λ ps. option_map (λ h. h.offer) (record_of g.O.Offer.reading.key g.O.Key.Ord.cmp key (seen c.self.inside.clock ps))) c.truncate.ensures
    ∙ ap (λ v. option_map (λ h. h.offer) (record_of g.O.Offer.reading.key g.O.Key.Ord.cmp key v.records)) c.self.view_is

pub returns-clause-after : goal.returns-clause-after
returns-clause-after g c =
    let shares = c.deref.result.now in
    let r = rules_of g.O.Offer.reading g.O.Key.Ord.cmp g.row.CAP shares in
    let total = on_total g.O.Offer.reading.key g.met.O.Key.Ord.total in
    let was = subst (λ (ps : List (g.row.O.Denot × ℕ)). IsSorted r.by_key ps c.self.inside.clock) (sym c.truncate.ensures) c.self.invariant.sorted in
    let old = seen c.self.inside.clock c.truncate.new.self in
    let now = c.take_offer-exchanged.new.records in
    let whole : take c.len-self-inside.result now ≡ now = take_all c.len-self-inside.result now (omega (arith, c.len-self-inside.ensures.value)) in
    let new = seen c.self.inside.clock (take c.len-self-inside.result now) in
    let key = g.O.Offer.reading.key c.args.offer in
    let told : record_of g.O.Offer.reading.key g.O.Key.Ord.cmp key new ≡ known_of r (after_offer r old c.args.offer) c.args.offer =
    ap (λ ps. record_of g.O.Offer.reading.key g.O.Key.Ord.cmp key (seen c.self.inside.clock ps)) whole
    ∙ ap (record_of g.O.Offer.reading.key g.O.Key.Ord.cmp key) c.take_offer-exchanged.ensures.records
    ∙ record-in_order g.O.Offer.reading g.O.Key.Ord.cmp g.met.O.Key.Ord.total g.row.CAP shares key (after_offer r old c.args.offer) in
    c.take_offer-exchanged.ensures.after
    ∙ ap (λ t. offer_left t c.take_offer-exchanged.result.before c.args.offer) c.take_offer-exchanged.ensures.answer
    ∙ ap (λ b. offer_left (taken_over r g.O.PartialEq.eq old c.args.offer) b c.args.offer) c.take_offer-exchanged.ensures.before
    ∙ sym (left r total g.O.PartialEq.eq old c.args.offer (distinct-ascending r.by_key total old was.ascending))
    ∙ sym (ap (option_map (λ h. h.offer)) told)

pub returns-clause-unchanged : goal.returns-clause-unchanged
returns-clause-unchanged g c = λ none.
    let r = rules_of g.O.Offer.reading g.O.Key.Ord.cmp g.row.CAP c.deref.result.now in
    let total = on_total g.O.Offer.reading.key g.met.O.Key.Ord.total in
    let eq = g.O.PartialEq.eq in
    let old = seen c.self.inside.clock c.truncate.new.self in
    let known = known_of r old c.args.offer in
    let answer = taken_over r eq old c.args.offer in
    let was = c.take_offer-exchanged.result.before in
    ap (same_left eq was) c.take_offer-exchanged.ensures.after
    ∙ ap (λ t. same_left eq was (offer_left t was c.args.offer)) c.take_offer-exchanged.ensures.answer
    ∙ ap (λ b. same_left eq b (offer_left answer b c.args.offer)) c.take_offer-exchanged.ensures.before
    ∙ same_beside r total eq g.met.O.Eq.laws.refl old c.args.offer known (sym (ap is_change c.take_offer-exchanged.ensures.answer) ∙ none)
