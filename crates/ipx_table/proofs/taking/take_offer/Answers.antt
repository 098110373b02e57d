use Rattle.std.proofs.Common.{rules, ◌∙◌, sym, ap, option_map, arith}
use Rattle.std.proofs.lemmas.Cmp.{on_total}
use Rattle.ipx_table.specs.Reading.{rules_of}
use Rattle.ipx_table.specs.Slots.{seen}
use Rattle.ipx_table.proofs.OneOffer as one
use Rattle.ipx_table.specs.Taken.{taken_beside}
use Rattle.ipx_table.proofs.Halving.{found-whole}
use Rattle.ipx_table.proofs.Searching.{through_key}
use Rattle.ipx_table.proofs.taking.take_offer.Goals as goal

pub take_known-taken-requires : goal.take_known-taken-requires
take_known-taken-requires g c =
    let r = rules_of g.O.Offer.reading g.O.Key.Ord.cmp g.row.CAP c.args.shares.now in
    let total = on_total g.O.Offer.reading.key g.met.O.Key.Ord.total in
    let known = one.found_known r.by_key total c.args.clock c.args.records.now c.requires.sorted.ascending (λ o. r.by_key o c.args.offer.now)
    (λ x y less e. through_key r.by_key total x y c.args.offer.now less e) c.args.found c.requires.below c.requires.held c.in-Some.known
    (found-whole c.args.records.now c.len.result c.args.found.held c.args.found.below (omega (arith, c.len.ensures.value)) ∙ sym c.record_found.ensures ∙ c.in-Some.is) in
    search (rules, known.0, known.1)

pub returns-in-Some-clause-answer : goal.returns-in-Some-clause-answer
returns-in-Some-clause-answer g c =
    let r = rules_of g.O.Offer.reading g.O.Key.Ord.cmp g.row.CAP c.args.shares.now in
    let total = on_total g.O.Offer.reading.key g.met.O.Key.Ord.total in
    let known = one.found_known r.by_key total c.args.clock c.args.records.now c.requires.sorted.ascending (λ o. r.by_key o c.args.offer.now)
    (λ x y less e. through_key r.by_key total x y c.args.offer.now less e) c.args.found c.requires.below c.requires.held c.in-Some.known
    (found-whole c.args.records.now c.len.result c.args.found.held c.args.found.below (omega (arith, c.len.ensures.value)) ∙ sym c.record_found.ensures ∙ c.in-Some.is) in
    c.exchange_of.ensures.taken ∙ c.take_known-taken.ensures.answer ∙ ap (taken_beside r g.O.PartialEq.eq (seen c.args.clock c.args.records.now) c.args.offer.now) (sym known.2)

pub returns-in-Some-clause-before : goal.returns-in-Some-clause-before
returns-in-Some-clause-before g c =
    let r = rules_of g.O.Offer.reading g.O.Key.Ord.cmp g.row.CAP c.args.shares.now in
    let total = on_total g.O.Offer.reading.key g.met.O.Key.Ord.total in
    let known = one.found_known r.by_key total c.args.clock c.args.records.now c.requires.sorted.ascending (λ o. r.by_key o c.args.offer.now)
    (λ x y less e. through_key r.by_key total x y c.args.offer.now less e) c.args.found c.requires.below c.requires.held c.in-Some.known
    (found-whole c.args.records.now c.len.result c.args.found.held c.args.found.below (omega (arith, c.len.ensures.value)) ∙ sym c.record_found.ensures ∙ c.in-Some.is) in
    c.exchange_of.ensures.before ∙ ap (option_map (λ h. h.offer)) (sym known.2)

pub take_new-taken-requires : goal.take_new-taken-requires
take_new-taken-requires g c =
    let r = rules_of g.O.Offer.reading g.O.Key.Ord.cmp g.row.CAP c.args.shares.now in
    let total = on_total g.O.Offer.reading.key g.met.O.Key.Ord.total in
    let none = one.found_new r.by_key total c.args.clock c.args.records.now c.requires.sorted.ascending (λ o. r.by_key o c.args.offer.now)
    (λ x y less e. through_key r.by_key total x y c.args.offer.now less e) c.args.found c.requires.below c.requires.held
    (found-whole c.args.records.now c.len.result c.args.found.held c.args.found.below (omega (arith, c.len.ensures.value)) ∙ sym c.record_found.ensures ∙ c.in-None.is) in
    let place = one.below_told r.by_key total c.args.clock c.args.records.now c.requires.sorted.ascending (λ o. r.by_key o c.args.offer.now)
    (λ x y less e. through_key r.by_key total x y c.args.offer.now less e) c.args.found c.requires.below c.requires.held in
    search (rules, none.0, place)

pub returns-in-None-clause-answer : goal.returns-in-None-clause-answer
returns-in-None-clause-answer g c =
    let r = rules_of g.O.Offer.reading g.O.Key.Ord.cmp g.row.CAP c.args.shares.now in
    let total = on_total g.O.Offer.reading.key g.met.O.Key.Ord.total in
    let none = one.found_new r.by_key total c.args.clock c.args.records.now c.requires.sorted.ascending (λ o. r.by_key o c.args.offer.now)
    (λ x y less e. through_key r.by_key total x y c.args.offer.now less e) c.args.found c.requires.below c.requires.held
    (found-whole c.args.records.now c.len.result c.args.found.held c.args.found.below (omega (arith, c.len.ensures.value)) ∙ sym c.record_found.ensures ∙ c.in-None.is) in
    c.exchange_of-in-None.ensures.taken ∙ c.take_new-taken.ensures.answer ∙ ap (taken_beside r g.O.PartialEq.eq (seen c.args.clock c.args.records.now) c.args.offer.now) (sym none.1)

pub returns-in-None-clause-before : goal.returns-in-None-clause-before
returns-in-None-clause-before g c =
    let r = rules_of g.O.Offer.reading g.O.Key.Ord.cmp g.row.CAP c.args.shares.now in
    let total = on_total g.O.Offer.reading.key g.met.O.Key.Ord.total in
    let none = one.found_new r.by_key total c.args.clock c.args.records.now c.requires.sorted.ascending (λ o. r.by_key o c.args.offer.now)
    (λ x y less e. through_key r.by_key total x y c.args.offer.now less e) c.args.found c.requires.below c.requires.held
    (found-whole c.args.records.now c.len.result c.args.found.held c.args.found.below (omega (arith, c.len.ensures.value)) ∙ sym c.record_found.ensures ∙ c.in-None.is) in
    c.exchange_of-in-None.ensures.before ∙ ap (option_map (λ h. h.offer)) (sym none.1)
