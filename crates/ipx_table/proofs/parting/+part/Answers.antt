use Rattle.std.proofs.Common.{rules, ◌≡◌, ◌∙◌, sym, ap, ap₂, ◌+◌, ◌-◌, ◌/◌, ◌<◌, ◌≤◌, ℕ, not, List, ◌++◌, length, take, drop, filter, arith, length-append, length-take-le, take-append-drop}
use Rattle.std.specs.List.{zip}
use Rattle.std.proofs.lemmas.List.Elements.{filter-append}
use Rattle.ipx_table.specs.Reading.{port_of}
use Rattle.ipx_table.specs.inside.Clock.{ends}
use Rattle.ipx_table.proofs.Halving.{all_stay, all_end, none_goes, none_stays, two_at_least, append-pairs, drop-pairs, halves, turned, turn-pairs, turn-parted}
use Rattle.ipx_table.proofs.Pairs.{length-pairs, take-pairs}
use Rattle.ipx_table.proofs.parting.+part.Goals as goal

pub returns-then-not-any_ends-clause-parted : goal.returns-then-not-any_ends-clause-parted
returns-then-not-any_ends-clause-parted g t c =
    all_stay (ends (port_of g.O.Offer.reading) c.args.ending) (zip c.args.offers.now c.args.slots.now) (sym c.any_ends.ensures ∙ c.if-not-any_ends.true)

pub returns-then-not-any_ends-clause-stay : goal.returns-then-not-any_ends-clause-stay
returns-then-not-any_ends-clause-stay g t c =
    sym (length-pairs c.args.offers.now c.args.slots.now c.requires.lengths)
    ∙ ap length (sym (none_goes (ends (port_of g.O.Offer.reading) c.args.ending) (zip c.args.offers.now c.args.slots.now) (sym c.any_ends.ensures ∙ c.if-not-any_ends.true)).1)

pub returns-then-not-any_stays-clause-parted : goal.returns-then-not-any_stays-clause-parted
returns-then-not-any_stays-clause-parted g t c =
    all_end (ends (port_of g.O.Offer.reading) c.args.ending) (zip c.args.offers.now c.args.slots.now) (sym c.any_stays.ensures ∙ c.if-not-any_stays.true)

pub returns-then-not-any_stays-clause-stay : goal.returns-then-not-any_stays-clause-stay
returns-then-not-any_stays-clause-stay g t c =
    ap length (sym (none_stays (ends (port_of g.O.Offer.reading) c.args.ending) (zip c.args.offers.now c.args.slots.now) (sym c.any_stays.ensures ∙ c.if-not-any_stays.true)).1)

pub part-back-requires : goal.part-back-requires
part-back-requires g t c κs within =
    let pairs = zip c.args.offers.now c.args.slots.now in
    let some = two_at_least (ends (port_of g.O.Offer.reading) c.args.ending) pairs (sym c.any_ends.ensures ∙ c.if-not-any_ends.false) (sym c.any_stays.ensures ∙ c.if-not-any_stays.false) in
    let two : 2 ≤ length c.args.offers.now = omega (arith, some, length-pairs c.args.offers.now c.args.slots.now c.requires.lengths) in
    let less : length c.args.offers.now - length c.args.offers.now / 2 < length c.args.offers.now = omega (arith, two) in
    search (rules, two, less, within)

pub returns-clause-parted : goal.returns-clause-parted
returns-clause-parted g t c =
    let goes = ends (port_of g.O.Offer.reading) c.args.ending in
    let stays = λ (p : g.row.O.Denot × ℕ). not (goes p) in
    let offers = c.args.offers.now in
    let slots = c.args.slots.now in
    let pairs = zip offers slots in
    let half = length offers / 2 in
    let from = c.part-front.result in
    let to = half + c.part-back.result in
    let split = c.split_at_mut-front_offers.ensures in
    let parts = c.split_at_mut-front_slots.ensures in
    let front_is : zip c.split_at_mut-front_offers.result.0.now c.split_at_mut-front_slots.result.0.now ≡ take half pairs = ap₂ zip split.front parts.front ∙ take-pairs offers slots half in
    let back_is : zip c.split_at_mut-front_offers.result.1.now c.split_at_mut-front_slots.result.1.now ≡ drop half pairs = ap₂ zip split.back parts.back ∙ drop-pairs offers slots half c.requires.lengths in
    let fronts : length c.part-front.new.slots ≡ length c.part-front.new.offers =
    c.part-front.ensures.slots ∙ parts.front_len ∙ sym split.front_len ∙ sym c.part-front.ensures.offers in
    let backs : length c.part-back.new.slots ≡ length c.part-back.new.offers =
    omega (arith, c.part-back.ensures.slots, parts.back_len, split.back_len, c.part-back.ensures.offers, c.requires.lengths) in
    let all : length (c.part-front.new.slots ++ c.part-back.new.slots) ≡ length (c.part-front.new.offers ++ c.part-back.new.offers) =
    length-append c.part-front.new.slots c.part-back.new.slots ∙ ap₂ (λ (m n : ℕ). m + n) fronts backs ∙ sym (length-append c.part-front.new.offers c.part-back.new.offers) in
    ap₂ zip c.turn.ensures c.turn-2.ensures
    ∙ turn-pairs from half to (c.part-front.new.offers ++ c.part-back.new.offers) (c.part-front.new.slots ++ c.part-back.new.slots) all
    ∙ ap (turned from half to) (append-pairs c.part-front.new.offers c.part-back.new.offers c.part-front.new.slots c.part-back.new.slots fronts
    ∙ ap₂ (λ (ps qs : List (g.row.O.Denot × ℕ)). ps ++ qs) (c.part-front.ensures.parted ∙ ap (halves goes) front_is) (c.part-back.ensures.parted ∙ ap (halves goes) back_is))
    ∙ turn-parted goes (take half pairs) (drop half pairs) from half to
    (sym (c.part-front.ensures.stay ∙ ap (λ (ps : List (g.row.O.Denot × ℕ)). length (filter stays ps)) front_is))
    (length-take-le half pairs (omega (arith, length-pairs offers slots c.requires.lengths)))
    (ap (λ (n : ℕ). half + n) (sym (c.part-back.ensures.stay ∙ ap (λ (ps : List (g.row.O.Denot × ℕ)). length (filter stays ps)) back_is)))
    ∙ ap (halves goes) (take-append-drop half pairs)

pub returns-clause-stay : goal.returns-clause-stay
returns-clause-stay g t c =
    let goes = ends (port_of g.O.Offer.reading) c.args.ending in
    let stays = λ (p : g.row.O.Denot × ℕ). not (goes p) in
    let offers = c.args.offers.now in
    let slots = c.args.slots.now in
    let pairs = zip offers slots in
    let half = length offers / 2 in
    let split = c.split_at_mut-front_offers.ensures in
    let parts = c.split_at_mut-front_slots.ensures in
    let front_is : zip c.split_at_mut-front_offers.result.0.now c.split_at_mut-front_slots.result.0.now ≡ take half pairs = ap₂ zip split.front parts.front ∙ take-pairs offers slots half in
    let back_is : zip c.split_at_mut-front_offers.result.1.now c.split_at_mut-front_slots.result.1.now ≡ drop half pairs = ap₂ zip split.back parts.back ∙ drop-pairs offers slots half c.requires.lengths in
    ap₂ (λ (m n : ℕ). m + n) (c.part-front.ensures.stay ∙ ap (λ (ps : List (g.row.O.Denot × ℕ)). length (filter stays ps)) front_is)
    (c.part-back.ensures.stay ∙ ap (λ (ps : List (g.row.O.Denot × ℕ)). length (filter stays ps)) back_is)
    ∙ sym (length-append (filter stays (take half pairs)) (filter stays (drop half pairs)))
    ∙ ap length (sym (filter-append stays (take half pairs) (drop half pairs)))
    ∙ ap (λ (ps : List (g.row.O.Denot × ℕ)). length (filter stays ps)) (take-append-drop half pairs)
