use Rattle.std.proofs.Common.{◌≡◌, ◌∙◌, sym, ap, subst, ◌<◌, List, ℕ, length, map, set, slice_get, take, take_all, arith, length-take}
use Rattle.std.proofs.lemmas.Cmp.{on_total}
use Rattle.std.proofs.lemmas.List.{drop_all, length-map}
use Rattle.ipx_table.specs.Reading.{rules_of}
use Rattle.ipx_table.specs.Slots.{seen, seen_at}
use Rattle.ipx_table.specs.inside.Clock.{IsSorted}
use Rattle.ipx_table.specs.Stands.{IsAscending}
use Rattle.ipx_table.proofs.Renewing as renewing
use Rattle.ipx_table.proofs.table.Table.renew_at.Given as given
use Rattle.ipx_table.proofs.table.Table.renew_at.Goals as goal

-- what the table told before, of what it kept
told : (g : given.Over) (c : goal.After-renew g) → seen c.self.inside.clock c.truncate.new.self ≡ c.args.self.now.records
told g c = ap (seen c.self.inside.clock) c.truncate.ensures ∙ ap (λ v. v.records) c.self.view_is

within : (g : given.Over) (c : goal.After-renew g) → c.args.place < length c.truncate.new.self
within g c =
    let size = ap length (told g c) in
    omega (arith, c.requires, size, length-map c.truncate.new.self (seen_at c.self.inside.clock))

sorted : (g : given.Over) (c : goal.After-renew g)
    → IsSorted (rules_of g.O.Offer.reading g.O.Key.Ord.cmp g.row.CAP c.args.self.now.shares).by_key c.truncate.new.self c.self.inside.clock
sorted g c =
    let r = rules_of g.O.Offer.reading g.O.Key.Ord.cmp g.row.CAP c.args.self.now.shares in
    subst (λ (ps : List (g.row.O.Denot × ℕ)). IsSorted r.by_key ps c.self.inside.clock) (sym c.truncate.ensures) c.self.invariant.sorted

size : (g : given.Over) (c : goal.After-renew g) → length c.renew.new.self ≡ c.self.inside.live
size g c =
    let r = rules_of g.O.Offer.reading g.O.Key.Ord.cmp g.row.CAP c.args.self.now.shares in
    let total = on_total g.O.Offer.reading.key g.met.O.Key.Ord.total in
    let same = renewing.size r.by_key total c.self.inside.clock c.truncate.new.self c.renew.new.self (sorted g c) c.args.place (within g c) c.renew.ensures in
    let cut = ap length c.truncate.ensures in
    omega (arith, same, cut, length-take c.self.inside.live c.self.inside.records, c.self.invariant.within)

whole : (g : given.Over) (c : goal.After-renew g) → take c.self.inside.live c.renew.new.self ≡ c.renew.new.self
whole g c =
    let long = size g c in take_all c.self.inside.live c.renew.new.self (omega (arith, long))

pub invariant_of-self : goal.invariant_of-self
invariant_of-self g c =
    let r = rules_of g.O.Offer.reading g.O.Key.Ord.cmp g.row.CAP c.args.self.now.shares in
    let total = on_total g.O.Offer.reading.key g.met.O.Key.Ord.total in
    let long = size g c in
    record {
      sorted = subst (λ (ps : List (g.row.O.Denot × ℕ)). IsSorted r.by_key ps c.self.inside.clock) (sym (whole g c))
          (renewing.still_sorted r.by_key total c.self.inside.clock c.truncate.new.self c.renew.new.self (sorted g c) c.args.place (within g c) c.renew.ensures);
      within = omega (arith, long);
    }

pub returns-clause-records : goal.returns-clause-records
returns-clause-records g c = λ known at.
    let r = rules_of g.O.Offer.reading g.O.Key.Ord.cmp g.row.CAP c.args.self.now.shares in
    let total = on_total g.O.Offer.reading.key g.met.O.Key.Ord.total in
    let here = ap (λ hs. slice_get hs c.args.place) (told g c) ∙ at in
    ap (seen c.self.inside.clock) (whole g c)
    ∙ renewing.written r.by_key total c.self.inside.clock c.truncate.new.self c.renew.new.self (sorted g c) c.args.place (within g c) c.renew.ensures known here
    ∙ ap (λ hs. set hs c.args.place (record { offer = known.offer; age = 0 })) (told g c)

pub returns-clause-stands : goal.returns-clause-stands
returns-clause-stands g c = λ known at facts stands.
    let r = rules_of g.O.Offer.reading g.O.Key.Ord.cmp g.row.CAP c.args.self.now.shares in
    let total = on_total g.O.Offer.reading.key g.met.O.Key.Ord.total in
    let ascending = subst (λ hs. IsAscending r.by_key hs) (told g c) (sorted g c).ascending in
    returns-clause-records g c known at
    ∙ renewing.renewed_stands r total c.args.self.now.records ascending c.args.place known at (renewing.own_source (g.O.Offer.reading.source known.offer)) facts stands

pub returns-clause-offers : goal.returns-clause-offers
returns-clause-offers g c =
    let r = rules_of g.O.Offer.reading g.O.Key.Ord.cmp g.row.CAP c.args.self.now.shares in
    let total = on_total g.O.Offer.reading.key g.met.O.Key.Ord.total in
    ap (λ ps. map (λ h. h.offer) (seen c.self.inside.clock ps)) (whole g c)
    ∙ renewing.same_offers r.by_key total c.self.inside.clock c.truncate.new.self c.renew.new.self (sorted g c) c.args.place (within g c) c.renew.ensures
    ∙ ap (map (λ h. h.offer)) (told g c)

pub returns-clause-forgotten : goal.returns-clause-forgotten
returns-clause-forgotten g c =
    let long = size g c in ap (map (λ p. p.0)) (drop_all c.self.inside.live c.renew.new.self (omega (arith, long)))
