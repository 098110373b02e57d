use Rattle.std.proofs.Common.{◌≡◌, ◌∙◌, sym, ap, subst, ◌==◌, ◌≤◌, suc, length, filter, false, List, arith}
use Rattle.std.proofs.lemmas.Bool.{ne_eqb}
use Rattle.ipx_table.specs.Reading.{rules_of}
use Rattle.ipx_table.specs.Slots.{seen}
use Rattle.ipx_table.proofs.OneOffer as one
use Rattle.ipx_table.specs.Accepted.{has_share}
use Rattle.ipx_table.proofs.taking.may_replace.Goals as goal

pub has_share-requires : goal.has_share-requires
has_share-requires g c =
    let r = rules_of g.O.Offer.reading g.O.Key.Ord.cmp g.row.CAP c.args.shares.now in
    let port = c.source-port.result.0 in
    let other : (r.port c.args.known.now.0 == port) ≡ false = ap (λ s. s.0 == port) (sym c.source.ensures) ∙ ne_eqb c.source.result.0 port c.if-source-port.false in
    let few = subst (λ (os : List g.row.O.Denot). suc (length (filter (λ o. r.port o == port) os)) ≤ length os) (sym c.offers.ensures.value)
    (one.fewer_by_port r.port port c.args.records.now c.args.place c.args.known.now c.requires.at other) in
    record { below = omega (arith, few, c.offers.ensures.fits) }

pub returns : goal.returns
returns g c = λ clock.
    let r = rules_of g.O.Offer.reading g.O.Key.Ord.cmp g.row.CAP c.args.shares.now in
    let port = c.source-port.result.0 in
    let other : (r.port c.args.known.now.0 == r.port c.args.offer.now) ≡ false =
    ap (λ s. s.0 == r.port c.args.offer.now) (sym c.source.ensures) ∙ ap (λ s. c.source.result.0 == s.0) (sym c.source-port.ensures) ∙ ne_eqb c.source.result.0 port c.if-source-port.false in
    one.shared r clock c.args.records.now c.args.offer.now port c.has_share.result c.offers.result.now c.offers.ensures.value (ap (λ s. s.0) c.source-port.ensures) c.has_share.ensures
    ∙ one.false_or (r.port c.args.known.now.0 == r.port c.args.offer.now) (has_share r c.args.offer.now (seen clock c.args.records.now)) other
