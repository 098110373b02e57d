use Rattle.std.proofs.Common.{rules, ◌≡◌, ◌∙◌, sym, ap, ◌≤◌, length, map, drop, arith}
use Rattle.std.proofs.lemmas.List.{drop-map}
use Rattle.std.proofs.lemmas.Slice.Zip.{firsts-zip}
use Rattle.std.specs.List.{zip}
use Rattle.ipx_table.proofs.Pairs.{length-pairs}
use Rattle.ipx_table.proofs.slotted.Slotted.offers_behind.Goals as goal

pub rest_of-requires : goal.rest_of-requires
rest_of-requires g c =
    let size : length c.args.self.now ≡ length c.self.inside.offers.items =
    ap length (sym c.self.view_is) ∙ length-pairs c.self.inside.offers.items c.self.inside.slots.items c.self.invariant in
    let within : c.args.live ≤ length c.self.inside.offers.items = omega (arith, c.requires, size) in
    search (rules, within)

pub returns-clause-value : goal.returns-clause-value
returns-clause-value g c =
    c.rest_of.ensures.value
    ∙ ap (drop c.args.live) (sym (firsts-zip c.self.inside.offers.items c.self.inside.slots.items c.self.invariant))
    ∙ drop-map (λ p. p.0) c.args.live (zip c.self.inside.offers.items c.self.inside.slots.items)
    ∙ ap (λ ps. map (λ p. p.0) (drop c.args.live ps)) c.self.view_is
