use Rattle.std.proofs.Common.{rules, ◌≡◌, ◌∙◌, sym, ap, ◌≤◌, length, map, take, arith}
use Rattle.std.proofs.lemmas.List.{take-map}
use Rattle.std.proofs.lemmas.Slice.Zip.{firsts-zip}
use Rattle.std.specs.List.{zip}
use Rattle.ipx_table.proofs.Pairs.{length-pairs}
use Rattle.ipx_table.proofs.slotted.Slotted.offers_before.Goals as goal

pub front_of-requires : goal.front_of-requires
front_of-requires g c =
    let size : length c.args.self.now ≡ length c.self.inside.offers.items =
    ap length (sym c.self.view_is) ∙ length-pairs c.self.inside.offers.items c.self.inside.slots.items c.self.invariant in
    let within : c.args.live ≤ length c.self.inside.offers.items = omega (arith, c.requires, size) in
    search (rules, within)

pub returns-clause-value : goal.returns-clause-value
returns-clause-value g c =
    c.front_of.ensures.value
    ∙ ap (take c.args.live) (sym (firsts-zip c.self.inside.offers.items c.self.inside.slots.items c.self.invariant))
    ∙ take-map (λ p. p.0) c.args.live (zip c.self.inside.offers.items c.self.inside.slots.items)
    ∙ ap (λ ps. map (λ p. p.0) (take c.args.live ps)) c.self.view_is
