use Rattle.std.proofs.Common.{rules, ◌≡◌, ◌∙◌, sym, ap, ◌==◌, ◌≤◌, length, take, arith}
use Rattle.std.specs.List.{list_any, zip}
use Rattle.std.proofs.lemmas.List.{take-map}
use Rattle.std.proofs.lemmas.Slice.Zip.{seconds-zip}
use Rattle.ipx_table.proofs.Clocks.{any_second}
use Rattle.ipx_table.proofs.Pairs.{length-pairs}
use Rattle.ipx_table.proofs.slotted.Slotted.has_slot.Goals as goal

pub front_of-requires : goal.front_of-requires
front_of-requires g c =
    let size : length c.args.self.now ≡ length c.self.inside.offers.items =
    ap length (sym c.self.view_is) ∙ length-pairs c.self.inside.offers.items c.self.inside.slots.items c.self.invariant in
    let within : c.args.live ≤ length c.self.inside.slots.items = omega (arith, c.requires, size, c.self.invariant) in
    search (rules, within)

pub returns : goal.returns
returns g c =
    let pairs = zip c.self.inside.offers.items c.self.inside.slots.items in
    c.has_slot.ensures
    ∙ ap (list_any (λ s. s == c.args.slot)) (c.front_of.ensures.value
    ∙ ap (take c.args.live) (sym (seconds-zip c.self.inside.offers.items c.self.inside.slots.items c.self.invariant)) ∙ take-map (λ p. p.1) c.args.live pairs)
    ∙ any_second (λ s. s == c.args.slot) (take c.args.live pairs)
    ∙ ap (λ ps. list_any (λ p. p.1 == c.args.slot) (take c.args.live ps)) c.self.view_is
