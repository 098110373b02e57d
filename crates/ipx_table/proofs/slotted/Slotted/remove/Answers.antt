use Rattle.std.proofs.Common.{◌≡◌, ◌∙◌, sym, ap, ap₂, length, remove, rules, arith, ◌<◌}
use Rattle.std.specs.List.{zip}
use Rattle.ipx_table.proofs.Pairs.{length-pairs, remove-pairs}
use Rattle.ipx_table.proofs.slotted.Slotted.remove.Goals as goal

pub remove-requires : goal.remove-requires
remove-requires g c =
    let size : length c.args.self.now ≡ length c.self.inside.offers.items =
    ap length (sym c.self.view_is) ∙ length-pairs c.self.inside.offers.items c.self.inside.slots.items c.self.invariant in
    let within : c.args.place < length c.self.inside.offers.items = omega (arith, c.requires.within, size) in
    search (rules, within)

pub returns : goal.returns
returns g c =
    ap₂ zip c.remove.ensures.items c.remove-2.ensures.items
    ∙ remove-pairs c.self.inside.offers.items c.self.inside.slots.items c.args.place c.self.invariant
    ∙ ap (λ ps. remove ps c.args.place) c.self.view_is
