use Rattle.std.proofs.Common.{◌≡◌, ◌∙◌, sym, ap, ap₂, length, set, rules, arith, ◌<◌}
use Rattle.std.specs.List.{zip}
use Rattle.ipx_table.proofs.Pairs.{length-pairs, set-pairs}
use Rattle.ipx_table.proofs.slotted.Slotted.put.Goals as goal

pub write_at-requires : goal.write_at-requires
write_at-requires g c =
    let size : length c.args.self.now ≡ length c.self.inside.offers.items =
    ap length (sym c.self.view_is) ∙ length-pairs c.self.inside.offers.items c.self.inside.slots.items c.self.invariant in
    let within : c.args.place < length c.self.inside.offers.items = omega (arith, c.requires.within, size) in
    search (rules, within)

pub write_at-requires-2 : goal.write_at-requires-2
write_at-requires-2 g c =
    let size : length c.args.self.now ≡ length c.self.inside.offers.items =
    ap length (sym c.self.view_is) ∙ length-pairs c.self.inside.offers.items c.self.inside.slots.items c.self.invariant in
    let within : c.args.place < length c.self.inside.slots.items = omega (arith, c.requires.within, size, c.self.invariant) in
    search (rules, within)

pub returns : goal.returns
returns g c =
    ap₂ zip c.write_at.ensures c.write_at-2.ensures
    ∙ set-pairs c.self.inside.offers.items c.self.inside.slots.items c.args.place c.args.offer c.args.slot c.self.invariant
    ∙ ap (λ ps. set ps c.args.place (c.args.offer, c.args.slot)) c.self.view_is
