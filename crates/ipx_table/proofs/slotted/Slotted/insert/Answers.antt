use Rattle.std.proofs.Common.{◌≡◌, ◌∙◌, sym, ap, ap₂, length, insert, rules, arith, ◌≤◌, ◌<◌}
use Rattle.std.specs.List.{zip}
use Rattle.ipx_table.proofs.Pairs.{length-pairs, insert-pairs}
use Rattle.ipx_table.proofs.slotted.Slotted.insert.Goals as goal

pub insert-requires : goal.insert-requires
insert-requires g c =
    let size : length c.args.self.now ≡ length c.self.inside.offers.items =
    ap length (sym c.self.view_is) ∙ length-pairs c.self.inside.offers.items c.self.inside.slots.items c.self.invariant in
    let within : c.args.place ≤ length c.self.inside.offers.items = omega (arith, c.requires.within, size) in
    let room : length c.self.inside.offers.items < g.row.CAP = omega (arith, c.requires.room, size) in
    search (rules, within, room)

pub insert-requires-2 : goal.insert-requires-2
insert-requires-2 g c =
    let size : length c.args.self.now ≡ length c.self.inside.offers.items =
    ap length (sym c.self.view_is) ∙ length-pairs c.self.inside.offers.items c.self.inside.slots.items c.self.invariant in
    let within : c.args.place ≤ length c.self.inside.slots.items = omega (arith, c.requires.within, size, c.self.invariant) in
    let room : length c.self.inside.slots.items < g.row.CAP = omega (arith, c.requires.room, size, c.self.invariant) in
    search (rules, within, room)

pub returns : goal.returns
returns g c =
    ap₂ zip c.insert.ensures.items c.insert-2.ensures.items
    ∙ insert-pairs c.self.inside.offers.items c.self.inside.slots.items c.args.place c.args.offer c.args.slot c.self.invariant
    ∙ ap (λ ps. insert ps c.args.place (c.args.offer, c.args.slot)) c.self.view_is
