use Rattle.std.proofs.Common.{rules, ◌≡◌, ◌∙◌, sym, ap, ap₂, ◌≤◌, length, take, slice_get, arith}
use Rattle.std.specs.Option.{option_zip}
use Rattle.ipx_table.proofs.Pairs.{length-pairs, take-pairs, zip-get}
use Rattle.ipx_table.proofs.Halving.{length-take-same}
use Rattle.ipx_table.proofs.slotted.Slotted.get.Goals as goal

pub front_of-requires : goal.front_of-requires
front_of-requires g c =
    let size : length c.args.self.now ≡ length c.self.inside.offers.items =
    ap length (sym c.self.view_is) ∙ length-pairs c.self.inside.offers.items c.self.inside.slots.items c.self.invariant in
    let within : c.args.live ≤ length c.self.inside.offers.items = omega (arith, c.requires, size, c.self.invariant) in
    search (rules, within)

pub front_of-requires-2 : goal.front_of-requires-2
front_of-requires-2 g c =
    let size : length c.args.self.now ≡ length c.self.inside.offers.items =
    ap length (sym c.self.view_is) ∙ length-pairs c.self.inside.offers.items c.self.inside.slots.items c.self.invariant in
    let within : c.args.live ≤ length c.self.inside.slots.items = omega (arith, c.requires, size, c.self.invariant) in
    search (rules, within)

pub returns : goal.returns
returns g c =
    let offers = c.self.inside.offers.items in
    let slots = c.self.inside.slots.items in
    c.zip.ensures
    ∙ ap₂ option_zip (c.item_at.ensures ∙ ap (λ xs. slice_get xs c.args.place) c.front_of.ensures.value) (c.item_at-2.ensures ∙ ap (λ ys. slice_get ys c.args.place) c.front_of-2.ensures.value)
    ∙ zip-get (take c.args.live offers) (take c.args.live slots) c.args.place (length-take-same c.args.live offers slots c.self.invariant)
    ∙ ap (λ ps. slice_get ps c.args.place) (take-pairs offers slots c.args.live ∙ ap (take c.args.live) c.self.view_is)
