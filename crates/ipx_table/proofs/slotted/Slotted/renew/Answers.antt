use Rattle.std.proofs.Common.{rules, ◌≡◌, ◌∙◌, sym, ap, length, set, slice_get, arith, ◌<◌}
use Rattle.std.specs.List.{zip}
use Rattle.ipx_table.proofs.Pairs.{length-pairs, renew-pairs}
use Rattle.ipx_table.proofs.slotted.Slotted.renew.Goals as goal

pub write_at-requires : goal.write_at-requires
write_at-requires g c =
    let size : length c.args.self.now ≡ length c.self.inside.offers.items =
    ap length (sym c.self.view_is) ∙ length-pairs c.self.inside.offers.items c.self.inside.slots.items c.self.invariant in
    let within : c.args.place < length c.self.inside.slots.items = omega (arith, c.requires.within, size, c.self.invariant) in
    search (rules, within)

pub returns : goal.returns
returns g c = λ kept at.
    ap (zip c.self.inside.offers.items) c.write_at.ensures
    ∙ renew-pairs c.self.inside.offers.items c.self.inside.slots.items c.args.place kept c.args.slot (ap (λ ps. slice_get ps c.args.place) c.self.view_is ∙ at)
    ∙ ap (λ ps. set ps c.args.place (kept.0, c.args.slot)) c.self.view_is
