use Rattle.std.proofs.Common.{◌∙◌, ap, ap₂, take}
use Rattle.std.specs.List.{zip}
use Rattle.ipx_table.proofs.Pairs.{take-pairs}
use Rattle.ipx_table.proofs.slotted.Slotted.truncate.Goals as goal

pub returns : goal.returns
returns g c =
    ap₂ zip c.truncate.ensures.items c.truncate-2.ensures.items
    ∙ take-pairs c.self.inside.offers.items c.self.inside.slots.items c.args.live
    ∙ ap (take c.args.live) c.self.view_is
