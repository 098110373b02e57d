use Rattle.std.proofs.Common.{◌∙◌, ◌==◌}
use Rattle.ipx_table.specs.Reading.{port_of}
use Rattle.ipx_table.proofs.Halving.{any-first, any-second}
use Rattle.ipx_table.proofs.ending.any_ends.Goals as goal

pub returns-in-Slot : goal.returns-in-Slot
returns-in-Slot g c =
    rw c.in-Slot.is (c.has_slot.ensures ∙ any-second (λ slot. slot == c.in-Slot.ended) c.args.offers.now c.args.slots.now c.requires)

pub returns-in-Port : goal.returns-in-Port
returns-in-Port g c =
    rw c.in-Port.is (c.came_by.ensures ∙ any-first (λ offer. port_of g.O.Offer.reading offer == c.in-Port.port) c.args.offers.now c.args.slots.now c.requires)
