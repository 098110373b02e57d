use Rattle.std.proofs.Common.{◌∙◌, not, ◌==◌}
use Rattle.ipx_table.specs.Reading.{port_of}
use Rattle.ipx_table.proofs.Halving.{any-first, any-second}
use Rattle.ipx_table.proofs.ending.any_stays.Goals as goal

pub returns-in-Slot : goal.returns-in-Slot
returns-in-Slot g c =
    rw c.in-Slot.is (c.has_another_slot.ensures ∙ any-second (λ slot. not (slot == c.in-Slot.ended)) c.args.offers.now c.args.slots.now c.requires)

pub returns-in-Port : goal.returns-in-Port
returns-in-Port g c =
    rw c.in-Port.is (c.came_by_another.ensures ∙ any-first (λ offer. not (port_of g.O.Offer.reading offer == c.in-Port.port)) c.args.offers.now c.args.slots.now c.requires)
