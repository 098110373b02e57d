use Rattle.std.proofs.Common.{◌∙◌, ap, not, length, filter}
use Rattle.ipx_table.specs.Reading.{port_of}
use Rattle.ipx_table.specs.inside.Clock.{ends, parted}
use Rattle.ipx_table.proofs.slotted.Slotted.part.Goals as goal

pub returns-clause-parted : goal.returns-clause-parted
returns-clause-parted g c = c.part_arrays.ensures.parted ∙ ap (parted (port_of g.O.Offer.reading) c.args.ending) c.self.view_is

pub returns-clause-stay : goal.returns-clause-stay
returns-clause-stay g c = c.part_arrays.ensures.stay ∙ ap (λ ps. length (filter (λ p. not (ends (port_of g.O.Offer.reading) c.args.ending p)) ps)) c.self.view_is
