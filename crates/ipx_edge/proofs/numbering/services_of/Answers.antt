use Rattle.std.proofs.Common.{◌∙◌, sym, arith}
use Rattle.ipx_edge.proofs.Packets.{has_room}
use Rattle.ipx_edge.proofs.numbering.services_of.Goals as goal

pub returns-in-Ok-clause-header : goal.returns-in-Ok-clause-header
returns-in-Ok-clause-header c = omega (arith, has_room c.args.bytes.now c.in-Ok.packet (sym c.read.ensures.value ∙ c.in-Ok.is))

pub returns-in-Ok-clause-room : goal.returns-in-Ok-clause-room
returns-in-Ok-clause-room c = λ k below.
    omega (arith, c.services_told.ensures.room k below, has_room c.args.bytes.now c.in-Ok.packet (sym c.read.ensures.value ∙ c.in-Ok.is))
