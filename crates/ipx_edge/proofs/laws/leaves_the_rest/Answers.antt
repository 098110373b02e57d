use Rattle.ipx_edge.proofs.Unchanged.{elsewhere, size, known, no_packet, twice}
use Rattle.ipx_edge.proofs.laws.leaves_the_rest.Goals as goal

pub returns-clause-elsewhere : goal.returns-clause-elsewhere
returns-clause-elsewhere c = elsewhere

pub returns-clause-size : goal.returns-clause-size
returns-clause-size c = size

pub returns-clause-known : goal.returns-clause-known
returns-clause-known c = known

pub returns-clause-no_packet : goal.returns-clause-no_packet
returns-clause-no_packet c = no_packet

pub returns-clause-twice : goal.returns-clause-twice
returns-clause-twice c = twice
