use Rattle.std.proofs.Common.{refl, arith}
use Rattle.ipx_limits.proofs.Settings.{packets_can, pieces_can, address_can, seven, seven_at_address, packet_fits, pieces_fit}
use Rattle.ipx_limits.proofs.laws.limits_can_be.Goals as goal

pub returns-clause-packets : goal.returns-clause-packets
returns-clause-packets c = λ set. packets_can set

pub returns-clause-pieces : goal.returns-clause-pieces
returns-clause-pieces c = λ set. pieces_can set

pub returns-clause-address : goal.returns-clause-address
returns-clause-address c = λ rate some few. address_can rate some

pub returns-clause-links : goal.returns-clause-links
returns-clause-links c = refl

pub returns-clause-longest : goal.returns-clause-longest
returns-clause-longest c = λ set bytes frames few. (packet_fits set frames few, pieces_fit set bytes frames few)

pub returns-clause-one_at_address : goal.returns-clause-one_at_address
returns-clause-one_at_address c = λ rate. omega arith

pub returns-clause-one_of_links : goal.returns-clause-one_of_links
returns-clause-one_of_links c = omega arith

pub returns-clause-seven : goal.returns-clause-seven
returns-clause-seven c = λ set. seven set

pub returns-clause-seven_at_address : goal.returns-clause-seven_at_address
returns-clause-seven_at_address c = λ rate. seven_at_address rate
