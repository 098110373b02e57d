use Rattle.ipx_wire.proofs.Services.{length-sap_packet}
use Rattle.ipx_wire.proofs.Sizes.{length-query_packet, length-forwarded, length-propagated}
use Rattle.ipx_wire.proofs.Written.{length-rip_packet}
use Rattle.ipx_wire.proofs.laws.sizes.Goals as goal

pub returns-clause-rip : goal.returns-clause-rip
returns-clause-rip c = length-rip_packet

pub returns-clause-sap : goal.returns-clause-sap
returns-clause-sap c = length-sap_packet

pub returns-clause-query : goal.returns-clause-query
returns-clause-query c = length-query_packet

pub returns-clause-forwarded : goal.returns-clause-forwarded
returns-clause-forwarded c = length-forwarded

pub returns-clause-propagated : goal.returns-clause-propagated
returns-clause-propagated c = length-propagated
