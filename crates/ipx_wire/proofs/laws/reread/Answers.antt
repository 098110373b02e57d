use Rattle.ipx_wire.proofs.Rereading.{packet_again, header_alone, rip_packet_again, rip_again, query_packet_again, forwarded_again, propagated_again, crossed_again}
use Rattle.ipx_wire.proofs.Services.{query_again, response_again, sap_packet_again}
use Rattle.ipx_wire.proofs.laws.reread.Goals as goal

pub returns-clause-header : goal.returns-clause-header
returns-clause-header c = header_alone

pub returns-clause-packet : goal.returns-clause-packet
returns-clause-packet c = packet_again

pub returns-clause-rip_packet : goal.returns-clause-rip_packet
returns-clause-rip_packet c = rip_packet_again

pub returns-clause-rip : goal.returns-clause-rip
returns-clause-rip c = rip_again

pub returns-clause-query_packet : goal.returns-clause-query_packet
returns-clause-query_packet c = query_packet_again

pub returns-clause-forwarded : goal.returns-clause-forwarded
returns-clause-forwarded c = forwarded_again

pub returns-clause-propagated : goal.returns-clause-propagated
returns-clause-propagated c = propagated_again

pub returns-clause-crossed : goal.returns-clause-crossed
returns-clause-crossed c = λ p networks arrived outgoing is below fits. crossed_again p.header.control p.payload networks arrived is below fits

pub returns-clause-query : goal.returns-clause-query
returns-clause-query c = query_again

pub returns-clause-sap_packet : goal.returns-clause-sap_packet
returns-clause-sap_packet c = sap_packet_again

pub returns-clause-sap : goal.returns-clause-sap
returns-clause-sap c = response_again
