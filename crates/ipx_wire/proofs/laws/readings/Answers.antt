use Rattle.std.proofs.lemmas.Result.{IfOk-at_ok, IfErr-at_err}
use Rattle.ipx_wire.specs.Packet.{IsPacket, IsNoPacket}
use Rattle.ipx_wire.specs.Rip.{IsRip, IsNoRip}
use Rattle.ipx_wire.specs.Crossed.{IsCrossed, IsNotCrossed}
use Rattle.ipx_wire.proofs.Crossings.{crossed_found, crossed_refused, crossed_fault, crossed_only, one_crossed}
use Rattle.ipx_wire.proofs.Forwarded.{packet_front}
use Rattle.ipx_wire.proofs.Packets.{packet_only}
use Rattle.ipx_wire.proofs.Readings.{packet_found, packet_refused, packet_fault, one_packet, rip_found, rip_refused, rip_fault, rip_only, one_rip}
use Rattle.ipx_wire.proofs.laws.readings.Goals as goal

pub returns-clause-packet_read : goal.returns-clause-packet_read
returns-clause-packet_read c = λ bytes p are. (λ e. IfOk-at_ok (IsPacket bytes) e (packet_found bytes are), λ is. packet_only bytes p is)

pub returns-clause-packet_refused : goal.returns-clause-packet_refused
returns-clause-packet_refused c = λ bytes f. (λ e. IfErr-at_err (IsNoPacket bytes) e (packet_refused bytes), λ is. packet_fault bytes f is)

pub returns-clause-one_packet : goal.returns-clause-one_packet
returns-clause-one_packet c = one_packet

pub returns-clause-packet_front : goal.returns-clause-packet_front
returns-clause-packet_front c = packet_front

pub returns-clause-rip_read : goal.returns-clause-rip_read
returns-clause-rip_read c = λ payload r are. (λ e. IfOk-at_ok (IsRip payload) e (rip_found payload are), λ is. rip_only payload r is)

pub returns-clause-rip_refused : goal.returns-clause-rip_refused
returns-clause-rip_refused c = λ payload f. (λ e. IfErr-at_err (IsNoRip payload) e (rip_refused payload), λ is. rip_fault payload f is)

pub returns-clause-one_rip : goal.returns-clause-one_rip
returns-clause-one_rip c = one_rip

pub returns-clause-crossed_read : goal.returns-clause-crossed_read
returns-clause-crossed_read c = λ control payload networks are.
    (λ e. IfOk-at_ok (IsCrossed control payload) e (crossed_found control payload are), λ is. crossed_only control payload networks is)

pub returns-clause-crossed_refused : goal.returns-clause-crossed_refused
returns-clause-crossed_refused c = λ control payload f.
    (λ e. IfErr-at_err (IsNotCrossed control payload) e (crossed_refused control payload), λ is. crossed_fault control payload f is)

pub returns-clause-one_crossed : goal.returns-clause-one_crossed
returns-clause-one_crossed c = one_crossed
