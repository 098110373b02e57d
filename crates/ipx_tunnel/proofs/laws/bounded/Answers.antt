use Rattle.std.proofs.Common.{ℕ, ◌≤◌, arith, List, length, length-take, Result, Ok, Err}
use Rattle.ipx_wire.specs.Packet.{Parts, packet_of}
use Rattle.ipx_wire.specs.declared.packet.PacketFault.{PacketFault}
use Rattle.ipx_tunnel.specs.Says.{packet_in}
use Rattle.ipx_tunnel.proofs.Sending.{count_bounded}
use Rattle.ipx_tunnel.proofs.laws.bounded.Goals as goal

no_longer : (bytes : List ℕ) (r : Result Parts PacketFault) → length (packet_in bytes r) ≤ length bytes
no_longer bytes (Ok packet) = omega (arith, length-take packet.header.length bytes)
no_longer bytes (Err fault) = omega arith

pub returns-clause-count : goal.returns-clause-count
returns-clause-count c = λ setting history. count_bounded setting history

pub returns-clause-carried : goal.returns-clause-carried
returns-clause-carried c = λ from bytes. no_longer bytes (packet_of bytes)
