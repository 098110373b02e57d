use Rattle.std.proofs.Common.{◌∙◌, ap}
use Rattle.ipx_wire.specs.Packet.{packet_of}
use Rattle.ipx_tunnel.specs.Says.{packet_in}
use Rattle.ipx_tunnel.proofs.Extended.{copy_reads}
use Rattle.ipx_tunnel.proofs.Packets.{front_reads}
use Rattle.ipx_tunnel.proofs.laws.read_again.Goals as goal

pub returns-clause-carried : goal.returns-clause-carried
returns-clause-carried c = λ from bytes packet is. ap (λ r. packet_of (packet_in bytes r)) is ∙ front_reads bytes packet is

pub returns-clause-copied : goal.returns-clause-copied
returns-clause-copied c = λ to bytes packet ordinary is. copy_reads to bytes packet ordinary is
