use Rattle.std.proofs.Common.{◌∙◌, ap}
use Rattle.ipx_wire.specs.Packet.{packet_of}
use Rattle.ipx_tunnel.specs.Says.{packet_in}
use Rattle.ipx_tunnel.proofs.Packets.{front_reads}
use Rattle.ipx_keyed.proofs.laws.read_again.Goals as goal

pub returns : goal.returns
returns c = λ from bytes packet is. ap (λ r. packet_of (packet_in bytes r)) is ∙ front_reads bytes packet is
