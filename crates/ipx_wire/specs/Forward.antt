-- Packets that a router sends on, with the fields changed that it changes (IPX Router Specification).
use Rattle.std.specs.Prelude.{ℕ, ◌+◌, ◌*◌, List, ◌++◌, take, drop}
use Rattle.ipx_wire.specs.Numbers.{no_checksum}
use Rattle.ipx_wire.specs.Packet.{Parts}
use Rattle.ipx_wire.specs.Crossed.{network_bytes}
use Rattle.ipx_wire.specs.declared.network.Network.{Network}

-- a packet sent on: the transport control one higher, all else as it came
abbrev pub forwarded : Parts → Parts
forwarded p = record p { header = record p.header { control = p.header.control + 1 } }

-- data with a network in the place behind that many others, all else as it came
abbrev pub crossing : ℕ → Network → List ℕ → List ℕ
crossing control network payload =
    take (4 * control) payload ++ network_bytes network ++ drop (4 * control + 4) payload

-- a packet propagated: the network from which it arrived behind those crossed, the transport control one higher,
-- no checksum (own), and the outgoing network as its destination's; all else as it came
abbrev pub propagated : Network → Network → Parts → Parts
propagated arrived outgoing p = record {
  header = record p.header {
    checksum = no_checksum;
    control = p.header.control + 1;
    destination = record p.header.destination { network = outgoing };
  };
  payload = crossing p.header.control arrived p.payload;
}
