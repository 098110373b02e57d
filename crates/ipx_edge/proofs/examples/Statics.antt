-- A router behind which there is a network says nothing itself.
use Rattle.std.proofs.Common.{◌≡◌, refl, [], ◌∷◌, ◌++◌, codes}
use Rattle.hex.specs.Hex.{decode_pairs}
use Rattle.ipx_wire.specs.Address.{address_bytes}
use Rattle.ipx_wire.specs.Header.{header_bytes}
use Rattle.ipx_wire.specs.Name.{name_field}
use Rattle.ipx_wire.specs.Rip.{entry_bytes}
use Rattle.ipx_wire.specs.Write.{packet_bytes}
use Rattle.ipx_wire.specs.WriteServices.{service_bytes}
use Rattle.ipx_wire.specs.declared.node.Node.{Node}
use Rattle.ipx_wire.specs.declared.rip.RipEntry.{RipEntry}
use Rattle.ipx_wire.specs.declared.service.Service.{Service}
use Rattle.ipx_edge.specs.Statics.{static_routes, static_services}
use Rattle.ipx_edge.proofs.examples.Words.{hex, port, service}

-- it is node AAh, and network 30h is one hop behind it
abbrev silent : Node
silent = record { 0 = 0 ∷ 0 ∷ 0 ∷ 0 ∷ 0 ∷ 0xaa ∷ [] }

abbrev route : RipEntry
route = record { network = record { 0 = 0x30 }; hops = 1; ticks = 2 }

pub routes : packet_bytes (static_routes port silent (route ∷ []))
    ≡ hex (codes "FFFF0028000100000050FFFFFFFFFFFF0453000000500000000000AA04530002000000300001") ++ hex (codes "0002")
unfolding decode_pairs header_bytes address_bytes entry_bytes
routes = refl

-- a file server P is there
abbrev server : Service
server = record {
  kind = 4;
  name = 0x50 ∷ [];
  address = record { network = record { 0 = 0x30 }; node = silent; socket = record { 0 = 0x451 } };
  hops = 2;
}

pub services : packet_bytes (static_services port silent (server ∷ []))
    ≡ hex (codes "FFFF0060000400000050FFFFFFFFFFFF0452000000500000000000AA04520002") ++ service (codes "00000030") (codes "0002")
unfolding decode_pairs header_bytes address_bytes service_bytes name_field
services = refl
