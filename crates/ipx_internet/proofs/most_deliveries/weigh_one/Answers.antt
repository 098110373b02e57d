use Rattle.std.proofs.Common.{◌≡◌, sym, ap, ◌∙◌, Ok}
use Rattle.ipx_wire.specs.Packet.{Parts, packet_of}
use Rattle.ipx_internet.specs.Batches.{delivery_of}
use Rattle.ipx_internet.specs.Internet.{Internet, port_of}
use Rattle.ipx_internet.specs.Queue.{Delivery}
use Rattle.ipx_internet.specs.inside.Simulated.{net_among}
use Rattle.ipx_internet.specs.inside.Scales.{saturated}
use Rattle.ipx_internet.proofs.most_deliveries.weigh_one.Goals as goal
use Rattle.ipx_internet.proofs.weights.PagesAtTheirProcess.{as_read}

pub returns-in-Ok : goal.returns-in-Ok
returns-in-Ok g c =
    let net : Internet = net_among c.args.routers.now in
    let d : Delivery = delivery_of c.args.coming in
    let p : Parts = c.in-Ok.packet in
    let read : packet_of d.bytes ≡ Ok p = sym c.read.ensures.value ∙ c.in-Ok.is in
    c.weight.ensures net g.row.R g.row.S (port_of net d.to) c.requires (sym c.network_at-network.ensures)
    ∙ ap saturated (sym (as_read net g.row.R g.row.S d p read))
