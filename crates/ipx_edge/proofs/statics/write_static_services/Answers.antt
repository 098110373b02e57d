use Rattle.std.proofs.Common.{◌≡◌, ◌∙◌, sym, ap, arith, drop, false, map, ◌+◌, ◌*◌, length, Ok}
use Rattle.ipx_wire.specs.Packet.{Parts}
use Rattle.ipx_wire.specs.WriteServices.{sap_packet_parts, sap_payload, entry_of}
use Rattle.ipx_wire.specs.declared.address.Address.{Address}
use Rattle.ipx_wire.specs.declared.sap.Sap.TheVariants.{Response}
use Rattle.ipx_edge.specs.Statics.{neighbour_at, static_services}
use Rattle.ipx_edge.proofs.Spoken.{packet_again, data_bytes}
use Rattle.ipx_edge.proofs.statics.write_static_services.Goals as goal

pub returns-clause-packet : goal.returns-clause-packet
returns-clause-packet c =
    let services = c.args.services.now in
    let from = c.neighbour_at-from.result in
    let to = c.all_at.result in
    let made = sap_packet_parts from to false services in
    let same : made ≡ static_services c.args.port.now c.args.node services =
    ap (λ (a : Address). sap_packet_parts a to false services) c.neighbour_at-from.ensures
    ∙ ap (λ (a : Address). sap_packet_parts (neighbour_at c.args.port.now c.args.node 0x452) a false services) c.all_at.ensures in
    packet_again made c.write_sap.result c.write_sap.new.out (drop (32 + 64 * length services) c.args.out.now) c.write_sap.ensures.bytes (c.write_sap.ensures.size ∙ sym c.write_sap.ensures.count) (λ i. omega (arith, c.type_inv.out i))
    (λ bytes q all is. (c.readings.ensures.packet_read bytes q all).1 is) c.write_sap.ensures.packet
    ∙ ap (λ (p : Parts). Ok p) same

pub returns-clause-services : goal.returns-clause-services
returns-clause-services c =
    let services = c.args.services.now in
    let made = sap_packet_parts c.neighbour_at-from.result c.all_at.result false services in
    (c.service_readings.ensures.sap_read (sap_payload false services) (Response false (map entry_of services))
    (data_bytes made c.write_sap.new.out (drop (32 + 64 * length services) c.args.out.now) c.write_sap.ensures.bytes (λ i. omega (arith, c.type_inv.out i)))).1
    c.write_sap.ensures.response
