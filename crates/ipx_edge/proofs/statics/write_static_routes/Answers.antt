use Rattle.std.proofs.Common.{◌≡◌, ◌∙◌, ◌<◌, sym, subst, ap, arith, List, ℕ, [], ◌++◌, drop, ◌+◌, ◌*◌, length, Ok, append-nil}
use Rattle.ipx_wire.specs.Packet.{Parts}
use Rattle.ipx_wire.specs.Rip.{IsRip, RipParts}
use Rattle.ipx_wire.specs.Write.{rip_packet_parts, rip_payload}
use Rattle.ipx_wire.specs.declared.address.Address.{Address}
use Rattle.ipx_wire.specs.declared.rip.Operation.TheVariants.{Response}
use Rattle.ipx_edge.specs.Statics.{neighbour_at, static_routes}
use Rattle.ipx_edge.proofs.Spoken.{packet_again, data_bytes}
use Rattle.ipx_edge.proofs.statics.write_static_routes.Goals as goal

pub returns-clause-packet : goal.returns-clause-packet
returns-clause-packet c =
    let entries = c.args.entries.now in
    let from = c.neighbour_at-from.result in
    let to = c.all_at.result in
    let made = rip_packet_parts from to Response entries in
    let same : made ≡ static_routes c.args.port.now c.args.node entries =
    ap (λ (a : Address). rip_packet_parts a to Response entries) c.neighbour_at-from.ensures
    ∙ ap (λ (a : Address). rip_packet_parts (neighbour_at c.args.port.now c.args.node 0x453) a Response entries) c.all_at.ensures in
    packet_again made c.write_rip.result c.write_rip.new.out (drop (32 + 8 * length entries) c.args.out.now) c.write_rip.ensures.bytes (c.write_rip.ensures.size ∙ sym c.write_rip.ensures.count) (λ i. omega (arith, c.type_inv.out i))
    (λ bytes q all is. (c.readings.ensures.packet_read bytes q all).1 is) c.write_rip.ensures.packet
    ∙ ap (λ (p : Parts). Ok p) same

pub returns-clause-routes : goal.returns-clause-routes
returns-clause-routes c =
    let entries = c.args.entries.now in
    let made = rip_packet_parts c.neighbour_at-from.result c.all_at.result Response entries in
    let rip : RipParts = record { operation = Response; entries = entries } in
    let none : length {A = ℕ} [] < 8 = omega arith in
    let is : IsRip (rip_payload Response entries ++ []) rip =
    c.reread.ensures.rip Response entries [] c.are_entries.ensures c.requires.some c.requires.most none in
    (c.readings.ensures.rip_read (rip_payload Response entries) rip
    (data_bytes made c.write_rip.new.out (drop (32 + 8 * length entries) c.args.out.now) c.write_rip.ensures.bytes (λ i. omega (arith, c.type_inv.out i)))).1
    (subst (λ (l : List ℕ). IsRip l rip) (append-nil (rip_payload Response entries)) is)
