use Rattle.std.proofs.Common.{arith, refl, sym, append-nil, drop_of_length-le, List, ◌≡◌, ◌<◌, ◌++◌, ap, ◌∙◌, length, map, drop}
use Rattle.std.specs.List.{filter, flat_map}
use Rattle.std.specs.Vec.{vec_len, vec_capacity}
use Rattle.ipx_router.specs.Relays.{Sent}
use Rattle.ipx_internet.specs.Batches.{deliveries_in, pending_at, heard}
use Rattle.ipx_internet.specs.inside.Stations.{hears, stations_on, hearers}
use Rattle.ipx_internet.proofs.batch.deliver.Goals as goal
use Rattle.ipx_internet.proofs.deliveries.BatchPacketByPacket.{one_packet, still_within, room_for_one, room_for_others}

pub deliver_one-requires : goal.deliver_one-requires
deliver_one-requires g c =
    let test = c.loop-packet-test.true in
    let all = c.len-packet-end.ensures in
    let lt : c.loop-packet.packet < length c.args.outbox.now.sent = omega (arith, test, all) in
    room_for_one (vec_len c.loop-packet.pending) (length c.args.outbox.now.sent) c.loop-packet.packet c.args.stations.now.most (vec_capacity c.loop-packet.pending)
    (length c.on-near.result.now) lt c.loop-packet.invariant.1 c.on-near.ensures.few

pub loop-packet-preserved : goal.loop-packet-preserved
loop-packet-preserved g c =
    let sent = c.args.outbox.now.sent in
    let packet = c.loop-packet.packet in
    let test = c.loop-packet-test.true in
    let all = c.len-packet-end.ensures in
    let lt : packet < length sent = omega (arith, test, all) in
    let s : Sent = record { port = c.get-sent.result.port; link = c.get-sent.result.link; bytes = c.get-sent.result.bytes.now } in
    let list = c.args.stations.now.list in
    let ports = c.args.router.now.ports in
    let added : c.deliver_one.new.pending.items ≡ c.loop-packet.pending.items ++ map (pending_at packet) (hearers list ports c.args.number s) =
    c.deliver_one.ensures.items
    ∙ ap (λ near. c.loop-packet.pending.items ++ map (pending_at packet) (filter (hears c.args.number s.link) near))
    (c.on-near.ensures.stations ∙ ap (λ network. stations_on list network) c.network_of.ensures) in (
      one_packet sent packet s c.get-sent.ensures list ports c.args.number c.loop-packet.pending.items c.deliver_one.new.pending.items
          (deliveries_in sent c.args.pending.now.items ++ flat_map (heard list ports c.args.number) (drop c.args.before sent)) lt added c.loop-packet.invariant.0,
      room_for_others (vec_len c.loop-packet.pending) (length sent) packet c.args.stations.now.most (vec_capacity c.loop-packet.pending)
          (length c.on-near.result.now) (vec_len c.deliver_one.new.pending) (vec_capacity c.deliver_one.new.pending)
          lt c.loop-packet.invariant.1 c.on-near.ensures.few c.deliver_one.ensures.len c.deliver_one.ensures.capacity,
      λ within. still_within sent packet (hearers list ports c.args.number s) c.loop-packet.pending.items c.deliver_one.new.pending.items lt added
          (c.loop-packet.invariant.2 within),
    )

pub network_of-requires : goal.network_of-requires
network_of-requires g c = first_of (assumption c.well_formed, search c.well_formed)

pub get-sent-requires : goal.get-sent-requires
get-sent-requires g c =
    let test = c.loop-packet-test.true in
    let all = c.len-packet-end.ensures in
    omega (arith, test, all)

pub returns-clause-deliveries : goal.returns-clause-deliveries
returns-clause-deliveries g c =
    let sent = c.args.outbox.now.sent in
    let heard_of = heard c.args.stations.now.list c.args.router.now.ports c.args.number in
    let delivered = deliveries_in sent c.loop-packet.pending.items in
    let test = c.loop-packet-test.false in
    let all = c.len-packet-end.ensures in
    let none = ap (λ (ss : List Sent). delivered ++ flat_map heard_of ss) (drop_of_length-le sent (omega (arith, test, all))) in
    sym (c.loop-packet.invariant.0 ∙ none ∙ append-nil delivered)

pub returns-clause-within : goal.returns-clause-within
returns-clause-within g c = c.loop-packet.invariant.2

pub loop-packet-init : goal.loop-packet-init
loop-packet-init g c = (refl, c.requires, λ within. within)
