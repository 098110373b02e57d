use Rattle.std.proofs.Common.{◌≡◌, ◌∙◌, sym, ap, subst, ◌≤◌, length, arith}
use Rattle.ipx_wire.specs.Packet.{packet_of}
use Rattle.ipx_router.specs.History.{Event, Start, Stop, Second, Packet, PortDown, PortUp, IsOfBytes}
use Rattle.ipx_router.specs.Needs.{IsUpTo, packets_ever, bytes_ever}
use Rattle.ipx_router.specs.Stands.{State}
use Rattle.ipx_router.proofs.bounds.RoomForEveryEvent.{always_room, up_to_what_came, of_each_read}
use Rattle.ipx_router.proofs.router.Router.most_need.Goals as goal

pub returns-clause-enough : goal.returns-clause-enough
returns-clause-enough g c = λ later event outbox same within short room.
    let ports : c.len.result ≡ length later.ports = c.len.ensures.value ∙ ap (λ (v : State). length v.ports) c.self.view_is ∙ ap length (sym same) in
    let packets : c.most_need_of.result.packets ≡ packets_ever (length later.ports) g.row.R g.row.S =
    c.most_need_of.ensures.packets ∙ ap (λ k. packets_ever k g.row.R g.row.S) ports in
    let bytes : c.most_need_of.result.bytes ≡ bytes_ever (length later.ports) g.row.R g.row.S c.args.longest =
    c.most_need_of.ensures.bytes ∙ ap (λ k. bytes_ever k g.row.R g.row.S c.args.longest) ports in
    always_room g.row.R g.row.S c.args.longest later event outbox within short
    (record { places = subst (λ k. k ≤ outbox.places) packets room.places; spare = subst (λ k. k ≤ outbox.spare) bytes room.spare })

pub returns-clause-came : goal.returns-clause-came
returns-clause-came g c = λ port bytes few. up_to_what_came c.args.longest bytes few

pub returns-clause-any : goal.returns-clause-any
returns-clause-any g c = λ all event are. up_to event are all
  where
    up_to : (event : Event) → IsOfBytes event → c.args.longest ≡ 65535 → IsUpTo c.args.longest event
    up_to (Packet port bytes) are all =
        of_each_read (λ p. p.header.length ≤ c.args.longest) (packet_of bytes)
        (λ p is. let short = ((c.readings.ensures.packet_read bytes p are).0 is).header.length in omega (arith, short, all))
    up_to Start are all = tt
    up_to Stop are all = tt
    up_to Second are all = tt
    up_to (PortDown port) are all = tt
    up_to (PortUp port) are all = tt

pub returns-clause-packets : goal.returns-clause-packets
returns-clause-packets g c =
    let ports : c.len.result ≡ length c.args.self.now.ports = c.len.ensures.value ∙ ap (λ (v : State). length v.ports) c.self.view_is in
    c.most_need_of.ensures.packets ∙ ap (λ k. packets_ever k g.row.R g.row.S) ports

pub returns-clause-bytes : goal.returns-clause-bytes
returns-clause-bytes g c =
    let ports : c.len.result ≡ length c.args.self.now.ports = c.len.ensures.value ∙ ap (λ (v : State). length v.ports) c.self.view_is in
    c.most_need_of.ensures.bytes ∙ ap (λ k. bytes_ever k g.row.R g.row.S c.args.longest) ports

pub most_need_of-requires-clause-some : goal.most_need_of-requires-clause-some
most_need_of-requires-clause-some g c = grind arith

pub most_need_of-requires-clause-few_routes : goal.most_need_of-requires-clause-few_routes
most_need_of-requires-clause-few_routes g c = grind arith

pub most_need_of-requires-clause-few_services : goal.most_need_of-requires-clause-few_services
most_need_of-requires-clause-few_services g c = grind arith

pub len-requires : goal.len-requires
len-requires g c = grind arith

pub most_need_of-requires-clause-few : goal.most_need_of-requires-clause-few
most_need_of-requires-clause-few g c = grind arith

pub readings-requires : goal.readings-requires
readings-requires g c = search
