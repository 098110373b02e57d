use Rattle.std.proofs.Common.{◌<◌, subst, length}
use Rattle.ipx_router.specs.Happened.{happened}
use Rattle.ipx_router.specs.History.{Start, Stop, Second, Packet, PortDown, PortUp, IsOnPort}
use Rattle.ipx_router.specs.Needs.{HasRoomFor}
use Rattle.ipx_router.specs.declared.event.Event.{Event as Given}
use Rattle.ipx_router.proofs.router.Router.dispatch.Goals as goal

pub start-requires : goal.start-requires
start-requires g c =
    let room : HasRoomFor c.args.self.now (Start) c.args.outbox.now =
    subst (λ (e : Given). HasRoomFor c.args.self.now (happened e) c.args.outbox.now) c.in-Start.is c.requires.room in
    search room

pub stop-requires : goal.stop-requires
stop-requires g c =
    let room : HasRoomFor c.args.self.now (Stop) c.args.outbox.now =
    subst (λ (e : Given). HasRoomFor c.args.self.now (happened e) c.args.outbox.now) c.in-Stop.is c.requires.room in
    search room

pub second-requires : goal.second-requires
second-requires g c =
    let room : HasRoomFor c.args.self.now (Second) c.args.outbox.now =
    subst (λ (e : Given). HasRoomFor c.args.self.now (happened e) c.args.outbox.now) c.in-Second.is c.requires.room in
    search room

pub packet-requires : goal.packet-requires
packet-requires g c =
    let room : HasRoomFor c.args.self.now (Packet c.in-Packet.port c.in-Packet.bytes.now) c.args.outbox.now =
    subst (λ (e : Given). HasRoomFor c.args.self.now (happened e) c.args.outbox.now) c.in-Packet.is c.requires.room in
    let port : c.in-Packet.port < length c.args.self.now.ports =
    subst (λ (e : Given). IsOnPort c.args.self.now.ports (happened e)) c.in-Packet.is c.requires.port in
    search (room, port)

pub port_down-requires : goal.port_down-requires
port_down-requires g c =
    let room : HasRoomFor c.args.self.now (PortDown c.in-PortDown.port) c.args.outbox.now =
    subst (λ (e : Given). HasRoomFor c.args.self.now (happened e) c.args.outbox.now) c.in-PortDown.is c.requires.room in
    let port : c.in-PortDown.port < length c.args.self.now.ports =
    subst (λ (e : Given). IsOnPort c.args.self.now.ports (happened e)) c.in-PortDown.is c.requires.port in
    search (room, port)

pub port_up-requires : goal.port_up-requires
port_up-requires g c =
    let room : HasRoomFor c.args.self.now (PortUp c.in-PortUp.port) c.args.outbox.now =
    subst (λ (e : Given). HasRoomFor c.args.self.now (happened e) c.args.outbox.now) c.in-PortUp.is c.requires.room in
    let port : c.in-PortUp.port < length c.args.self.now.ports =
    subst (λ (e : Given). IsOnPort c.args.self.now.ports (happened e)) c.in-PortUp.is c.requires.port in
    search (room, port)
