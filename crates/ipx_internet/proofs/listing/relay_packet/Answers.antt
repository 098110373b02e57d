use Rattle.std.proofs.Common.{◌*◌, subst, ℕ}
use Rattle.ipx_router.specs.Outbox.{HasRoom}
use Rattle.ipx_router.specs.Relay.{relay_places}
use Rattle.ipx_internet.proofs.listing.relay_packet.Goals as goal
use Rattle.ipx_internet.proofs.trees.MemoryOfATrace.{then_holds, holds_reserved, holds_appended}

pub relay-requires : goal.relay-requires
relay-requires g c =
    let ports = c.args.router.now.ports in
    let size = c.args.packet.now.header.length in
    let some : HasRoom c.reserve.new.self (relay_places ports) c.relay_need.result.bytes =
    subst (λ (n : ℕ). HasRoom c.reserve.new.self n c.relay_need.result.bytes) c.relay_need.ensures.packets c.in-Ok.ensures.room in
    let room : HasRoom c.reserve.new.self (relay_places ports) (relay_places ports * size) =
    subst (λ (n : ℕ). HasRoom c.reserve.new.self (relay_places ports) n) c.relay_need.ensures.bytes some in
    (first_of (assumption c.well_formed, search c.well_formed), (c.requires, room))

pub relay_need-requires : goal.relay_need-requires
relay_need-requires g c = first_of (assumption c.well_formed, search c.well_formed)

pub returns-in-Ok-clause-room : goal.returns-in-Ok-clause-room
returns-in-Ok-clause-room g c =
    then_holds c.args.outbox.now c.reserve.new.self c.relay.new.outbox
    (holds_reserved c.args.outbox.now c.reserve.new.self c.reserve.ensures.kept c.reserve.ensures.sent)
    (holds_appended c.reserve.new.self c.relay.new.outbox _ c.relay.ensures.sends)

pub returns-in-Err-clause-room : goal.returns-in-Err-clause-room
returns-in-Err-clause-room g c = holds_reserved c.args.outbox.now c.reserve.new.self c.reserve.ensures.kept c.reserve.ensures.sent
