use Rattle.std.proofs.Common.{refl, ◌∙◌, sym, ap, subst, arith, ℕ, List, ◌++◌, ◌+◌, ◌*◌, ◌≤◌, length, max}
use Rattle.std.proofs.lemmas.Result.{err_from_is_err_and}
use Rattle.ipx_router.specs.Happened.{happened}
use Rattle.ipx_router.specs.Needs.{packets_needed, bytes_needed}
use Rattle.ipx_router.specs.Outbox.{Memory, HasRoom, TakesRoom, total}
use Rattle.ipx_router.specs.Relays.{Sent}
use Rattle.ipx_router.specs.Sends.{sends}
use Rattle.ipx_router.proofs.router.Router.step.Goals as goal

pub returns-clause-sends : goal.returns-clause-sends
returns-clause-sends g c = λ h stands.
    let event = happened c.args.event in
    (c.handle.ensures.sends h stands).sent
    ∙ ap (λ (before : List Sent). before ++ sends c.args.self.now.ports g.row.R g.row.S h event) c.reserve.ensures.sent

pub returns-clause-room : goal.returns-clause-room
returns-clause-room g c = λ h stands packets bytes fits.
    let appends = c.handle.ensures.sends h stands in
    let sent = sends c.args.self.now.ports g.row.R g.row.S h (happened c.args.event) in
    let before = c.reserve.ensures.kept (length sent + packets) (total sent + bytes) fits in
    record { places = omega (arith, appends.places, before.places); spare = omega (arith, appends.spare, before.spare) }

pub returns-clause-kept : goal.returns-clause-kept
returns-clause-kept g c = tt

pub returns-in_err-reserve-clause-room : goal.returns-in_err-reserve-clause-room
returns-in_err-reserve-clause-room g c = rw (err_from_is_err_and c.from_residual.result c.from_residual.ensures.1).1 tt

pub returns-in_err-reserve-clause-kept : goal.returns-in_err-reserve-clause-kept
returns-in_err-reserve-clause-kept g c = rw (err_from_is_err_and c.from_residual.result c.from_residual.ensures.1).1 c.reserve.ensures.kept

pub returns-clause-still : goal.returns-clause-still
returns-clause-still g c = λ room.
    let here : HasRoom c.args.outbox.now c.need-need.result.packets c.need-need.result.bytes = rw (c.need-need.ensures.packets, c.need-need.ensures.bytes) room in
    c.handle.ensures.memory ∙ c.reserve.ensures.still here

pub returns-clause-takes : goal.returns-clause-takes
returns-clause-takes g c =
    let s = c.args.self.now in
    let event = happened c.args.event in
    let o = c.args.outbox.now in
    let middle = c.reserve.new.self in
    let memory = c.handle.ensures.memory in
    let packets : TakesRoom o middle (packets_needed s event) c.need-need.result.bytes =
    subst (λ (n : ℕ). TakesRoom o middle n c.need-need.result.bytes) c.need-need.ensures.packets c.reserve.ensures.takes in
    let taken : TakesRoom o middle (packets_needed s event) (bytes_needed s event) =
    subst (λ (n : ℕ). TakesRoom o middle (packets_needed s event) n) c.need-need.ensures.bytes packets in
    record {
      places_there = λ few. ap (λ (m : Memory). m.packets) memory ∙ taken.places_there few;
      bytes_there = λ few. ap (λ (m : Memory). m.bytes) memory ∙ taken.bytes_there few;
      most_places = subst (λ (m : Memory). m.packets ≤ max (2 * o.memory.packets) (length o.sent + packets_needed s event)) (sym memory) taken.most_places;
      most_bytes = subst (λ (m : Memory). m.bytes ≤ max (2 * o.memory.bytes) (total o.sent + bytes_needed s event)) (sym memory) taken.most_bytes;
    }

pub returns-in_err-reserve-clause-there : goal.returns-in_err-reserve-clause-there
returns-in_err-reserve-clause-there g c = λ room.
    let here : HasRoom c.args.outbox.now c.need-need.result.packets c.need-need.result.bytes = rw (c.need-need.ensures.packets, c.need-need.ensures.bytes) room in
    absurd (c.in_err-reserve.ensures.refused here)

pub returns-in_err-reserve-clause-still : goal.returns-in_err-reserve-clause-still
returns-in_err-reserve-clause-still g c = λ room.
    let here : HasRoom c.args.outbox.now c.need-need.result.packets c.need-need.result.bytes = rw (c.need-need.ensures.packets, c.need-need.ensures.bytes) room in
    c.reserve.ensures.still here

pub returns-in_err-reserve-clause-takes : goal.returns-in_err-reserve-clause-takes
returns-in_err-reserve-clause-takes g c =
    let s = c.args.self.now in
    let event = happened c.args.event in
    let o = c.args.outbox.now in
    let later = c.reserve.new.self in
    subst (λ (n : ℕ). TakesRoom o later (packets_needed s event) n) c.need-need.ensures.bytes
    (subst (λ (n : ℕ). TakesRoom o later n c.need-need.result.bytes) c.need-need.ensures.packets c.reserve.ensures.takes)

pub handle-requires : goal.handle-requires
handle-requires g c =
    let s = c.args.self.now in
    let event = happened c.args.event in
    let o = c.reserve.new.self in
    let packets = subst (λ (n : ℕ). HasRoom o n c.need-need.result.bytes) c.need-need.ensures.packets c.in_ok-reserve.ensures.room in
    let room = subst (λ (n : ℕ). HasRoom o (packets_needed s event) n) c.need-need.ensures.bytes packets in
    (search, (c.requires.port, room))

pub need-need-requires : goal.need-need-requires
need-need-requires g c = search

pub reserve-requires : goal.reserve-requires
reserve-requires g c = search

pub returns-in_err-reserve-clause-stands : goal.returns-in_err-reserve-clause-stands
returns-in_err-reserve-clause-stands g c = rw (err_from_is_err_and c.from_residual.result c.from_residual.ensures.1).1 tt

pub returns-in_err-reserve-clause-sends : goal.returns-in_err-reserve-clause-sends
returns-in_err-reserve-clause-sends g c = rw (err_from_is_err_and c.from_residual.result c.from_residual.ensures.1).1 tt

pub returns-in_err-reserve-clause-outcome : goal.returns-in_err-reserve-clause-outcome
returns-in_err-reserve-clause-outcome g c = rw (err_from_is_err_and c.from_residual.result c.from_residual.ensures.1).1 tt

pub returns-in_err-reserve-clause-bounds : goal.returns-in_err-reserve-clause-bounds
returns-in_err-reserve-clause-bounds g c = rw (err_from_is_err_and c.from_residual.result c.from_residual.ensures.1).1 tt

pub returns-in_err-reserve-clause-capacity : goal.returns-in_err-reserve-clause-capacity
returns-in_err-reserve-clause-capacity g c = rw (err_from_is_err_and c.from_residual.result c.from_residual.ensures.1).1 tt

pub returns-in_err-reserve-clause-route_shares : goal.returns-in_err-reserve-clause-route_shares
returns-in_err-reserve-clause-route_shares g c = rw (err_from_is_err_and c.from_residual.result c.from_residual.ensures.1).1 tt

pub returns-in_err-reserve-clause-service_shares : goal.returns-in_err-reserve-clause-service_shares
returns-in_err-reserve-clause-service_shares g c = rw (err_from_is_err_and c.from_residual.result c.from_residual.ensures.1).1 tt

pub returns-in_err-reserve-clause-route_room : goal.returns-in_err-reserve-clause-route_room
returns-in_err-reserve-clause-route_room g c = rw (err_from_is_err_and c.from_residual.result c.from_residual.ensures.1).1 tt

pub returns-in_err-reserve-clause-service_room : goal.returns-in_err-reserve-clause-service_room
returns-in_err-reserve-clause-service_room g c = rw (err_from_is_err_and c.from_residual.result c.from_residual.ensures.1).1 tt

pub returns-in_err-reserve-clause-router : goal.returns-in_err-reserve-clause-router
returns-in_err-reserve-clause-router g c = rw (err_from_is_err_and c.from_residual.result c.from_residual.ensures.1).1 refl

pub returns-in_err-reserve-clause-outbox : goal.returns-in_err-reserve-clause-outbox
returns-in_err-reserve-clause-outbox g c = rw (err_from_is_err_and c.from_residual.result c.from_residual.ensures.1).1 c.reserve.ensures.sent

pub returns-clause-ports : goal.returns-clause-ports
returns-clause-ports g c = c.handle.ensures.ports

pub returns-clause-stands : goal.returns-clause-stands
returns-clause-stands g c = c.handle.ensures.stands

pub returns-clause-outcome : goal.returns-clause-outcome
returns-clause-outcome g c = c.handle.ensures.outcome

pub returns-clause-capacity : goal.returns-clause-capacity
returns-clause-capacity g c = c.handle.ensures.capacity

pub returns-clause-route_shares : goal.returns-clause-route_shares
returns-clause-route_shares g c = c.handle.ensures.route_shares

pub returns-clause-service_shares : goal.returns-clause-service_shares
returns-clause-service_shares g c = c.handle.ensures.service_shares

pub returns-clause-route_room : goal.returns-clause-route_room
returns-clause-route_room g c = c.handle.ensures.route_room

pub returns-clause-service_room : goal.returns-clause-service_room
returns-clause-service_room g c = c.handle.ensures.service_room

pub returns-clause-router : goal.returns-clause-router
returns-clause-router g c = tt

pub returns-clause-outbox : goal.returns-clause-outbox
returns-clause-outbox g c = tt

pub returns-clause-bounds : goal.returns-clause-bounds
returns-clause-bounds g c = rw (sym c.reserve.ensures.sent) c.handle.ensures.bounds
