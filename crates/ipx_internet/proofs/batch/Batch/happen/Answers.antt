use Rattle.std.proofs.Common.{rules, arith, ap, ◌∙◌, sym, subst, ◌≤◌, ◌*◌, length, length-append}
use Rattle.std.specs.Vec.{vec_len, vec_capacity}
use Rattle.ipx_router.specs.Happened.{happened}
use Rattle.ipx_router.specs.Needs.{HasRoomFor, packets_needed}
use Rattle.ipx_router.specs.Sends.{sends}
use Rattle.ipx_internet.specs.Batches.{Pile}
use Rattle.ipx_internet.proofs.batch.Batch.happen.Goals as goal
use Rattle.ipx_internet.proofs.deliveries.BatchPacketByPacket.{room_for_all, within_longer, event_delivers}

pub handle-outcome-requires : goal.handle-outcome-requires
handle-outcome-requires g c = (
  first_of (assumption c.well_formed, search c.well_formed),
  (c.requires.port, subst (λ (p : Pile). HasRoomFor c.args.router.now (happened c.args.event) p.outbox) (sym c.self.view_is) c.requires.room),
)

pub deliver-requires : goal.deliver-requires
deliver-requires g c =
    let sent = c.self.inside.outbox.sent in
    let bounds = c.handle-outcome.ensures.bounds in
    let longer = ap length bounds.appended ∙ length-append sent bounds.packets in
    let begins = c.len-before.ensures in
    let small = bounds.few in (
      first_of (assumption c.well_formed, search c.well_formed),
      room_for_all (vec_len c.self.inside.pending) (vec_capacity c.self.inside.pending)
          (packets_needed c.args.router.now (happened c.args.event)) c.args.stations.now.most
          (length c.handle-outcome.new.outbox.sent) c.len-before.result (search rules)
          (subst (λ (p : Pile). packets_needed c.args.router.now (happened c.args.event) * c.args.stations.now.most ≤ p.places)
          (sym c.self.view_is) c.requires.places)
          (omega (arith, longer, begins, small)),
    )

pub invariant_of-self : goal.invariant_of-self
invariant_of-self g c =
    c.deliver.ensures.within
    (within_longer c.self.inside.outbox.sent c.handle-outcome.ensures.bounds.packets c.handle-outcome.new.outbox.sent c.self.inside.pending.items
    c.handle-outcome.ensures.bounds.appended c.self.invariant)

pub returns-clause-deliveries : goal.returns-clause-deliveries
returns-clause-deliveries g c h stands =
    event_delivers c.args.stations.now.list c.args.router.now.ports c.handle-outcome.new.self.ports c.args.number c.len-before.result c.self.inside.outbox.sent
    (sends c.args.router.now.ports g.row.R g.row.S h (happened c.args.event)) c.handle-outcome.new.outbox.sent c.self.inside.pending.items
    c.deliver.new.pending.items
    c.args.self.now.deliveries c.self.invariant (c.handle-outcome.ensures.sends h stands).sent c.len-before.ensures c.handle-outcome.ensures.ports
    (ap (λ (p : Pile). p.deliveries) (sym c.self.view_is)) c.deliver.ensures.deliveries

pub is_router-requires : goal.is_router-requires
is_router-requires g c = first_of (assumption c.well_formed, search c.well_formed)
