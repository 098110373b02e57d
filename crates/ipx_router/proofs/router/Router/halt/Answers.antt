use Rattle.std.proofs.Common.{arith, ◌≡◌, ◌<◌, ◌≤◌, sym, ap, ◌∙◌, subst, true, false, map, length}
use Rattle.std.specs.List.{AllByRecursion, flat_map}
use Rattle.ipx_router.specs.Facts.{offers}
use Rattle.ipx_router.specs.inside.Following.{Follows}
use Rattle.ipx_router.specs.History.{Stop}
use Rattle.ipx_router.specs.Needs.{HasRoomFor}
use Rattle.ipx_router.specs.Outbox.{Fits}
use Rattle.ipx_router.specs.Sends.{stop_on}
use Rattle.ipx_router.specs.Stands.{State}
use Rattle.ipx_router.proofs.bounds.RoomIsEnough.{next_router}
use Rattle.ipx_router.proofs.histories.RouterOneEventMore.{TableSteps, stop_follows, stop_room, ups_within, few_ups}
use Rattle.ipx_router.proofs.histories.StateAfterEachEvent.{state_of}
use Rattle.ipx_router.proofs.router.Router.halt.Goals as goal

pub send_stop-requires : goal.send_stop-requires
send_stop-requires g c =
    let i = c.self.inside in
    let s = state_of i.ports.items i.running i.up.items i.seconds i.routes.records i.services.records in
    let runs : s.running ≡ true = ap (λ (v : State). v.running) c.self.view_is ∙ c.requires.runs in
    let tables : TableSteps g.row.R g.row.S s.ports = record {
      route_second = c.next_facts.ensures.second g.row.R (map (λ p. p.route_share) s.ports);
      route_port_end = c.next_facts.ensures.port_end g.row.R (map (λ p. p.route_share) s.ports);
      route_end = c.next_facts.ensures.end g.row.R (map (λ p. p.route_share) s.ports);
      service_second = c.next_facts-2.ensures.second g.row.S (map (λ p. p.service_share) s.ports);
      service_port_end = c.next_facts-2.ensures.port_end g.row.S (map (λ p. p.service_share) s.ports);
      service_end = c.next_facts-2.ensures.end g.row.S (map (λ p. p.service_share) s.ports);
    } in
    let need : HasRoomFor s Stop c.args.outbox.now = subst (λ (v : State). HasRoomFor v Stop c.args.outbox.now) (sym c.self.view_is) c.requires.room in
    let fits = stop_room g.row.R g.row.S s i.routes.shares i.services.shares c.self.invariant (record { few = c.bounds.ensures.few; short = c.bounds.ensures.short })
    c.args.outbox.now tables runs need in
    let room : Fits c.args.outbox.now
    (flat_map (stop_on c.deref.result.now (record { up = c.deref-2.result.now; routes = offers i.routes.records; services = offers i.services.records })) c.deref-2.result.now) =
    rw (c.deref.ensures.0, c.deref-2.ensures.0) fits in
    let within : AllByRecursion (λ j. j < length c.deref.result.now) c.deref-2.result.now =
    rw (c.deref.ensures.0, c.deref-2.ensures.0) (ups_within g.row.R g.row.S s i.routes.shares i.services.shares c.self.invariant) in
    let few : length c.deref-2.result.now ≤ 32 = rw c.deref-2.ensures.0 (few_ups g.row.R g.row.S s i.routes.shares i.services.shares c.self.invariant) in
    (grind arith, (grind arith, search (room, within, few)))

pub invariant_of-self : goal.invariant_of-self
invariant_of-self g c =
    let i = c.self.inside in
    let s = state_of i.ports.items i.running i.up.items i.seconds i.routes.records i.services.records in
    let runs : s.running ≡ true = ap (λ (v : State). v.running) c.self.view_is ∙ c.requires.runs in
    let tables : TableSteps g.row.R g.row.S s.ports = record {
      route_second = c.next_facts.ensures.second g.row.R (map (λ p. p.route_share) s.ports);
      route_port_end = c.next_facts.ensures.port_end g.row.R (map (λ p. p.route_share) s.ports);
      route_end = c.next_facts.ensures.end g.row.R (map (λ p. p.route_share) s.ports);
      service_second = c.next_facts-2.ensures.second g.row.S (map (λ p. p.service_share) s.ports);
      service_port_end = c.next_facts-2.ensures.port_end g.row.S (map (λ p. p.service_share) s.ports);
      service_end = c.next_facts-2.ensures.end g.row.S (map (λ p. p.service_share) s.ports);
    } in
    next_router g.row.R g.row.S s i.routes.shares i.services.shares c.self.invariant
    (state_of s.ports false c.clear.new.self.items s.seconds c.clear-2.new.self.records c.clear-3.new.self.records) Stop tt tt
    (stop_follows g.row.R g.row.S s tables c.clear.new.self.items s.seconds c.clear-2.new.self.records c.clear-3.new.self.records runs
    c.clear.ensures c.clear-2.ensures.empty c.clear-3.ensures.empty)
    c.clear-2.new.self.shares c.clear-3.new.self.shares c.clear-2.ensures.shares c.clear-3.ensures.shares c.self.invariant.minute

pub returns-clause-follows : goal.returns-clause-follows
returns-clause-follows g c =
    let i = c.self.inside in
    let s = state_of i.ports.items i.running i.up.items i.seconds i.routes.records i.services.records in
    let runs : s.running ≡ true = ap (λ (v : State). v.running) c.self.view_is ∙ c.requires.runs in
    let tables : TableSteps g.row.R g.row.S s.ports = record {
      route_second = c.next_facts.ensures.second g.row.R (map (λ p. p.route_share) s.ports);
      route_port_end = c.next_facts.ensures.port_end g.row.R (map (λ p. p.route_share) s.ports);
      route_end = c.next_facts.ensures.end g.row.R (map (λ p. p.route_share) s.ports);
      service_second = c.next_facts-2.ensures.second g.row.S (map (λ p. p.service_share) s.ports);
      service_port_end = c.next_facts-2.ensures.port_end g.row.S (map (λ p. p.service_share) s.ports);
      service_end = c.next_facts-2.ensures.end g.row.S (map (λ p. p.service_share) s.ports);
    } in
    subst (λ (v : State). Follows g.row.R g.row.S v
    (state_of s.ports false c.clear.new.self.items s.seconds c.clear-2.new.self.records c.clear-3.new.self.records) Stop) c.self.view_is
    (stop_follows g.row.R g.row.S s tables c.clear.new.self.items s.seconds c.clear-2.new.self.records c.clear-3.new.self.records runs
    c.clear.ensures c.clear-2.ensures.empty c.clear-3.ensures.empty)

pub deref-requires : goal.deref-requires
deref-requires g c = grind arith

pub deref-requires-2 : goal.deref-requires-2
deref-requires-2 g c = grind arith

pub clear-requires : goal.clear-requires
clear-requires g c = grind arith

pub clear-requires-2 : goal.clear-requires-2
clear-requires-2 g c = grind arith

pub clear-requires-3 : goal.clear-requires-3
clear-requires-3 g c = grind arith
