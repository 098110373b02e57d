use Rattle.std.proofs.Common.{◌≡◌, ◌<◌, ◌≤◌, ◌+◌, ◌%◌, ◌==◌, refl, sym, ap, ◌∙◌, subst, Bool, true, List, map, length, arith}
use Rattle.std.specs.List.{AllByRecursion}
use Rattle.ipx_router.specs.inside.EndedSends.{second_sends}
use Rattle.ipx_router.specs.inside.Following.{Follows, is_next_periodic, sends_between}
use Rattle.ipx_router.specs.History.{Second}
use Rattle.ipx_router.specs.Needs.{HasRoomFor}
use Rattle.ipx_router.specs.Numbers.{period}
use Rattle.ipx_router.specs.Outbox.{Fits, Appends}
use Rattle.ipx_router.specs.Relays.{Sent}
use Rattle.ipx_router.specs.Stands.{State}
use Rattle.ipx_router.proofs.bounds.RoomIsEnough.{next_router}
use Rattle.ipx_router.proofs.histories.RouterOneEventMore.{TableSteps, second_follows, second_room, second_sent, ups_within, few_ups}
use Rattle.ipx_router.proofs.histories.StateAfterEachEvent.{state_of}
use Rattle.ipx_router.proofs.router.Router.tick.Goals as goal

pub pass_second-requires : goal.pass_second-requires
pass_second-requires g c =
    let i = c.self.inside in
    let s = state_of i.ports.items i.running i.up.items i.seconds i.routes.records i.services.records in
    let tables : TableSteps g.row.R g.row.S s.ports = record {
      route_second = c.next_facts.ensures.second g.row.R (map (λ p. p.route_share) s.ports);
      route_port_end = c.next_facts.ensures.port_end g.row.R (map (λ p. p.route_share) s.ports);
      route_end = c.next_facts.ensures.end g.row.R (map (λ p. p.route_share) s.ports);
      service_second = c.next_facts-2.ensures.second g.row.S (map (λ p. p.service_share) s.ports);
      service_port_end = c.next_facts-2.ensures.port_end g.row.S (map (λ p. p.service_share) s.ports);
      service_end = c.next_facts-2.ensures.end g.row.S (map (λ p. p.service_share) s.ports);
    } in
    let runs : s.running ≡ true = ap (λ (v : State). v.running) c.self.view_is ∙ c.requires.runs in
    let need : HasRoomFor s Second c.args.outbox.now = subst (λ (v : State). HasRoomFor v Second c.args.outbox.now) (sym c.self.view_is) c.requires.room in
    let fits = second_room g.row.R g.row.S s i.routes.shares i.services.shares c.self.invariant (record { few = c.bounds.ensures.few; short = c.bounds.ensures.short }) tables c.args.outbox.now runs need in
    let room : Fits c.args.outbox.now (second_sends c.deref.result.now c.deref-2.result.now i.routes.records i.services.records ((i.seconds + 1) % period == 0)) =
    rw (c.deref.ensures.0, c.deref-2.ensures.0) fits in
    let within : AllByRecursion (λ j. j < length c.deref.result.now) c.deref-2.result.now = rw (c.deref.ensures.0, c.deref-2.ensures.0) (ups_within g.row.R g.row.S s i.routes.shares i.services.shares c.self.invariant) in
    let few : length c.deref-2.result.now ≤ 32 = rw c.deref-2.ensures.0 (few_ups g.row.R g.row.S s i.routes.shares i.services.shares c.self.invariant) in
    (grind arith, (grind arith, search (room, within, few)))

pub invariant_of-self : goal.invariant_of-self
invariant_of-self g c =
    let i = c.self.inside in
    let s = state_of i.ports.items i.running i.up.items i.seconds i.routes.records i.services.records in
    let tables : TableSteps g.row.R g.row.S s.ports = record {
      route_second = c.next_facts.ensures.second g.row.R (map (λ p. p.route_share) s.ports);
      route_port_end = c.next_facts.ensures.port_end g.row.R (map (λ p. p.route_share) s.ports);
      route_end = c.next_facts.ensures.end g.row.R (map (λ p. p.route_share) s.ports);
      service_second = c.next_facts-2.ensures.second g.row.S (map (λ p. p.service_share) s.ports);
      service_port_end = c.next_facts-2.ensures.port_end g.row.S (map (λ p. p.service_share) s.ports);
      service_end = c.next_facts-2.ensures.end g.row.S (map (λ p. p.service_share) s.ports);
    } in
    let runs : s.running ≡ true = ap (λ (v : State). v.running) c.self.view_is ∙ c.requires.runs in
    let routes = c.pass_second.new.routes.records in
    let services = c.pass_second.new.services.records in
    let later = (s.seconds + 1) % period in
    let step : Follows g.row.R g.row.S s (state_of s.ports s.running s.up later routes services) Second =
    subst (λ (r : Bool). Follows g.row.R g.row.S s (state_of s.ports r s.up later routes services) Second) (sym runs)
    (second_follows g.row.R g.row.S s tables later routes services runs refl c.pass_second.ensures.routes c.pass_second.ensures.services) in
    let below : (s.seconds + 1) % period < period = omega arith in
    next_router g.row.R g.row.S s i.routes.shares i.services.shares c.self.invariant (state_of s.ports s.running s.up later routes services) Second tt tt step
    c.pass_second.new.routes.shares c.pass_second.new.services.shares c.pass_second.ensures.route_shares c.pass_second.ensures.service_shares below

pub returns-clause-follows : goal.returns-clause-follows
returns-clause-follows g c =
    let i = c.self.inside in
    let s = state_of i.ports.items i.running i.up.items i.seconds i.routes.records i.services.records in
    let tables : TableSteps g.row.R g.row.S s.ports = record {
      route_second = c.next_facts.ensures.second g.row.R (map (λ p. p.route_share) s.ports);
      route_port_end = c.next_facts.ensures.port_end g.row.R (map (λ p. p.route_share) s.ports);
      route_end = c.next_facts.ensures.end g.row.R (map (λ p. p.route_share) s.ports);
      service_second = c.next_facts-2.ensures.second g.row.S (map (λ p. p.service_share) s.ports);
      service_port_end = c.next_facts-2.ensures.port_end g.row.S (map (λ p. p.service_share) s.ports);
      service_end = c.next_facts-2.ensures.end g.row.S (map (λ p. p.service_share) s.ports);
    } in
    let runs : s.running ≡ true = ap (λ (v : State). v.running) c.self.view_is ∙ c.requires.runs in
    let routes = c.pass_second.new.routes.records in
    let services = c.pass_second.new.services.records in
    let later = (s.seconds + 1) % period in
    let step : Follows g.row.R g.row.S s (state_of s.ports s.running s.up later routes services) Second =
    subst (λ (r : Bool). Follows g.row.R g.row.S s (state_of s.ports r s.up later routes services) Second) (sym runs)
    (second_follows g.row.R g.row.S s tables later routes services runs refl c.pass_second.ensures.routes c.pass_second.ensures.services) in
    subst (λ (v : State). Follows g.row.R g.row.S v (state_of s.ports s.running s.up later routes services) Second) c.self.view_is step

pub returns-clause-sends : goal.returns-clause-sends
returns-clause-sends g c =
    let i = c.self.inside in
    let s = state_of i.ports.items i.running i.up.items i.seconds i.routes.records i.services.records in
    let runs : s.running ≡ true = ap (λ (v : State). v.running) c.self.view_is ∙ c.requires.runs in
    let routes = c.pass_second.new.routes.records in
    let services = c.pass_second.new.services.records in
    let later = (s.seconds + 1) % period in
    let given : second_sends c.deref.result.now c.deref-2.result.now s.routes s.services (is_next_periodic s) ≡ second_sends s.ports s.up s.routes s.services (is_next_periodic s) =
    rw (c.deref.ensures.0, c.deref-2.ensures.0) refl in
    subst (λ (v : State). Appends c.args.outbox.now c.pass_second.new.outbox (sends_between v (state_of s.ports s.running s.up later routes services) Second)) c.self.view_is
    (subst (λ (ps : List Sent). Appends c.args.outbox.now c.pass_second.new.outbox ps)
    (given ∙ second_sent s later routes services runs c.pass_second.ensures.routes c.pass_second.ensures.services) c.pass_second.ensures.sends)

pub deref-requires : goal.deref-requires
deref-requires g c = grind arith

pub deref-requires-2 : goal.deref-requires-2
deref-requires-2 g c = grind arith
