use Rattle.std.proofs.Common.{arith, ◌≡◌, ◌<◌, ◌==◌, refl, sym, ap, ◌∙◌, subst, not, Bool, true, List, ℕ, map, filter, length}
use Rattle.std.specs.List.{AllByRecursion}
use Rattle.ipx_router.specs.inside.EndedSends.{port_down_sends}
use Rattle.ipx_router.specs.inside.Following.{Follows, sends_between}
use Rattle.ipx_router.specs.History.{PortDown}
use Rattle.ipx_router.specs.Needs.{HasRoomFor}
use Rattle.ipx_router.specs.Outbox.{Fits, Appends}
use Rattle.ipx_router.specs.Port.{is_up}
use Rattle.ipx_router.specs.Relays.{Sent}
use Rattle.ipx_router.specs.Stands.{State}
use Rattle.ipx_router.proofs.bounds.RoomIsEnough.{next_router}
use Rattle.ipx_router.proofs.histories.RouterOneEventMore.{TableSteps, down_follows, down_room, down_sent, ups_within, few_ups, within_filter}
use Rattle.ipx_router.proofs.histories.StateAfterEachEvent.{state_of}
use Rattle.ipx_router.proofs.router.Router.take_down.Goals as goal

pub without_number-self-inside-requires : goal.without_number-self-inside-requires
without_number-self-inside-requires g c =
    let i = c.self.inside in
    let s = state_of i.ports.items i.running i.up.items i.seconds i.routes.records i.services.records in
    record { fits = rw c.deref.ensures.0 (few_ups g.row.R g.row.S s i.routes.shares i.services.shares c.self.invariant) }

pub end_port-requires : goal.end_port-requires
end_port-requires g c =
    let i = c.self.inside in
    let s = state_of i.ports.items i.running i.up.items i.seconds i.routes.records i.services.records in
    let runs : s.running ≡ true = ap (λ (v : State). v.running) c.self.view_is ∙ c.requires.runs in
    let n = c.args.port in
    let there : is_up s.up n ≡ true = ap (λ (v : State). is_up v.up n) c.self.view_is ∙ c.requires.up in
    let within : n < length s.ports = rw (ap (λ (v : State). length v.ports) c.self.view_is) c.requires.port in
    let ups = c.without_number-self-inside.result.items in
    let are : ups ≡ filter (λ j. not (j == n)) s.up = c.without_number-self-inside.ensures ∙ ap (λ (u : List ℕ). filter (λ j. not (j == n)) u) c.deref.ensures.0 in
    let tables : TableSteps g.row.R g.row.S s.ports = record {
      route_second = c.next_facts.ensures.second g.row.R (map (λ p. p.route_share) s.ports);
      route_port_end = c.next_facts.ensures.port_end g.row.R (map (λ p. p.route_share) s.ports);
      route_end = c.next_facts.ensures.end g.row.R (map (λ p. p.route_share) s.ports);
      service_second = c.next_facts-2.ensures.second g.row.S (map (λ p. p.service_share) s.ports);
      service_port_end = c.next_facts-2.ensures.port_end g.row.S (map (λ p. p.service_share) s.ports);
      service_end = c.next_facts-2.ensures.end g.row.S (map (λ p. p.service_share) s.ports);
    } in
    let need : HasRoomFor s (PortDown n) c.args.outbox.now = subst (λ (v : State). HasRoomFor v (PortDown n) c.args.outbox.now) (sym c.self.view_is) c.requires.room in
    let fits = down_room g.row.R g.row.S s i.routes.shares i.services.shares c.self.invariant (record { few = c.bounds.ensures.few; short = c.bounds.ensures.short }) tables c.args.outbox.now n ups within runs there are need in
    let room : Fits c.args.outbox.now (port_down_sends c.deref-2.result.now c.deref-3.result.now i.routes.records i.services.records n) =
    rw (c.deref-2.ensures.0, c.deref-3.ensures.0) fits in
    let exists : n < length c.deref-2.result.now = rw c.deref-2.ensures.0 within in
    let all : AllByRecursion (λ j. j < length c.deref-2.result.now) c.deref-3.result.now =
    rw (c.deref-2.ensures.0, c.deref-3.ensures.0, are) (within_filter (length s.ports) n s.up (ups_within g.row.R g.row.S s i.routes.shares i.services.shares c.self.invariant)) in
    (grind arith, (grind arith, search (room, exists, all)))

pub invariant_of-self : goal.invariant_of-self
invariant_of-self g c =
    let i = c.self.inside in
    let s = state_of i.ports.items i.running i.up.items i.seconds i.routes.records i.services.records in
    let runs : s.running ≡ true = ap (λ (v : State). v.running) c.self.view_is ∙ c.requires.runs in
    let n = c.args.port in
    let there : is_up s.up n ≡ true = ap (λ (v : State). is_up v.up n) c.self.view_is ∙ c.requires.up in
    let within : n < length s.ports = rw (ap (λ (v : State). length v.ports) c.self.view_is) c.requires.port in
    let ups = c.without_number-self-inside.result.items in
    let are : ups ≡ filter (λ j. not (j == n)) s.up = c.without_number-self-inside.ensures ∙ ap (λ (u : List ℕ). filter (λ j. not (j == n)) u) c.deref.ensures.0 in
    let tables : TableSteps g.row.R g.row.S s.ports = record {
      route_second = c.next_facts.ensures.second g.row.R (map (λ p. p.route_share) s.ports);
      route_port_end = c.next_facts.ensures.port_end g.row.R (map (λ p. p.route_share) s.ports);
      route_end = c.next_facts.ensures.end g.row.R (map (λ p. p.route_share) s.ports);
      service_second = c.next_facts-2.ensures.second g.row.S (map (λ p. p.service_share) s.ports);
      service_port_end = c.next_facts-2.ensures.port_end g.row.S (map (λ p. p.service_share) s.ports);
      service_end = c.next_facts-2.ensures.end g.row.S (map (λ p. p.service_share) s.ports);
    } in
    let routes = c.end_port.new.routes.records in
    let services = c.end_port.new.services.records in
    let step : Follows g.row.R g.row.S s (state_of s.ports s.running ups s.seconds routes services) (PortDown n) =
    subst (λ (r : Bool). Follows g.row.R g.row.S s (state_of s.ports r ups s.seconds routes services) (PortDown n)) (sym runs)
    (down_follows g.row.R g.row.S s tables n ups routes services runs there are c.end_port.ensures.routes c.end_port.ensures.services) in
    next_router g.row.R g.row.S s i.routes.shares i.services.shares c.self.invariant (state_of s.ports s.running ups s.seconds routes services) (PortDown n) within tt step
    c.end_port.new.routes.shares c.end_port.new.services.shares c.end_port.ensures.route_shares c.end_port.ensures.service_shares c.self.invariant.minute

pub returns-clause-follows : goal.returns-clause-follows
returns-clause-follows g c =
    let i = c.self.inside in
    let s = state_of i.ports.items i.running i.up.items i.seconds i.routes.records i.services.records in
    let runs : s.running ≡ true = ap (λ (v : State). v.running) c.self.view_is ∙ c.requires.runs in
    let n = c.args.port in
    let there : is_up s.up n ≡ true = ap (λ (v : State). is_up v.up n) c.self.view_is ∙ c.requires.up in
    let within : n < length s.ports = rw (ap (λ (v : State). length v.ports) c.self.view_is) c.requires.port in
    let ups = c.without_number-self-inside.result.items in
    let are : ups ≡ filter (λ j. not (j == n)) s.up = c.without_number-self-inside.ensures ∙ ap (λ (u : List ℕ). filter (λ j. not (j == n)) u) c.deref.ensures.0 in
    let tables : TableSteps g.row.R g.row.S s.ports = record {
      route_second = c.next_facts.ensures.second g.row.R (map (λ p. p.route_share) s.ports);
      route_port_end = c.next_facts.ensures.port_end g.row.R (map (λ p. p.route_share) s.ports);
      route_end = c.next_facts.ensures.end g.row.R (map (λ p. p.route_share) s.ports);
      service_second = c.next_facts-2.ensures.second g.row.S (map (λ p. p.service_share) s.ports);
      service_port_end = c.next_facts-2.ensures.port_end g.row.S (map (λ p. p.service_share) s.ports);
      service_end = c.next_facts-2.ensures.end g.row.S (map (λ p. p.service_share) s.ports);
    } in
    let routes = c.end_port.new.routes.records in
    let services = c.end_port.new.services.records in
    let step : Follows g.row.R g.row.S s (state_of s.ports s.running ups s.seconds routes services) (PortDown n) =
    subst (λ (r : Bool). Follows g.row.R g.row.S s (state_of s.ports r ups s.seconds routes services) (PortDown n)) (sym runs)
    (down_follows g.row.R g.row.S s tables n ups routes services runs there are c.end_port.ensures.routes c.end_port.ensures.services) in
    subst (λ (v : State). Follows g.row.R g.row.S v (state_of s.ports s.running ups s.seconds routes services) (PortDown n)) c.self.view_is step

pub returns-clause-sends : goal.returns-clause-sends
returns-clause-sends g c =
    let i = c.self.inside in
    let s = state_of i.ports.items i.running i.up.items i.seconds i.routes.records i.services.records in
    let runs : s.running ≡ true = ap (λ (v : State). v.running) c.self.view_is ∙ c.requires.runs in
    let n = c.args.port in
    let there : is_up s.up n ≡ true = ap (λ (v : State). is_up v.up n) c.self.view_is ∙ c.requires.up in
    let within : n < length s.ports = rw (ap (λ (v : State). length v.ports) c.self.view_is) c.requires.port in
    let ups = c.without_number-self-inside.result.items in
    let are : ups ≡ filter (λ j. not (j == n)) s.up = c.without_number-self-inside.ensures ∙ ap (λ (u : List ℕ). filter (λ j. not (j == n)) u) c.deref.ensures.0 in
    let routes = c.end_port.new.routes.records in
    let services = c.end_port.new.services.records in
    let given : port_down_sends c.deref-2.result.now c.deref-3.result.now s.routes s.services n ≡ port_down_sends s.ports ups s.routes s.services n =
    rw (c.deref-2.ensures.0, c.deref-3.ensures.0) refl in
    subst (λ (v : State). Appends c.args.outbox.now c.end_port.new.outbox (sends_between v (state_of s.ports s.running ups s.seconds routes services) (PortDown n))) c.self.view_is
    (subst (λ (ps : List Sent). Appends c.args.outbox.now c.end_port.new.outbox ps)
    (given ∙ down_sent s n ups routes services runs there c.end_port.ensures.routes c.end_port.ensures.services) c.end_port.ensures.sends)

pub deref-requires : goal.deref-requires
deref-requires g c = grind arith

pub deref-requires-2 : goal.deref-requires-2
deref-requires-2 g c = grind arith

pub deref-requires-3 : goal.deref-requires-3
deref-requires-3 g c = grind arith
