use Rattle.std.proofs.Common.{rules, arith, sym, length, get_or, set, ◌<◌, ◌≡◌, ◌≤◌, ◌*◌, ap, ◌∙◌, ◌++◌, subst, ℕ, List, flat_map, Some, slice_get}
use Rattle.ipx_router.specs.Happened.{happened}
use Rattle.ipx_router.specs.History.{IsOnPort}
use Rattle.ipx_router.specs.Needs.{packets_needed}
use Rattle.ipx_router.specs.Outbox.{HasRoom}
use Rattle.ipx_router.specs.Port.{Port}
use Rattle.ipx_router.specs.RouterOf.{HasPast}
use Rattle.ipx_router.specs.Sends.{sends}
use Rattle.ipx_internet.specs.Batches.{heard}
use Rattle.std.specs.List.{AllByRecursion}
use Rattle.ipx_internet.specs.Rounds.{IsDelivery}
use Rattle.ipx_internet.specs.inside.Simulated.{net_among, AreRouters}
use Rattle.ipx_router.specs.Stands.{State}
use Rattle.ipx_internet.specs.Internet.{ports_of}
use Rattle.ipx_internet.specs.Queue.{Delivery}
use Rattle.ipx_table.proofs.Pairs.{set-same}
use Rattle.ipx_internet.proofs.deliveries.FirstIsHandedOut.{at_error}
use Rattle.ipx_internet.proofs.deliveries.OtherRoutersStay.{all_got, got_at, its_ports, same_net, routers_after, coming_after, stands_after, outcome_after}
use Rattle.ipx_internet.proofs.internet.happen.Goals as goal
use Rattle.ipx_internet.proofs.places.OneReceiverOfANode.{ports_at}

-- what is written back where nothing changed
unchanged : {X : Type 0} (xs : List X) (k : ℕ) (x : X) → k < length xs → x ≡ get_or xs k x → set xs k x ≡ xs
unchanged xs k x within is = set-same xs k x (got_at xs k x within is)

pub happen-requires : goal.happen-requires
happen-requires g c =
    let s = c.index_mut-router.result.now in
    let there : slice_get c.args.routers.now.items c.args.number ≡ Some s =
    got_at c.args.routers.now.items c.args.number c.index_mut-router.result.now c.requires.there.0 c.index_mut-router.ensures.value in
    let event = happened c.args.event in
    let room = c.in_ok-make_room.ensures.room in
    let places = c.in_ok-make_room.ensures.places in (
      first_of (assumption c.well_formed, search c.well_formed, search rules),
      (
        subst (λ (ps : List Port). IsOnPort ps event) (its_ports c.args.routers.now.items c.args.number s there) c.requires.there.1,
        (
          subst (λ (n : ℕ). HasRoom c.make_room.new.self.outbox (packets_needed s event) n) c.need.ensures.bytes
              (subst (λ (n : ℕ). HasRoom c.make_room.new.self.outbox n c.need.result.bytes) c.need.ensures.packets room),
          subst (λ (n : ℕ). n ≤ c.make_room.new.self.places) (ap (λ (n : ℕ). n * c.most.result) c.need.ensures.packets
              ∙ ap (λ (n : ℕ). packets_needed s event * n) c.most.ensures.value) places,
        ),
      ),
    )

pub returns-clause-routers : goal.returns-clause-routers
returns-clause-routers g c =
    routers_after g.row.R g.row.S c.args.routers.now.items c.args.number c.index_mut-router.result.now c.happen.new.router
    (got_at c.args.routers.now.items c.args.number c.index_mut-router.result.now c.requires.there.0 c.index_mut-router.ensures.value)
    c.happen.ensures.ports c.args.stations.now.list c.requires.routers c.happen.ensures.past

pub returns-clause-net : goal.returns-clause-net
returns-clause-net g c =
    same_net g.row.R g.row.S c.args.routers.now.items c.args.number c.index_mut-router.result.now c.happen.new.router
    (got_at c.args.routers.now.items c.args.number c.index_mut-router.result.now c.requires.there.0 c.index_mut-router.ensures.value)
    c.happen.ensures.ports

pub returns-clause-coming : goal.returns-clause-coming
returns-clause-coming g c coming =
    let routers = c.args.routers.now.items in
    let s = c.index_mut-router.result.now in
    let there : slice_get routers c.args.number ≡ Some s =
    got_at c.args.routers.now.items c.args.number c.index_mut-router.result.now c.requires.there.0 c.index_mut-router.ensures.value in
    let list = c.args.stations.now.list in
    let event = happened c.args.event in
    coming_after g.row.R g.row.S routers c.args.number s c.happen.new.router there c.happen.ensures.ports event list
    c.requires.routers.stationed c.args.back.now.deliveries c.happen.new.self.deliveries
    (λ h stands. c.happen.ensures.deliveries h stands
    ∙ ap (λ (ds : List Delivery). ds ++ flat_map (heard list s.ports c.args.number) (sends s.ports g.row.R g.row.S h event)) c.make_room.ensures.deliveries)
    (λ h on of_bytes. c.packets.ensures.bytes (ports_of (net_among routers) c.args.number) g.row.R g.row.S h event
    (ports_at (net_among routers) c.requires.routers.internet c.args.number) on of_bytes)
    c.requires.there.1 c.proves_of_bytes.ensures
    (all_got (λ r. HasPast g.row.R g.row.S r) routers c.args.number s c.requires.routers.pasts there) coming

pub returns-clause-stands : goal.returns-clause-stands
returns-clause-stands g c before q stood =
    let routers = c.args.routers.now.items in
    let s = c.index_mut-router.result.now in
    let there : slice_get routers c.args.number ≡ Some s =
    got_at c.args.routers.now.items c.args.number c.index_mut-router.result.now c.requires.there.0 c.index_mut-router.ensures.value in
    let list = c.args.stations.now.list in
    let event = happened c.args.event in
    stands_after g.row.R g.row.S routers c.args.number s c.happen.new.router there c.happen.ensures.ports event list
    c.requires.routers.stationed c.args.back.now.deliveries c.happen.new.self.deliveries
    (λ h stands. c.happen.ensures.deliveries h stands
    ∙ ap (λ (ds : List Delivery). ds ++ flat_map (heard list s.ports c.args.number) (sends s.ports g.row.R g.row.S h event)) c.make_room.ensures.deliveries)
    c.happen.ensures.stands before q stood

pub returns-clause-outcome : goal.returns-clause-outcome
returns-clause-outcome g c before q stands =
    outcome_after g.row.R g.row.S c.args.routers.now.items c.args.number c.index_mut-router.result.now c.happen.new.router
    (got_at c.args.routers.now.items c.args.number c.index_mut-router.result.now c.requires.there.0 c.index_mut-router.ensures.value)
    c.happen.ensures.ports (happened c.args.event) c.happen.result c.happen.ensures.outcome before q stands

pub returns-in_err-make_room-clause-unchanged : goal.returns-in_err-make_room-clause-unchanged
returns-in_err-make_room-clause-unchanged g c =
    let routers = c.args.routers.now.items in
    let s = c.index_mut-router.result.now in
    at_error c.from_residual.result
    (set-same routers c.args.number s (got_at routers c.args.number s c.requires.there.0 c.index_mut-router.ensures.value))

pub index_mut-router-requires : goal.index_mut-router-requires
index_mut-router-requires g c =
    let within = c.requires.there.0 in
    let all = c.args.routers.now.ok.0 in
    omega (arith, within, all)

pub need-requires : goal.need-requires
need-requires g c = first_of (assumption c.well_formed, search c.well_formed)

pub returns-in_err-make_room-clause-routers : goal.returns-in_err-make_room-clause-routers
returns-in_err-make_room-clause-routers g c = subst (λ (rs : List State). AreRouters g.row.R g.row.S rs c.args.stations.now.list) (sym (unchanged c.args.routers.now.items c.args.number c.index_mut-router.result.now c.requires.there.0 c.index_mut-router.ensures.value)) c.requires.routers

pub returns-in_err-make_room-clause-net : goal.returns-in_err-make_room-clause-net
returns-in_err-make_room-clause-net g c = ap net_among (unchanged c.args.routers.now.items c.args.number c.index_mut-router.result.now c.requires.there.0 c.index_mut-router.ensures.value)

pub returns-in_err-make_room-clause-coming : goal.returns-in_err-make_room-clause-coming
returns-in_err-make_room-clause-coming g c =
    λ coming. subst (λ (ds : List Delivery). AllByRecursion (IsDelivery (net_among c.args.routers.now.items)) ds) (sym c.make_room.ensures.deliveries) coming

pub returns-in_err-make_room-clause-kept : goal.returns-in_err-make_room-clause-kept
returns-in_err-make_room-clause-kept g c = at_error c.from_residual.result c.make_room.ensures.deliveries
