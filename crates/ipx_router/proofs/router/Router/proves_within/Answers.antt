use Rattle.std.proofs.Common.{sym, subst}
use Rattle.ipx_router.specs.inside.Following.{Follows}
use Rattle.ipx_router.specs.Happened.{happened}
use Rattle.ipx_router.specs.History.{IsOnPort}
use Rattle.ipx_router.specs.Stands.{State}
use Rattle.ipx_router.specs.inside.Within.{StaysWithin}
use Rattle.ipx_router.proofs.histories.StateAfterEachEvent.{state_of}
use Rattle.ipx_router.proofs.bounds.StaysWithinBounds.{stays_within}
use Rattle.ipx_router.proofs.router.Router.proves_within.Goals as goal

pub returns : goal.returns
returns g c =
    let i = c.self.inside in
    let s = state_of i.ports.items i.running i.up.items i.seconds i.routes.records i.services.records in
    let event = happened c.args.event.now in
    let on : IsOnPort s.ports event = subst (λ (v : State). IsOnPort v.ports event) (sym c.self.view_is) c.requires.port in
    subst (λ (v : State). (after : State) → Follows g.row.R g.row.S v after event → StaysWithin g.row.R g.row.S v after event) c.self.view_is
    (λ after step. stays_within g.row.R g.row.S s i.routes.shares i.services.shares c.self.invariant after event on c.proves_of_bytes.ensures step
    (record { few = c.bounds.ensures.few; short = c.bounds.ensures.short })
    (record {
      few_routes = c.within_capacity.ensures.routes;
      few_services = c.within_capacity.ensures.services;
      routes_shared = c.shares_hold.ensures.routes;
      services_shared = c.shares_hold.ensures.services;
      routes_kept = c.room_within_a_share.ensures.routes_kept;
      services_kept = c.room_within_a_share.ensures.services_kept;
    }))
