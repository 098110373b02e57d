-- A router's events over its state: what its ports that are up are, the state that each event leaves, and what it sends.
use Rattle.std.proofs.Common.{◌≡◌, refl, sym, ap, ◌∙◌, subst, ℕ, ◌+◌, ◌%◌, ◌<◌, ◌≤◌, ◌==◌, ◌&&◌, nat_lt, Bool, true, false, true≢false, not, List, [], ◌∷◌, ◌++◌, filter, length, arith, rules}
use Rattle.std.specs.List.{AllByRecursion, flat_map}
use Rattle.ipx_table.specs.Facts.{Fact, Second as SecondPassed, PortEnd, End}
use Rattle.ipx_table.specs.Stands.{held, second_later, without_port}
use Rattle.ipx_table.specs.declared.held.Held.{Held}
use Rattle.ipx_router.specs.inside.EndedSends.{second_sends, port_down_sends}
use Rattle.ipx_router.specs.Facts.{routes_held, services_held, offers}
use Rattle.ipx_router.specs.inside.Following.{Follows, is_next_periodic, sends_between}
use Rattle.ipx_router.specs.History.{Start, Stop, Second, PortDown, PortUp, running, is_down, ports_up}
use Rattle.ipx_router.specs.Needs.{HasRoomFor}
use Rattle.ipx_router.specs.Numbers.{period}
use Rattle.ipx_router.specs.Outbox.{Contents, Fits}
use Rattle.ipx_router.specs.Port.{Port, numbers, is_up}
use Rattle.ipx_router.specs.Relays.{Sent}
use Rattle.ipx_router.specs.RouterOf.{IsRouter}
use Rattle.ipx_router.specs.Routes.{route_rules}
use Rattle.ipx_router.specs.Sends.{introduction, stop_on, port_up_on}
use Rattle.ipx_router.specs.Services.{service_rules}
use Rattle.ipx_router.specs.Sorted.{put}
use Rattle.ipx_router.specs.Stands.{State}
use Rattle.ipx_router.specs.declared.route_offer.RouteOffer.{RouteOffer}
use Rattle.ipx_router.specs.declared.service_offer.ServiceOffer.{ServiceOffer}
use Rattle.ipx_router.proofs.lists.EachElement.{all_placed, all-filter}
use Rattle.ipx_router.proofs.histories.OneEventMore.{none_up}
use Rattle.ipx_router.proofs.bounds.ItemsOfEachList.{length-filter, length-numbers, length-left_out}
use Rattle.ipx_router.proofs.port_values.PortOfEachNumber.{ports_up-within}
use Rattle.ipx_router.proofs.bounds.RoomIsEnough.{Bounded, event_fits}
use Rattle.ipx_router.proofs.histories.StateAfterEachEvent.{state_of, started, came_up}
use Rattle.ipx_router.proofs.tables.HeldCameByPortsUp.{held_routes_up, held_services_up}
use Rattle.ipx_router.proofs.histories.PortsUpOneEventMore.{up_there}

-- what the tables do with one fact more
pub record TableSteps (most_routes most_services : ℕ) (ports : List Port) : Type 0 where
  pub route_second : (facts : List (Fact RouteOffer)) → held (route_rules ports most_routes) (facts ++ SecondPassed ∷ []) ≡ second_later (held (route_rules ports most_routes) facts)
  pub route_port_end : (facts : List (Fact RouteOffer)) (port : ℕ)
      → held (route_rules ports most_routes) (facts ++ PortEnd port ∷ []) ≡ without_port (λ r. r.port) port (held (route_rules ports most_routes) facts)
  pub route_end : (facts : List (Fact RouteOffer)) → held (route_rules ports most_routes) (facts ++ End ∷ []) ≡ []
  pub service_second : (facts : List (Fact ServiceOffer)) → held (service_rules ports most_services) (facts ++ SecondPassed ∷ []) ≡ second_later (held (service_rules ports most_services) facts)
  pub service_port_end : (facts : List (Fact ServiceOffer)) (port : ℕ)
      → held (service_rules ports most_services) (facts ++ PortEnd port ∷ []) ≡ without_port (λ s. s.port) port (held (service_rules ports most_services) facts)
  pub service_end : (facts : List (Fact ServiceOffer)) → held (service_rules ports most_services) (facts ++ End ∷ []) ≡ []

-- nothing is held by a port that is up, where none is
no_routes : (up : List ℕ) (routes : List (Held RouteOffer)) → up ≡ [] → AllByRecursion (λ r. is_up up r.port ≡ true) (offers routes) → routes ≡ []
no_routes up [] none all = refl
no_routes up (h ∷ routes) none all = absurd (true≢false (sym all.0 ∙ ap (λ (u : List ℕ). is_up u h.offer.port) none))

no_services : (up : List ℕ) (services : List (Held ServiceOffer)) → up ≡ [] → AllByRecursion (λ s. is_up up s.port ≡ true) (offers services) → services ≡ []
no_services up [] none all = refl
no_services up (h ∷ services) none all = absurd (true≢false (sym all.0 ∙ ap (λ (u : List ℕ). is_up u h.offer.port) none))

module _ (most_routes most_services : ℕ) (s : State) (route_shares service_shares : List ℕ) (is : IsRouter most_routes most_services s route_shares service_shares) where
  -- ---- its ports that are up

  pub ups_within : AllByRecursion (λ j. j < length s.ports) s.up
  ups_within = subst (λ (up : List ℕ). AllByRecursion (λ j. j < length s.ports) up) (sym is.stands.ups) (ports_up-within s.ports is.past)

  -- its routes came by them
  pub routes_up : AllByRecursion (λ r. is_up s.up r.port ≡ true) (offers s.routes)
  routes_up =
      let held : AllByRecursion (λ r. is_up (ports_up s.ports is.past) r.port ≡ true) (offers s.routes) =
      subst (λ (routes : List (Held RouteOffer)). AllByRecursion (λ r. is_up (ports_up s.ports is.past) r.port ≡ true) (offers routes))
      (sym is.stands.routes_stand) (held_routes_up s.ports most_routes is.past) in
      subst (λ (up : List ℕ). AllByRecursion (λ r. is_up up r.port ≡ true) (offers s.routes)) (sym is.stands.ups) held

  few_all : length (ports_up s.ports is.past) ≤ length s.ports
  few_all = omega (arith, length-numbers, length-filter)

  pub few_ups : length s.up ≤ 32
  few_ups = grind (arith, few_all)

  pub none_of_stopped : s.running ≡ false → s.up ≡ []
  none_of_stopped halted = is.stands.ups ∙ none_up s.ports is.past (sym is.stands.runs ∙ halted)

  -- where one is down of a running router, one less is up
  pub room_for_one : (number : ℕ) → number < length s.ports → s.running ≡ true → is_up s.up number ≡ false → length s.up < 32
  room_for_one number within runs down =
      let out : (running is.past && not (is_down is.past number)) ≡ false = left_out (running is.past && not (is_down is.past number)) refl in
      let less = length-left_out (λ port. running is.past && not (is_down is.past port)) (length s.ports) number within out in
      let few = is.few in
      omega (arith, ap length is.stands.ups, less, few)
    where
      there : (running is.past && not (is_down is.past number)) ≡ true → is_up (ports_up s.ports is.past) number ≡ true
      there e = up_there s.ports is.past number within e

      left_out : (b : Bool) → (running is.past && not (is_down is.past number)) ≡ b → (running is.past && not (is_down is.past number)) ≡ false
      left_out false e = e
      left_out true e = absurd (true≢false (sym (there e) ∙ ap (λ (u : List ℕ). is_up u number) (sym is.stands.ups) ∙ down))

  -- ---- its tables, where it is stopped

  pub stopped_routes : s.running ≡ false → s.routes ≡ []
  stopped_routes halted =
      is.stands.routes_stand
      ∙ no_routes (ports_up s.ports is.past) (routes_held s.ports most_routes is.past) (none_up s.ports is.past (sym is.stands.runs ∙ halted))
      (held_routes_up s.ports most_routes is.past)

  pub stopped_services : s.running ≡ false → s.services ≡ []
  stopped_services halted =
      is.stands.services_stand
      ∙ no_services (ports_up s.ports is.past) (services_held s.ports most_services is.past) (none_up s.ports is.past (sym is.stands.runs ∙ halted))
      (held_services_up s.ports most_services is.past)

-- ---- the states that events leave, and what they send

module _ (most_routes most_services : ℕ) (s : State) where
  -- a start that finds it stopped
  pub start_follows : (ups : List ℕ) → s.running ≡ false → ups ≡ numbers (length s.ports)
      → Follows most_routes most_services s (state_of s.ports true ups 0 s.routes s.services) Start
  start_follows ups halted e = search (rules, state_of, started)

  pub start_sends : (ups : List ℕ) → s.running ≡ false → s.routes ≡ [] → s.services ≡ []
      → flat_map (introduction s.ports ups (offers s.routes) (offers s.services)) ups ≡ sends_between s (state_of s.ports true ups 0 s.routes s.services) Start
  start_sends ups halted no_routes no_services = rw (halted, no_routes, no_services) refl

  -- a stop that finds it running
  module _ (tables : TableSteps most_routes most_services s.ports) where
    pub stop_follows : (ups : List ℕ) (later : ℕ) (routes : List (Held RouteOffer)) (services : List (Held ServiceOffer)) → s.running ≡ true
        → ups ≡ [] → routes ≡ [] → services ≡ [] → Follows most_routes most_services s (state_of s.ports false ups later routes services) Stop
    stop_follows ups later routes services runs none no_routes no_services = grind arith

    pub second_follows : (later : ℕ) (routes : List (Held RouteOffer)) (services : List (Held ServiceOffer)) → s.running ≡ true
        → later ≡ (s.seconds + 1) % period → routes ≡ second_later s.routes → services ≡ second_later s.services
        → Follows most_routes most_services s (state_of s.ports true s.up later routes services) Second
    second_follows later routes services runs e r k = grind arith

    pub down_follows : (number : ℕ) (ups : List ℕ) (routes : List (Held RouteOffer)) (services : List (Held ServiceOffer)) → s.running ≡ true → is_up s.up number ≡ true
        → ups ≡ filter (λ j. not (j == number)) s.up → routes ≡ without_port (λ r. r.port) number s.routes → services ≡ without_port (λ k. k.port) number s.services
        → Follows most_routes most_services s (state_of s.ports true ups s.seconds routes services) (PortDown number)
    down_follows number ups routes services runs there e r k = grind arith

  pub up_follows : (number : ℕ) (ups : List ℕ) → s.running ≡ true → is_up s.up number ≡ false → ups ≡ put nat_lt number s.up
      → Follows most_routes most_services s (state_of s.ports true ups s.seconds s.routes s.services) (PortUp number)
  up_follows number ups runs down e = search (rules, state_of, came_up)

-- ---- what they send

pub stop_sends : (s t : State) → s.running ≡ true
    → flat_map (stop_on s.ports (record { up = s.up; routes = offers s.routes; services = offers s.services })) s.up ≡ sends_between s t Stop
stop_sends s t runs = rw runs refl

pub up_sends : (s t : State) (number : ℕ) → s.running ≡ true → is_up s.up number ≡ false
    → flat_map (port_up_on s.ports (record { up = t.up; routes = offers t.routes; services = offers t.services }) number) t.up ≡ sends_between s t (PortUp number)
up_sends s t number runs down = rw (runs, down) refl

-- ---- the room that they need

module _ (most_routes most_services : ℕ) (s : State) (route_shares service_shares : List ℕ) (is : IsRouter most_routes most_services s route_shares service_shares)
    (known : Bounded) (o : Contents) where
  pub run_room : (ups : List ℕ) → s.running ≡ false → ups ≡ numbers (length s.ports) → HasRoomFor s Start o
      → Fits o (flat_map (introduction s.ports ups (offers s.routes) (offers s.services)) ups)
  run_room ups halted e room = search (rules, state_of, start_sends, stopped_routes, stopped_services, event_fits, start_follows)

  pub stop_room : TableSteps most_routes most_services s.ports → s.running ≡ true → HasRoomFor s Stop o
      → Fits o (flat_map (stop_on s.ports (record { up = s.up; routes = offers s.routes; services = offers s.services })) s.up)
  stop_room tables runs room =
      let t = state_of s.ports false [] s.seconds [] [] in
      subst (λ (sent : List Sent). Fits o sent) (sym (stop_sends s t runs))
      (event_fits most_routes most_services s route_shares service_shares is t Stop tt tt
      (stop_follows most_routes most_services s tables [] s.seconds [] [] runs refl refl refl) known o room)

  pub up_room : (number : ℕ) (ups : List ℕ) → number < length s.ports → s.running ≡ true → is_up s.up number ≡ false → ups ≡ put nat_lt number s.up
      → HasRoomFor s (PortUp number) o
      → Fits o (flat_map (port_up_on s.ports (record { up = ups; routes = offers s.routes; services = offers s.services }) number) ups)
  up_room number ups within runs down e room =
      let t = state_of s.ports true ups s.seconds s.routes s.services in
      subst (λ (sent : List Sent). Fits o sent) (sym (up_sends s t number runs down))
      (event_fits most_routes most_services s route_shares service_shares is t (PortUp number) within tt
      (up_follows most_routes most_services s number ups runs down e) known o room)

-- ports that are up, and one more
pub within_put : (n number : ℕ) (up : List ℕ) → number < n → AllByRecursion (λ j. j < n) up → AllByRecursion (λ j. j < n) (put nat_lt number up)
within_put n number up below all = all_placed (λ j. j < n) nat_lt number up below all

pub length-put_number : (number : ℕ) (up : List ℕ) → length (put nat_lt number up) ≡ length up + 1
length-put_number number [] = refl
length-put_number number (x ∷ up) = grind (arith, length-put_number number up)

-- ---- seconds, and ports that go down

pub second_sent : (s : State) (later : ℕ) (routes : List (Held RouteOffer)) (services : List (Held ServiceOffer)) → s.running ≡ true
    → routes ≡ second_later s.routes → services ≡ second_later s.services
    → second_sends s.ports s.up s.routes s.services (is_next_periodic s) ≡ sends_between s (state_of s.ports true s.up later routes services) Second
second_sent s later routes services runs r k = rw (runs, r, k) refl

pub down_sent : (s : State) (number : ℕ) (ups : List ℕ) (routes : List (Held RouteOffer)) (services : List (Held ServiceOffer)) → s.running ≡ true → is_up s.up number ≡ true
    → routes ≡ without_port (λ r. r.port) number s.routes → services ≡ without_port (λ k. k.port) number s.services
    → port_down_sends s.ports ups s.routes s.services number ≡ sends_between s (state_of s.ports true ups s.seconds routes services) (PortDown number)
down_sent s number ups routes services runs there r k = rw (runs, there, r, k) refl

module _ (most_routes most_services : ℕ) (s : State) (route_shares service_shares : List ℕ) (is : IsRouter most_routes most_services s route_shares service_shares)
    (known : Bounded) (tables : TableSteps most_routes most_services s.ports) (o : Contents) where
  pub second_room : s.running ≡ true → HasRoomFor s Second o → Fits o (second_sends s.ports s.up s.routes s.services (is_next_periodic s))
  second_room runs room =
      let later = (s.seconds + 1) % period in
      let t = state_of s.ports true s.up later (second_later s.routes) (second_later s.services) in
      subst (λ (sent : List Sent). Fits o sent) (sym (second_sent s later (second_later s.routes) (second_later s.services) runs refl refl))
      (event_fits most_routes most_services s route_shares service_shares is t Second tt tt
      (second_follows most_routes most_services s tables later (second_later s.routes) (second_later s.services) runs refl refl refl) known o room)

  pub down_room : (number : ℕ) (ups : List ℕ) → number < length s.ports → s.running ≡ true → is_up s.up number ≡ true → ups ≡ filter (λ j. not (j == number)) s.up
      → HasRoomFor s (PortDown number) o → Fits o (port_down_sends s.ports ups s.routes s.services number)
  down_room number ups within runs there e room =
      let routes = without_port (λ r. r.port) number s.routes in
      let services = without_port (λ k. k.port) number s.services in
      let t = state_of s.ports true ups s.seconds routes services in
      subst (λ (sent : List Sent). Fits o sent) (sym (down_sent s number ups routes services runs there refl refl))
      (event_fits most_routes most_services s route_shares service_shares is t (PortDown number) within tt
      (down_follows most_routes most_services s tables number ups routes services runs there e refl refl) known o room)

pub within_filter : (n number : ℕ) (up : List ℕ) → AllByRecursion (λ j. j < n) up → AllByRecursion (λ j. j < n) (filter (λ j. not (j == number)) up)
within_filter n number up all = all-filter (λ j. j < n) (λ j. not (j == number)) up all

-- no more ports are up than there are
pub ups_fit : (most_routes most_services : ℕ) (s : State) (route_shares service_shares : List ℕ) → IsRouter most_routes most_services s route_shares service_shares
    → length s.up ≤ length s.ports
ups_fit most_routes most_services s route_shares service_shares is =
    let all = few_all most_routes most_services s route_shares service_shares is in
    omega (arith, ap length is.stands.ups, all)
