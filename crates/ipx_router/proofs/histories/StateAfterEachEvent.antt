-- What each event does to a router's state, over plain variables.
use Rattle.std.proofs.Common.{arith}
use Rattle.std.proofs.Common.{rules}
use Rattle.std.proofs.Common.{◌≡◌, refl, sym, ap, ◌∙◌, subst, ℕ, ◌+◌, ◌%◌, ◌==◌, ◌&&◌, nat_lt, Bool, true, false, true≢false, not, if◌then◌else◌, None, List, [], ◌∷◌, ◌++◌, filter, length, append-nil, inl, inr}
use Rattle.std.proofs.lemmas.Bool.{cases_Bool, or_left}
use Rattle.ipx_table.specs.Facts.{Fact, Second as SecondPassed, PortEnd, End}
use Rattle.ipx_table.specs.Stands.{Stands}
use Rattle.ipx_table.specs.declared.held.Held.{Held}
use Rattle.ipx_router.specs.Facts.{facts_of, routes_heard, services_heard}
use Rattle.ipx_router.specs.inside.Following.{Follows, runs_after, up_after, seconds_after, route_facts_at, service_facts_at}
use Rattle.ipx_router.specs.Heard.{heard}
use Rattle.ipx_router.specs.History.{Event, Start, Stop, Second, Packet, PortDown, PortUp}
use Rattle.ipx_router.specs.Numbers.{period}
use Rattle.ipx_router.specs.Port.{Port, numbers, is_up}
use Rattle.ipx_router.specs.Routes.{route_rules}
use Rattle.ipx_router.specs.Services.{service_rules}
use Rattle.ipx_router.specs.Sorted.{put}
use Rattle.ipx_router.specs.Stands.{State}
use Rattle.ipx_router.specs.declared.route_offer.RouteOffer.{RouteOffer}
use Rattle.ipx_router.specs.declared.service_offer.ServiceOffer.{ServiceOffer}

-- a state of plain values
abbrev pub state_of : List Port → Bool → List ℕ → ℕ → List (Held RouteOffer) → List (Held ServiceOffer) → State
state_of ports running up seconds routes services =
    record { ports = ports; running = running; up = up; seconds = seconds; routes = routes; services = services }

-- ---- events that leave all as it is

module _ (most_routes most_services : ℕ) (s : State) where
  unchanged : (event : Event) → route_facts_at s event ≡ [] → service_facts_at s event ≡ [] → runs_after s.running event ≡ s.running
      → up_after (length s.ports) s.running s.up event ≡ s.up → (s.running ≡ true → seconds_after s.running s.seconds event ≡ s.seconds)
      → Follows most_routes most_services s s event
  unchanged event no_routes no_services runs ups counts = grind (arith, append-nil)

  -- a start that finds it running
  pub already_running : s.running ≡ true → Follows most_routes most_services s s Start
  already_running runs = unchanged Start refl refl (sym runs) (ups s.running runs) (λ later. count s.running runs)
    where
      ups : (r : Bool) → r ≡ true → up_after (length s.ports) r s.up Start ≡ s.up
      ups r e = grind arith

      count : (r : Bool) → r ≡ true → seconds_after r s.seconds Start ≡ s.seconds
      count r e = grind arith

  -- what comes to a stopped router
  pub stopped_stop : s.running ≡ false → s.up ≡ [] → Follows most_routes most_services s s Stop
  stopped_stop stopped none =
      unchanged Stop (says s.running stopped) (says s.running stopped) (sym stopped) (sym none) (λ runs. refl)
    where
      says : {O : Type 0} (r : Bool) → r ≡ false → facts_of {O = O} s.up r (λ number bytes. []) Stop ≡ []
      says r e = grind arith

  pub stopped_second : s.running ≡ false → Follows most_routes most_services s s Second
  stopped_second stopped =
      unchanged Second (says s.running stopped) (says s.running stopped) refl refl (λ runs. absurd (true≢false (sym runs ∙ stopped)))
    where
      says : {O : Type 0} (r : Bool) → r ≡ false → facts_of {O = O} s.up r (λ number bytes. []) Second ≡ []
      says r e = grind arith

  -- a packet of which nothing is heard
  pub unheard : (number : ℕ) (bytes : List ℕ) → heard s.ports s.up s.running number bytes ≡ None
      → Follows most_routes most_services s s (Packet number bytes)
  unheard number bytes none = search (rules, unchanged)

  -- a port that is down goes down, also of a stopped router
  pub already_down : (number : ℕ) → is_up s.up number ≡ false → Follows most_routes most_services s s (PortDown number)
  already_down number down = unchanged (PortDown number) says says refl (others s.up down) (λ runs. refl)
    where
      says : {O : Type 0} → facts_of {O = O} s.up s.running (λ number bytes. []) (PortDown number) ≡ []
      says = rw down refl

      others : (up : List ℕ) → is_up up number ≡ false → filter (λ j. not (j == number)) up ≡ up
      others [] none = refl
      others (x ∷ up) none = elim (cases_Bool (x == number)) [
        | inl same ↦ absurd (true≢false (sym (or_left (x == number) (is_up up number) same) ∙ none))
        | inr other ↦ rw other (ap (λ xs. x ∷ xs) (others up (rw other at none)))
      ]

  -- a port that is up comes up, and any port of a stopped router
  pub already_up : (number : ℕ) → (s.running && not (is_up s.up number)) ≡ false → Follows most_routes most_services s s (PortUp number)
  already_up number up = unchanged (PortUp number) refl refl refl (stays (s.running && not (is_up s.up number)) up) (λ runs. refl)
    where
      stays : (b : Bool) → b ≡ false → (if b then put nat_lt number s.up else s.up) ≡ s.up
      stays b e = grind arith

-- ---- events that change something

module _ (most_routes most_services : ℕ) (ports : List Port) (up : List ℕ) (seconds : ℕ) (routes : List (Held RouteOffer)) (services : List (Held ServiceOffer)) where
  -- to the routes that are then held, and the services
  abbrev pub RoutesThen : List (Held RouteOffer) → List (Fact RouteOffer) → Type 0
  RoutesThen later more = (facts : List (Fact RouteOffer)) → Stands (route_rules ports most_routes) routes facts → Stands (route_rules ports most_routes) later (facts ++ more)

  abbrev pub ServicesThen : List (Held ServiceOffer) → List (Fact ServiceOffer) → Type 0
  ServicesThen later more = (facts : List (Fact ServiceOffer)) → Stands (service_rules ports most_services) services facts → Stands (service_rules ports most_services) later (facts ++ more)

  pub same_routes : RoutesThen routes []
  same_routes facts stands = subst (λ (all : List (Fact RouteOffer)). Stands (route_rules ports most_routes) routes all) (sym (append-nil facts)) stands

  pub same_services : ServicesThen services []
  same_services facts stands = subst (λ (all : List (Fact ServiceOffer)). Stands (service_rules ports most_services) services all) (sym (append-nil facts)) stands

  pub started : (ups : List ℕ) → ups ≡ numbers (length ports)
      → Follows most_routes most_services (state_of ports false up seconds routes services) (state_of ports true ups 0 routes services) Start
  started ups e = record { ports = refl; routes = same_routes; services = same_services; runs = refl; ups = e; counts = λ later. refl }

  module _ (later_routes : List (Held RouteOffer)) (later_services : List (Held ServiceOffer)) where
    pub stopped : (ups : List ℕ) (later : ℕ) → ups ≡ [] → RoutesThen later_routes (End ∷ []) → ServicesThen later_services (End ∷ [])
        → Follows most_routes most_services (state_of ports true up seconds routes services) (state_of ports false ups later later_routes later_services) Stop
    stopped ups later none r s = record { ports = refl; routes = r; services = s; runs = refl; ups = none; counts = λ runs. absurd (true≢false (sym runs)) }

    pub ticked : (later : ℕ) → later ≡ (seconds + 1) % period → RoutesThen later_routes (SecondPassed ∷ []) → ServicesThen later_services (SecondPassed ∷ [])
        → Follows most_routes most_services (state_of ports true up seconds routes services) (state_of ports true up later later_routes later_services) Second
    ticked later e r s = record { ports = refl; routes = r; services = s; runs = refl; ups = refl; counts = λ runs. e }

    pub learned : (running : Bool) (number : ℕ) (bytes : List ℕ)
        → RoutesThen later_routes (routes_heard ports number (heard ports up running number bytes))
        → ServicesThen later_services (services_heard number (heard ports up running number bytes))
        → Follows most_routes most_services (state_of ports running up seconds routes services) (state_of ports running up seconds later_routes later_services) (Packet number bytes)
    learned running number bytes r s = record { ports = refl; routes = r; services = s; runs = refl; ups = refl; counts = λ runs. refl }

    pub went_down : (number : ℕ) (ups : List ℕ) → is_up up number ≡ true → ups ≡ filter (λ j. not (j == number)) up
        → RoutesThen later_routes (PortEnd number ∷ []) → ServicesThen later_services (PortEnd number ∷ [])
        → Follows most_routes most_services (state_of ports true up seconds routes services) (state_of ports true ups seconds later_routes later_services) (PortDown number)
    went_down number ups there e r s = grind arith

  pub came_up : (number : ℕ) (ups : List ℕ) → is_up up number ≡ false → ups ≡ put nat_lt number up
      → Follows most_routes most_services (state_of ports true up seconds routes services) (state_of ports true ups seconds routes services) (PortUp number)
  came_up number ups down e = grind (arith, same_routes, same_services, ups)
