-- Routes and services by way of nodes stand in the order of their lines, each once.
use Rattle.std.proofs.Common.{◌≡◌, ℕ, Bool, ◌<◌, ◌≤◌, ◌==◌, true, false, List, [], ◌∷◌, ◌++◌, length, refl, sym, arith, Option, Some, None, true≢false, le-ltb, eq-eqb, inl, inr}
use Rattle.std.proofs.lemmas.Bool.{lt-ltb}
use Rattle.std.proofs.lemmas.List.{take_more_set}
use Rattle.std.proofs.lemmas.Option.{slice_get_cases}
use Rattle.std.specs.List.{list_any, position, position_or_len}
use Rattle.std.specs.Option.{is_some, option_map}
use Rattle.std.specs.Prelude.{slice_get}
use Rattle.ipx_settings.specs.Cutting.{◌>>=◌}
use Rattle.ipx_settings.specs.Statics.{route_to, service_named}
use Rattle.ipx_settings.specs.declared.expected.Expected.{Expected}
use Rattle.ipx_settings.specs.declared.line.Line.{Line}
use Rattle.ipx_settings.specs.declared.line.Line.TheVariants as line
use Rattle.ipx_settings.specs.declared.statics.RouteBegun.{RouteBegun}
use Rattle.ipx_settings.specs.declared.statics.RouteBegun.TheVariants as route
use Rattle.ipx_settings.specs.declared.statics.ServiceBegun.{ServiceBegun}
use Rattle.ipx_settings.specs.declared.statics.ServiceBegun.TheVariants as service
use Rattle.ipx_settings.specs.declared.statics.StaticRoute.{StaticRoute}
use Rattle.ipx_settings.specs.declared.statics.StaticService.{StaticService}
use Rattle.ipx_configuration.specs.Clashes.{first_of, when, line_fault}
use Rattle.ipx_configuration.specs.Extends.{network_by}
use Rattle.ipx_configuration.specs.Lines.{once, if_right}
use Rattle.ipx_configuration.specs.Peers.{peer_fault}
use Rattle.ipx_configuration.specs.Rules.{rule_fault}
use Rattle.ipx_configuration.specs.Statics.{route_said, routes_in, leads_to, first_route, route_fault, service_said, services_in, is_named, first_service, service_fault}
use Rattle.ipx_configuration.specs.Wholes.{is_of_route, is_of_service}
use Rattle.ipx_configuration.specs.declared.fault.Fault.{Fault}
use Rattle.ipx_configuration.specs.declared.fault.Fault.TheVariants as fault
use Rattle.ipx_configuration.specs.declared.said.NetworkSetting.{NetworkSetting}

-- ---- the first that passes a test

pub within : {X : Type 0} (p : X → Bool) (xs : List X) → list_any p xs ≡ true → position_or_len p xs < length xs
within p [] some = absurd (true≢false (sym some))
within p (x ∷ xs) some = by (p x) refl some (within p xs)
  where
    by : (b : Bool) → p x ≡ b → list_any p (x ∷ xs) ≡ true → (list_any p xs ≡ true → position_or_len p xs < length xs) → position_or_len p (x ∷ xs) < length (x ∷ xs)
    by true is some behind = rw is (omega arith)
    by false is some behind = (let there = behind (rw is at some) in rw is (omega (arith, there)))

past : {X : Type 0} (p : X → Bool) (xs : List X) → list_any p xs ≡ false → length xs ≤ position_or_len p xs
past p [] none = omega arith
past p (x ∷ xs) none = by (p x) refl none (past p xs)
  where
    by : (b : Bool) → p x ≡ b → list_any p (x ∷ xs) ≡ false → (list_any p xs ≡ false → length xs ≤ position_or_len p xs) → length (x ∷ xs) ≤ position_or_len p (x ∷ xs)
    by true is none behind = absurd (true≢false (rw is at none))
    by false is none behind = (let further = behind (rw is at none) in rw is (omega (arith, further)))

-- what is told of it
abbrev FirstOf : {X : Type 0} → (X → Bool) → (X → ℕ) → List X → Option ℕ
FirstOf p f xs = position p xs >>= λ k. option_map f (slice_get xs k)

pub none_first : {X : Type 0} (p : X → Bool) (f : X → ℕ) (xs : List X) → list_any p xs ≡ false → FirstOf p f xs ≡ None
none_first p f xs none = rw (le-ltb (position_or_len p xs) (length xs) (past p xs none)) refl

pub some_first : {X : Type 0} (p : X → Bool) (f : X → ℕ) (xs : List X) → list_any p xs ≡ true → is_some (FirstOf p f xs) ≡ true
some_first p f xs some =
    let there = within p xs some in
    elim (slice_get_cases xs (position_or_len p xs)).1 [
      | inl found ↦ rw (lt-ltb (position_or_len p xs) (length xs) there, found.2) refl
      | inr missing ↦ absurd (omega (arith, there, missing.0))
    ]

-- ---- lines that are wrong

-- another network with the same list
pub kept_by : {A : Type 0} (of : NetworkSetting → A) (f : Option Fault) (was next : NetworkSetting) → of next ≡ of was → of (if_right f was next).0 ≡ of was
kept_by of None was next e = e
kept_by of (Some f) was next e = refl

abbrev pub IsWrong : NetworkSetting → NetworkSetting × Option Fault → Type 0
IsWrong n taken = (taken.0 ≡ n) × (is_some taken.1 ≡ true)

pub wrong : (f : Option Fault) (was next : NetworkSetting) → is_some f ≡ true → IsWrong was (if_right f was next)
wrong None was next is = absurd (true≢false (sym is))
wrong (Some f) was next is = (refl, refl)

pub second : (a b : Option Fault) (more : List (Option Fault)) → is_some b ≡ true → is_some (first_of (a ∷ b ∷ more)) ≡ true
second None None more is = absurd (true≢false (sym is))
second None (Some f) more is = refl
second (Some g) b more is = refl

pub third : (a b c : Option Fault) (more : List (Option Fault)) → is_some c ≡ true → is_some (first_of (a ∷ b ∷ c ∷ more)) ≡ true
third None b c more is = second b c more is
third (Some g) b c more is = refl

pub mapped : (f : ℕ → Fault) (o : Option ℕ) → is_some o ≡ true → is_some (option_map f o) ≡ true
mapped f None is = absurd (true≢false (sym is))
mapped f (Some n) is = refl

module _ (number : ℕ) (text : List ℕ) (read : ℕ) (own : Option Expected) (n : NetworkSetting) where
  -- ---- routes

  pub last_route : (l : Line) (it : StaticRoute) → l ≡ line.Route (route.Whole it) → own ≡ None → n.static_routes.count < 64 → length n.static_routes.list ≡ 64
      → (n.number == it.network) ≡ false → list_any (leads_to it.network) (routes_in n.static_routes) ≡ false
      → routes_in (network_by number text l read own n).0.static_routes ≡ routes_in n.static_routes ++ route_said number it ∷ []
  last_route l it is right room all differs none =
      let first : first_route it.network n.static_routes ≡ None = none_first (leads_to it.network) (λ r. r.line) (routes_in n.static_routes) none in
      rw (is, right, lt-ltb n.static_routes.count 64 room, differs, first)
      (take_more_set n.static_routes.list n.static_routes.count (route_said number it) (omega (arith, room, all)))

  pub route_again : (l : Line) (b : RouteBegun) (to : ℕ) → l ≡ line.Route b → route_to b ≡ Some to → list_any (leads_to to) (routes_in n.static_routes) ≡ true
      → IsWrong n (network_by number text l read own n)
  route_again l b to is leads some =
      let first = some_first (leads_to to) (λ r. r.line) (routes_in n.static_routes) some in
      let other : is_some (route_to b >>= λ it. option_map fault.OtherNetwork (first_route it n.static_routes)) ≡ true = rw leads (mapped fault.OtherNetwork (first_route to n.static_routes) first) in
      rw is (wrong (route_fault n b own) n _ (third _ _ _ (line_fault own ∷ []) other))

  pub route_to_itself : (l : Line) (b : RouteBegun) → l ≡ line.Route b → route_to b ≡ Some n.number → IsWrong n (network_by number text l read own n)
  route_to_itself l b is leads =
      let itself : is_some (route_to b >>= λ to. when (n.number == to) (fault.OtherNetwork n.line)) ≡ true = rw (leads, eq-eqb n.number n.number refl) refl in
      rw is (wrong (route_fault n b own) n _ (second _ _ _ itself))

  pub full_routes : (l : Line) → is_of_route l ≡ true → 64 ≤ n.static_routes.count → network_by number text l read own n ≡ (n, Some fault.ManyRoutes)
  full_routes (line.Route b) is many = rw (le-ltb n.static_routes.count 64 many) refl
  full_routes (line.Service b) is many = absurd (true≢false (sym is))
  full_routes line.Nothing is many = absurd (true≢false (sym is))
  full_routes (line.Network b) is many = absurd (true≢false (sym is))
  full_routes (line.Link b) is many = absurd (true≢false (sym is))
  full_routes (line.Extend b) is many = absurd (true≢false (sym is))
  full_routes (line.Clients b) is many = absurd (true≢false (sym is))
  full_routes (line.Allow b) is many = absurd (true≢false (sym is))
  full_routes (line.Trust b) is many = absurd (true≢false (sym is))
  full_routes (line.Origins b) is many = absurd (true≢false (sym is))
  full_routes (line.Peer b) is many = absurd (true≢false (sym is))
  full_routes (line.Rate b) is many = absurd (true≢false (sym is))
  full_routes (line.Strangers b) is many = absurd (true≢false (sym is))
  full_routes (line.Kilobits b) is many = absurd (true≢false (sym is))
  full_routes (line.Nodes b) is many = absurd (true≢false (sym is))
  full_routes (line.Internal b) is many = absurd (true≢false (sym is))
  full_routes (line.Adopt b) is many = absurd (true≢false (sym is))
  full_routes (line.Rule permits b) is many = absurd (true≢false (sym is))

  pub other_routes : (l : Line) → is_of_route l ≡ false → (network_by number text l read own n).0.static_routes ≡ n.static_routes
  other_routes (line.Route b) is = absurd (true≢false is)
  other_routes (line.Service b) is = kept_by (λ m. m.static_routes) (service_fault n.static_services b own) n _ refl
  other_routes line.Nothing is = refl
  other_routes (line.Network b) is = refl
  other_routes (line.Link b) is = refl
  other_routes (line.Extend b) is = refl
  other_routes (line.Clients b) is = refl
  other_routes (line.Allow b) is = refl
  other_routes (line.Trust b) is = refl
  other_routes (line.Origins b) is = refl
  other_routes (line.Peer b) is = kept_by (λ m. m.static_routes) (peer_fault n.peers b own) n _ refl
  other_routes (line.Rate b) is = refl
  other_routes (line.Strangers b) is = refl
  other_routes (line.Kilobits b) is = refl
  other_routes (line.Nodes b) is = refl
  other_routes (line.Internal b) is = refl
  other_routes (line.Adopt b) is = kept_by (λ m. m.static_routes) (once n.adopt_line own) n _ refl
  other_routes (line.Rule permits b) is = kept_by (λ m. m.static_routes) (rule_fault n.rules own) n _ refl

  -- ---- services

  pub last_service : (l : Line) (it : StaticService) → l ≡ line.Service (service.Whole it) → own ≡ None → n.static_services.count < 64 → length n.static_services.list ≡ 64
      → list_any (is_named it.kind it.name) (services_in n.static_services) ≡ false
      → services_in (network_by number text l read own n).0.static_services ≡ services_in n.static_services ++ service_said number it ∷ []
  last_service l it is right room all none =
      let first : first_service it.kind it.name n.static_services ≡ None = none_first (is_named it.kind it.name) (λ s. s.line) (services_in n.static_services) none in
      rw (is, right, lt-ltb n.static_services.count 64 room, first)
      (take_more_set n.static_services.list n.static_services.count (service_said number it) (omega (arith, room, all)))

  pub service_again : (l : Line) (b : ServiceBegun) (kind : ℕ) (name : List ℕ) → l ≡ line.Service b → service_named b ≡ Some (kind, name)
      → list_any (is_named kind name) (services_in n.static_services) ≡ true → IsWrong n (network_by number text l read own n)
  service_again l b kind name is named some =
      let first = some_first (is_named kind name) (λ s. s.line) (services_in n.static_services) some in
      let other : is_some (service_named b >>= λ it. option_map fault.OtherService (first_service it.0 it.1 n.static_services)) ≡ true =
      rw named (mapped fault.OtherService (first_service kind name n.static_services) first) in
      rw is (wrong (service_fault n.static_services b own) n _ (second _ _ (line_fault own ∷ []) other))

  pub full_services : (l : Line) → is_of_service l ≡ true → 64 ≤ n.static_services.count → network_by number text l read own n ≡ (n, Some fault.ManyServices)
  full_services (line.Service b) is many = rw (le-ltb n.static_services.count 64 many) refl
  full_services (line.Route b) is many = absurd (true≢false (sym is))
  full_services line.Nothing is many = absurd (true≢false (sym is))
  full_services (line.Network b) is many = absurd (true≢false (sym is))
  full_services (line.Link b) is many = absurd (true≢false (sym is))
  full_services (line.Extend b) is many = absurd (true≢false (sym is))
  full_services (line.Clients b) is many = absurd (true≢false (sym is))
  full_services (line.Allow b) is many = absurd (true≢false (sym is))
  full_services (line.Trust b) is many = absurd (true≢false (sym is))
  full_services (line.Origins b) is many = absurd (true≢false (sym is))
  full_services (line.Peer b) is many = absurd (true≢false (sym is))
  full_services (line.Rate b) is many = absurd (true≢false (sym is))
  full_services (line.Strangers b) is many = absurd (true≢false (sym is))
  full_services (line.Kilobits b) is many = absurd (true≢false (sym is))
  full_services (line.Nodes b) is many = absurd (true≢false (sym is))
  full_services (line.Internal b) is many = absurd (true≢false (sym is))
  full_services (line.Adopt b) is many = absurd (true≢false (sym is))
  full_services (line.Rule permits b) is many = absurd (true≢false (sym is))

  pub other_services : (l : Line) → is_of_service l ≡ false → (network_by number text l read own n).0.static_services ≡ n.static_services
  other_services (line.Service b) is = absurd (true≢false is)
  other_services (line.Route b) is = kept_by (λ m. m.static_services) (route_fault n b own) n _ refl
  other_services line.Nothing is = refl
  other_services (line.Network b) is = refl
  other_services (line.Link b) is = refl
  other_services (line.Extend b) is = refl
  other_services (line.Clients b) is = refl
  other_services (line.Allow b) is = refl
  other_services (line.Trust b) is = refl
  other_services (line.Origins b) is = refl
  other_services (line.Peer b) is = kept_by (λ m. m.static_services) (peer_fault n.peers b own) n _ refl
  other_services (line.Rate b) is = refl
  other_services (line.Strangers b) is = refl
  other_services (line.Kilobits b) is = refl
  other_services (line.Nodes b) is = refl
  other_services (line.Internal b) is = refl
  other_services (line.Adopt b) is = kept_by (λ m. m.static_services) (once n.adopt_line own) n _ refl
  other_services (line.Rule permits b) is = kept_by (λ m. m.static_services) (rule_fault n.rules own) n _ refl
