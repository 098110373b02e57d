-- How many packets a start, a stop, a second and a port that goes down or comes up send, by how much is held and how much
-- changes.
use Rattle.std.proofs.lemmas.Grind.{common_steps}
use Rattle.std.proofs.Common.{◌≡◌, ℕ, ◌+◌, ◌-◌, ◌*◌, ◌<◌, ◌≤◌, ◌==◌, if◌then◌else◌, Bool, true, false, List, [], ◌∷◌, ◌++◌, map, length, Option, None, Some, inl, inr, arith, length-append}
use Rattle.std.specs.List.{AllByRecursion, flat_map}
use Rattle.std.proofs.Math.Nat.{mul-le-mul_right}
use Rattle.std.proofs.lemmas.Bool.{cases_Bool, eqb-true, ne_eqb}
use Rattle.std.proofs.lemmas.List.{length-map}
use Rattle.ipx_wire.specs.declared.address.Address.{Address}
use Rattle.ipx_wire.specs.declared.rip.Operation.{Operation}
use Rattle.ipx_wire.specs.declared.rip.Operation.TheVariants.{Request, Response}
use Rattle.ipx_wire.specs.declared.rip.RipEntry.{RipEntry}
use Rattle.ipx_wire.specs.declared.service.Service.{Service}
use Rattle.ipx_router.specs.Bounds.{route_sheets, service_sheets, all_sheets}
use Rattle.ipx_router.specs.Changes.{Change, changes}
use Rattle.ipx_router.specs.News.{same_route, route_told, news, same_service, service_told, news_services}
use Rattle.ipx_router.specs.Numbers.{entries_a_page, services_a_page}
use Rattle.ipx_router.specs.Pages.{sheets}
use Rattle.ipx_router.specs.Port.{Port, port_at, is_up, everyone, every_server}
use Rattle.ipx_router.specs.Routes.{network_order}
use Rattle.ipx_router.specs.Sends.{Holding, rip_sends, sap_sends, rip_broadcast, sap_broadcast, broadcasts, every_route, routes_request, services_query, introduction, second_on, stop_on, port_down_on, port_up_on}
use Rattle.ipx_router.specs.Services.{service_order}
use Rattle.ipx_router.specs.Told.{told, told_services, told_at, direct_entry, by_network, by_name, dead, dead_service}
use Rattle.ipx_router.specs.declared.route_offer.RouteOffer.{RouteOffer}
use Rattle.ipx_router.specs.declared.service_offer.ServiceOffer.{ServiceOffer}
use Rattle.ipx_router.proofs.lists.EachElement.{all_then}
use Rattle.ipx_router.proofs.bounds.ItemsOfEachList.{length-singles, length-each, length-by_network, length-by_name, length-told, length-told_services}
use Rattle.ipx_router.proofs.lists.CountOfPages.{length-pages}
use Rattle.ipx_router.proofs.port_values.PortOfEachNumber.{members}
use Rattle.ipx_router.proofs.relays.PortsRise.{IsRising}

-- ---- packets of entries and services

pub length-rip_sends : (ports : List Port) (number : ℕ) (to : Address) (operation : Operation) (entries : List RipEntry) (most : ℕ) → length entries ≤ most
    → length (rip_sends ports number to operation entries) ≤ sheets entries_a_page most
length-rip_sends ports number to operation entries most few = grind (arith, length-map, length-pages)

pub length-sap_sends : (ports : List Port) (number : ℕ) (to : Address) (nearest : Bool) (services : List Service) (most : ℕ) → length services ≤ most
    → length (sap_sends ports number to nearest services) ≤ sheets services_a_page most
length-sap_sends ports number to nearest services most few = grind (arith, length-map, length-pages)

length-rip_broadcast : (ports : List Port) (number : ℕ) (entries : List RipEntry) (most : ℕ) → length entries ≤ most
    → length (rip_broadcast ports number entries) ≤ sheets entries_a_page most
length-rip_broadcast ports number entries most few = length-rip_sends ports number (everyone (port_at ports number)) Response entries most few

length-sap_broadcast : (ports : List Port) (number : ℕ) (services : List Service) (most : ℕ) → length services ≤ most
    → length (sap_broadcast ports number services) ≤ sheets services_a_page most
length-sap_broadcast ports number services most few = length-sap_sends ports number (every_server (port_at ports number)) false services most few

pub length-broadcasts : (ports : List Port) (number : ℕ) (entries : List RipEntry) (services : List Service) (r s : ℕ)
    → length entries ≤ r → length services ≤ s → length (broadcasts ports number entries services) ≤ sheets entries_a_page r + sheets services_a_page s
length-broadcasts ports number entries services r s few_entries few_of_services = grind (arith, length-append, length-rip_broadcast, length-sap_broadcast)

-- ---- a port comes up

-- what is told there, a request, and a query
length-introduction : (ports : List Port) (up : List ℕ) (routes : List RouteOffer) (services : List ServiceOffer) (number r s : ℕ) → is_up up number ≡ true
    → length routes + length up ≤ r + 1 → length services ≤ s
    → length (introduction ports up routes services number) ≤ sheets entries_a_page r + sheets services_a_page s + 2
length-introduction ports up routes services number r s there few few_of_services =
    let entries = told ports up routes number in
    let advertised = told_services services number in
    let answer = rip_broadcast ports number entries in
    let request = routes_request ports number in
    let servers = sap_broadcast ports number advertised in
    let few_entries : length entries ≤ r = omega (arith, few, length-told ports up routes number there) in
    omega (
      arith,
      length-append (answer ++ request ++ servers) (services_query ports number),
      length-append (answer ++ request) servers,
      length-append answer request,
      length-rip_broadcast ports number entries r few_entries,
      length-rip_sends ports number (everyone (port_at ports number)) Request (every_route ∷ []) 1 (omega arith),
      length-sap_broadcast ports number advertised s (omega (arith, few_of_services, length-told_services services number)),
    )

-- where one port is up, there is one
some_up : (up : List ℕ) (number : ℕ) → is_up up number ≡ true → 1 ≤ length up
some_up up number there = grind (arith, common_steps)

-- ---- start

pub length-start : (ports : List Port) (up : List ℕ) → length up ≤ length ports → length ports ≤ 32
    → length (flat_map (introduction ports up [] []) up) ≤ 3 * length ports
length-start ports up ups few =
    omega (arith, ups, length-each (introduction ports up [] []) 3 up on)
  where
    on : (number : ℕ) → is_up up number ≡ true → length (introduction ports up [] [] number) ≤ 3
    on number there = omega (arith, length-introduction ports up [] [] number 31 0 there (omega (arith, ups, few)) (omega arith))

-- ---- stop

pub length-stop : (ports : List Port) (before : Holding) (r s : ℕ) → length before.up ≤ length ports → length before.routes ≤ r → length before.services ≤ s
    → length (flat_map (stop_on ports before) before.up) ≤ length ports * all_sheets (length ports) r s
length-stop ports before r s ups few_before few_of_services =
    let each = length-each (stop_on ports before) (all_sheets (length ports) r s) before.up on in
    let more = mul-le-mul_right (all_sheets (length ports) r s) ups in
    omega (arith, each, more)
  where
    on : (number : ℕ) → is_up before.up number ≡ true → length (stop_on ports before number) ≤ all_sheets (length ports) r s
    on number there =
        let entries = told ports before.up before.routes number in
        length-broadcasts ports number (map dead entries) (map dead_service (told_services before.services number)) (r + length ports - 1) s
        (omega (arith, length-map entries dead, length-told ports before.up before.routes number there, few_before, ups))
        (omega (arith, length-map (told_services before.services number) dead_service, length-told_services before.services number, few_of_services))

-- ---- changes

module _ (ports : List Port) (before after : Holding) where
  -- how many routes and how many services change
  abbrev pub RoutesChange : ℕ → Type 0
  RoutesChange most = length (changes (λ r. r.network) network_order same_route before.routes after.routes) ≤ most

  abbrev pub ServicesChange : ℕ → Type 0
  ServicesChange most = length (changes (λ s. (s.service.kind, s.service.name)) service_order same_service before.services after.services) ≤ most

  route_told-few : (number : ℕ) (change : Change RouteOffer) → length (route_told ports number change) ≤ 1
  route_told-few number change = later change.before change.after
    where
      later : (b a : Option RouteOffer) → length (route_told ports number (record { before = b; after = a })) ≤ 1
      later b (Some route) = elim (cases_Bool (route.port == number)) [ inl e ↦ rw e (omega arith) | inr e ↦ rw e (omega arith) ]
      later (Some route) None = elim (cases_Bool (route.port == number)) [ inl e ↦ rw e (omega arith) | inr e ↦ rw e (omega arith) ]
      later None None = omega arith

  service_told-few : (number : ℕ) (change : Change ServiceOffer) → length (service_told number change) ≤ 1
  service_told-few number change = later change.before change.after
    where
      later : (b a : Option ServiceOffer) → length (service_told number (record { before = b; after = a })) ≤ 1
      later b (Some offer) = elim (cases_Bool (offer.port == number)) [ inl e ↦ rw e (omega arith) | inr e ↦ rw e (omega arith) ]
      later (Some offer) None = elim (cases_Bool (offer.port == number)) [ inl e ↦ rw e (omega arith) | inr e ↦ rw e (omega arith) ]
      later None None = omega arith

  -- no more news than changes
  pub length-news : (number most : ℕ) → RoutesChange most → length (news ports before.routes after.routes number) ≤ most
  length-news number most few = grind (arith, length-singles, route_told-few)

  pub length-news_services : (number most : ℕ) → ServicesChange most → length (news_services before.services after.services number) ≤ most
  length-news_services number most few = grind (arith, length-singles, service_told-few)

  -- ---- a second

  -- what changes at a second is what ends with it; that and what is left are not more than what was held
  pub length-second : (periodic : Bool) (r s ends gone : ℕ) → length after.up ≤ length ports
      → RoutesChange ends → length after.routes + ends ≤ r → ServicesChange gone → length after.services + gone ≤ s
      → length (flat_map (second_on ports before after periodic) after.up) ≤ length ports * all_sheets (length ports) r s
  length-second periodic r s ends gone ups few_ends left few_gone left_services =
      let each = length-each (second_on ports before after periodic) (all_sheets (length ports) r s) after.up (on periodic) in
      let more = mul-le-mul_right (all_sheets (length ports) r s) ups in
      omega (arith, each, more)
    where
      on : (periodic : Bool) (number : ℕ) → is_up after.up number ≡ true
          → length (second_on ports before after periodic number) ≤ all_sheets (length ports) r s
      on true number there =
          let rest = told ports after.up after.routes number in
          let ended = news ports before.routes after.routes number in
          let rest_services = told_services after.services number in
          let ended_services = news_services before.services after.services number in
          length-broadcasts ports number (by_network (rest ++ ended)) (by_name (rest_services ++ ended_services)) (r + length ports - 1) s
          (omega (
            arith,
            left,
            ups,
            length-by_network (rest ++ ended),
            length-append rest ended,
            length-told ports after.up after.routes number there,
            length-news number ends few_ends,
          ))
          (omega (
            arith,
            left_services,
            length-by_name (rest_services ++ ended_services),
            length-append rest_services ended_services,
            length-told_services after.services number,
            length-news_services number gone few_gone,
          ))
      on false number there =
          let ended = news ports before.routes after.routes number in
          let ended_services = news_services before.services after.services number in
          length-broadcasts ports number ended ended_services (r + length ports - 1) s
          (omega (arith, length-news number ends few_ends, left, some_up after.up number there, ups))
          (omega (arith, length-news_services number gone few_gone, left_services))

  -- ---- a port goes down

  -- what changes is what came by it; its own network is one more, and there is one port less to tell it
  pub length-port_down : (port r s ends gone : ℕ) → length after.up + 1 ≤ length ports
      → RoutesChange ends → ends ≤ r → ServicesChange gone → gone ≤ s
      → length (flat_map (port_down_on ports before after port) after.up) ≤ (length ports - 1) * all_sheets (length ports) r s
  length-port_down port r s ends gone ups few_ends fit few_gone fits =
      let each = length-each (port_down_on ports before after port) (all_sheets (length ports) r s) after.up on in
      let fewer : length after.up ≤ length ports - 1 = omega (arith, ups) in
      let more = mul-le-mul_right (all_sheets (length ports) r s) fewer in
      omega (arith, each, more)
    where
      on : (number : ℕ) → is_up after.up number ≡ true → length (port_down_on ports before after port number) ≤ all_sheets (length ports) r s
      on number there =
          let ended = news ports before.routes after.routes number in
          length-broadcasts ports number (by_network (dead (direct_entry ports port) ∷ ended)) (news_services before.services after.services number)
          (r + length ports - 1) s
          (omega (arith, length-by_network (dead (direct_entry ports port) ∷ ended), length-news number ends few_ends, fit, ups, some_up after.up number there))
          (omega (arith, length-news_services number gone few_gone, fits))

-- ---- a port comes up

-- at most this number of items for one port, and one for each other
abbrev weight : ℕ → ℕ → ℕ → ℕ
weight port most number = if number == port then most else 1

one_each : {X : Type 0} (f : ℕ → List X) (port most : ℕ) (up : List ℕ) → AllByRecursion (λ j. (j == port) ≡ false) up
    → AllByRecursion (λ j. length (f j) ≤ weight port most j) up → length (flat_map f up) ≤ length up
one_each f port most [] others all = omega arith
one_each f port most (x ∷ up) others all = grind (arith, one_each f port most up others.1 all.1, length-append)

one_for_most : {X : Type 0} (f : ℕ → List X) (port most : ℕ) (up : List ℕ) → 1 ≤ most → IsRising up
    → AllByRecursion (λ j. length (f j) ≤ weight port most j) up → length (flat_map f up) + 1 ≤ length up + most
one_for_most f port most [] some rise all = omega (arith, some)
one_for_most f port most (x ∷ up) some rise all = elim (cases_Bool (x == port)) [
  | inl here ↦
      let first : length (f x) ≤ most = rw here at all.0 in
      let same = eqb-true x port here in
      let rest = one_each f port most up (all_then (λ m. x < m) (λ m. (m == port) ≡ false) (λ m above. apart m above same) up rise.0) all.1 in
      omega (arith, length-append (f x) (flat_map f up), first, rest)
  | inr other ↦
      let first : length (f x) ≤ 1 = rw other at all.0 in
      omega (arith, length-append (f x) (flat_map f up), first, one_for_most f port most up some rise.1 all.1)
]
  where
    apart : (m : ℕ) → x < m → x ≡ port → (m == port) ≡ false
    apart m above same = ne_eqb m port (λ (e : m ≡ port). omega (arith, above, same, e))

-- on the port itself its introduction, on each other one packet
pub length-port_up : (ports : List Port) (after : Holding) (port r s : ℕ) → length after.up ≤ length ports → length after.routes ≤ r → length after.services ≤ s
    → IsRising after.up
    → length (flat_map (port_up_on ports after port) after.up) ≤ length ports + 1 + route_sheets (length ports) r + service_sheets s
length-port_up ports after port r s ups few few_of_services rise =
    let most = all_sheets (length ports) r s + 2 in
    let all = one_for_most (port_up_on ports after port) port most after.up (omega arith) rise
    (all_then (λ j. is_up after.up j ≡ true) (λ j. length (port_up_on ports after port j) ≤ weight port most j) on after.up (members after.up)) in
    omega (arith, ups, all)
  where
    on : (number : ℕ) → is_up after.up number ≡ true
        → length (port_up_on ports after port number) ≤ weight port (all_sheets (length ports) r s + 2) number
    on number there = elim (cases_Bool (number == port)) [
      | inl own ↦
          rw own (length-introduction ports after.up after.routes after.services number (r + length ports - 1) s there
          (omega (arith, few, ups, some_up after.up number there)) few_of_services)
      | inr other ↦
          rw other (omega (arith, length-rip_broadcast ports number (told_at (port_at ports number).cost (direct_entry ports port) ∷ []) 1 (omega arith)))
    ]
