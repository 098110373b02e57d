-- What is told of changes weighs, on all ports together: of each change as much as is told of it, once for each that hears it.
use Rattle.std.proofs.Common.{◌≡◌, ◌≢◌, refl, sym, ap, ℕ, ◌+◌, ◌-◌, ◌*◌, ◌<◌, ◌≤◌, ◌==◌, if◌then◌else◌, Bool, true, false, List, [], ◌∷◌, length, flat_map, Option, Some, None, IfSome, inl, inr, arith, mul-le-mul_left, mul-add, suc-mul, ◌⊎◌, rules}
use Rattle.std.specs.List.{AllByRecursion, sum_by}
use Rattle.std.proofs.lemmas.Bool.{cases_eq, both_ways, eq-eqb, ne_eqb, eqb-true, or_cases}
use Rattle.std.proofs.lemmas.Grind.{flat_map-append}
use Rattle.std.proofs.lemmas.List.Sums.{sum_by-cons, sum_by-append, sum_by-le-sum_by}
use Rattle.ipx_wire.specs.WriteServices.{entry_of}
use Rattle.ipx_wire.specs.declared.rip.RipEntry.{RipEntry}
use Rattle.ipx_wire.specs.declared.sap_entries.SapEntry.{SapEntry}
use Rattle.ipx_wire.specs.declared.service.Service.{Service}
use Rattle.ipx_router.specs.News.{route_now, route_told, service_now, service_told}
use Rattle.ipx_router.specs.Numbers.{entries_a_page, services_a_page}
use Rattle.ipx_router.specs.Pages.{pages}
use Rattle.ipx_router.specs.Port.{Port, IsPort, port_at, is_up, own_address, own_services, everyone, every_server}
use Rattle.ipx_router.specs.Sends.{broadcasts, rip_broadcast, sap_broadcast}
use Rattle.ipx_router.specs.Told.{entry_of as route_entry, dead, dead_service}
use Rattle.ipx_router.specs.declared.route_offer.RouteOffer.{RouteOffer}
use Rattle.ipx_router.specs.declared.service_offer.ServiceOffer.{ServiceOffer}
use Rattle.ipx_router.proofs.sending.OwnPacketsAreValid.{Writable}
use Rattle.ipx_router.proofs.lists.ItemsOfPages.{all_pages}
use Rattle.ipx_router.proofs.port_values.PortOfEachNumber.{port-all}
use Rattle.ipx_internet.specs.Internet.{Internet, Place, IsInternet, ports_of}
use Rattle.ipx_internet.specs.InternetWeight.{entry_weight, routes_weight}
use Rattle.ipx_internet.specs.Most.{most_on_network}
use Rattle.ipx_internet.specs.Queue.{deliveries_of}
use Rattle.ipx_internet.proofs.packets.PagesReadAgain.{Tellable, everyone_is, every_server_is}
use Rattle.ipx_internet.proofs.packets.SentOnOrReply.{Layouts}
use Rattle.ipx_internet.proofs.places.FewOnANetwork.{delivered_few}
use Rattle.ipx_internet.proofs.places.OneReceiverOfANode.{ports_at}
use Rattle.ipx_internet.proofs.weights.EntriesWeighEnough.{route_told_weight, service_told_weight}
use Rattle.ipx_internet.proofs.weights.OffersPayTheirCost.{telling}
use Rattle.ipx_internet.proofs.weights.PagesAtTheirProcess.{w, pages_land, lists_land, rip_heard, sap_heard}
use Rattle.ipx_internet.proofs.weights.PagesWeighTheirItems.{sum_one_more, sum_both, sum_mapped, paged_one_more}

-- ---- on ports but one

-- as many times as one less, and once more
one_less : (n x : ℕ) → 1 ≤ n → n * x ≡ (n - 1) * x + x
one_less n x some = search (rules, suc-mul)

-- where one port is left out, the others make one less
pub left_out : (port n : ℕ) (up : List ℕ) → is_up up port ≡ true → sum_by (λ j. if port == j then 0 else n) up + n ≤ length up * n
left_out port n [] there = absurd (both_ways false refl there)
left_out port n (j ∷ up) there =
    let sum = sum_by-cons (λ j. if port == j then 0 else n) j up in
    elim (cases_eq port j) [
      | inl here ↦
          let one : (if port == j then 0 else n) ≡ 0 = rw (eq-eqb port j here) refl in
          let rest = all_of_them up in
          omega (arith, sum, one, rest)
      | inr other ↦
          let one : (if port == j then 0 else n) ≡ n = rw (ne_eqb port j other) refl in
          let rest = left_out port n up (behind other (or_cases (j == port) (is_up up port) there)) in
          omega (arith, sum, one, rest)
    ]
  where
    at_most : (b : Bool) → (if b then 0 else n) ≤ n
    at_most true = omega arith
    at_most false = omega arith

    all_of_them : (js : List ℕ) → sum_by (λ j. if port == j then 0 else n) js ≤ length js * n
    all_of_them [] = omega arith
    all_of_them (i ∷ js) =
        let first = sum_by-cons (λ j. if port == j then 0 else n) i js in
        let rest = all_of_them js in
        let one = at_most (port == i) in
        omega (arith, first, rest, one)

    behind : port ≢ j → ((j == port) ≡ true) ⊎ (is_up up port ≡ true) → is_up up port ≡ true
    behind other (inl e) = absurd (other (sym (eqb-true j port e)))
    behind other (inr later) = later

module _ (net : Internet) where
  -- ---- entries and services that are told

  abbrev pub routes_told : List RipEntry → ℕ
  routes_told entries = sum_by (λ e. 1 + entry_weight net e.hops) entries

  abbrev pub services_told : List Service → ℕ
  services_told services = sum_by (λ s. 1 + entry_weight net s.hops) services

  route_now_weighs : (port : Port) (r : RouteOffer) → entry_weight net (route_now port r).hops ≤ entry_weight net (r.hops + 1)
  route_now_weighs port r = grind arith

  service_now_weighs : (s : ServiceOffer) → entry_weight net (service_now s).hops ≤ entry_weight net (s.service.hops + 1)
  service_now_weighs s = grind arith

  -- ---- one change

  -- on all ports but one
  but_one : (up : List ℕ) (port n : ℕ) (f : ℕ → ℕ) → ((j : ℕ) → f j ≤ (if port == j then 0 else n)) → is_up up port ≡ true → sum_by f up ≤ (length up - 1) * n
  but_one up port n f each there =
      let fewer = sum_by-le-sum_by f (λ j. if port == j then 0 else n) up each in
      let all = left_out port n up there in
      let some = some_there up there in
      let parts = one_less (length up) n some in
      omega (arith, fewer, all, parts)
    where
      some_there : (js : List ℕ) → is_up js port ≡ true → 1 ≤ length js
      some_there [] there = absurd (both_ways false refl there)
      some_there (j ∷ js) there = omega arith

  one_unless : {X : Type 0} (v : X → ℕ) (b : Bool) (x : X) (n : ℕ) → v x ≤ n → sum_by v (if b then [] else x ∷ []) ≤ (if b then 0 else n)
  one_unless v b x n few = grind arith

  pub route_change : (ports : List Port) (up : List ℕ) (before after : Option RouteOffer) → IfSome before (λ r. is_up up r.port ≡ true) → IfSome after (λ r. is_up up r.port ≡ true)
      → sum_by (λ j. routes_told (route_told ports j (record { before = before; after = after }))) up ≤ (length up - 1) * telling (route_told_weight net) after
  route_change ports up before (Some r) was is =
      but_one up r.port (route_told_weight net r) (λ j. routes_told (route_told ports j (record { before = before; after = Some r })))
      (λ j.
      let light = route_now_weighs (port_at ports j) r in
      one_unless (λ e. 1 + entry_weight net e.hops) (r.port == j) (route_now (port_at ports j) r) (route_told_weight net r) (omega (arith, light)))
      is
  route_change ports up (Some r) None was is =
      but_one up r.port 1 (λ j. routes_told (route_told ports j (record { before = Some r; after = None })))
      (λ j. one_unless (λ e. 1 + entry_weight net e.hops) (r.port == j) (dead (route_entry r)) 1 (omega arith))
      was
  route_change ports up None None was is = nothing_told up
    where
      nothing_told : (js : List ℕ) → sum_by (λ j. routes_told (route_told ports j (record { before = None; after = None }))) js ≤ (length up - 1) * 1
      nothing_told [] = omega arith
      nothing_told (j ∷ js) =
          let rest = nothing_told js in
          let sum = sum_by-cons (λ j. routes_told (route_told ports j (record { before = None; after = None }))) j js in
          omega (arith, rest, sum)

  pub service_change : (up : List ℕ) (before after : Option ServiceOffer) → IfSome before (λ s. is_up up s.port ≡ true) → IfSome after (λ s. is_up up s.port ≡ true)
      → sum_by (λ j. services_told (service_told j (record { before = before; after = after }))) up ≤ (length up - 1) * telling (service_told_weight net) after
  service_change up before (Some s) was is =
      but_one up s.port (service_told_weight net s) (λ j. services_told (service_told j (record { before = before; after = Some s })))
      (λ j.
      let light = service_now_weighs s in
      one_unless (λ e. 1 + entry_weight net e.hops) (s.port == j) (service_now s) (service_told_weight net s) (omega (arith, light)))
      is
  service_change up (Some s) None was is =
      but_one up s.port 1 (λ j. services_told (service_told j (record { before = Some s; after = None })))
      (λ j. one_unless (λ e. 1 + entry_weight net e.hops) (s.port == j) (dead_service s.service) 1 (omega arith))
      was
  service_change up None None was is = nothing_told up
    where
      nothing_told : (js : List ℕ) → sum_by (λ j. services_told (service_told j (record { before = None; after = None }))) js ≤ (length up - 1) * 1
      nothing_told [] = omega arith
      nothing_told (j ∷ js) =
          let rest = nothing_told js in
          let sum = sum_by-cons (λ j. services_told (service_told j (record { before = None; after = None }))) j js in
          omega (arith, rest, sum)

-- ---- all changes

module _ {C X : Type 0} (tell : ℕ → C → List X) (v : X → ℕ) (bound : C → ℕ) (up : List ℕ) (ports : ℕ) where
  pub all_changes : (cs : List C) → AllByRecursion (λ c. sum_by (λ j. sum_by v (tell j c)) up ≤ ports * bound c) cs
      → sum_by (λ j. sum_by v (flat_map (tell j) cs)) up ≤ ports * sum_by bound cs
  all_changes [] all = nothing up
    where
      nothing : (js : List ℕ) → sum_by (λ j. sum_by v (flat_map (tell j) [])) js ≤ ports * 0
      nothing [] = omega arith
      nothing (j ∷ js) =
          let rest = nothing js in
          let sum = sum_by-cons (λ j. sum_by v (flat_map (tell j) [])) j js in
          omega (arith, rest, sum)
  all_changes (c ∷ cs) all =
      let one = all.0 in
      let rest = all_changes cs all.1 in
      let apart = sum_by-le-sum_by (λ j. sum_by v (flat_map (tell j) (c ∷ cs))) (λ j. sum_by v (tell j c) + sum_by v (flat_map (tell j) cs)) up
      (λ j. let joined = sum_by-append v (tell j c) (flat_map (tell j) cs) in omega (arith, joined)) in
      let both = sum_both (λ j. sum_by v (tell j c)) (λ j. sum_by v (flat_map (tell j) cs)) up in
      let sum = ap (λ (n : ℕ). ports * n) (sum_by-cons bound c cs) in
      let split = mul-add ports (bound c) (sum_by bound cs) in
      omega (arith, one, rest, apart, both, sum, split)

-- ---- what is sent

module _ (net : Internet) (laws : Layouts) (is : IsInternet net) (most_routes most_services router : ℕ) where
  abbrev ports : List Port
  ports = ports_of net router

  abbrev others : ℕ
  others = most_on_network net - 1

  abbrev AnyEntry : RipEntry → Type 0
  AnyEntry e = Unit {0}

  abbrev AnyService : Service → Type 0
  AnyService s = Unit {0}

  on_port : (j : ℕ) → j < length ports → (entries : List RipEntry) (services : List Service) → AllByRecursion (Writable AnyEntry) entries
      → AllByRecursion (Tellable AnyService) services
      → sum_by (w net most_routes most_services) (flat_map (deliveries_of net router) (broadcasts ports j entries services))
      ≤ others * (routes_told net entries + services_told net services)
  on_port j within entries services written tellable =
      let port = port_at ports j in
      let from : Place = record { router = router; port = j } in
      let is_port : IsPort port = port-all IsPort ports j (ports_at net is router) within in
      let of_routes = pages_land net most_routes most_services router laws is j within (everyone port) (everyone_is port is_port) refl others
      (delivered_few net from (everyone port).node within) AnyEntry (λ page. 1 + routes_weight net page)
      (λ page is_page says.
      let heard = rip_heard net most_routes most_services (own_address port) (everyone port) page refl says in
      omega (arith, heard))
      (pages entries_a_page entries) (all_pages (Writable AnyEntry) entries_a_page (omega arith) entries written) in
      let of_services = lists_land net most_routes most_services router laws is j within (every_server port) (every_server_is port is_port) refl others
      (delivered_few net from (every_server port).node within) AnyService false (λ page. 1 + sum_by (λ s. entry_weight net s.hops) page)
      (λ page is_page says.
      let heard = sap_heard net most_routes most_services (own_services port) (every_server port) page refl refl says in
      let same = sum_mapped (λ (e : SapEntry). entry_weight net e.hops) entry_of page in
      omega (arith, heard, same))
      (pages services_a_page services) (all_pages (Tellable AnyService) services_a_page (omega arith) services tellable) in
      let few = paged_one_more (λ (e : RipEntry). entry_weight net e.hops) entries_a_page (length entries) entries (omega arith) (omega arith) in
      let few_services = paged_one_more (λ (s : Service). entry_weight net s.hops) services_a_page (length services) services (omega arith) (omega arith) in
      let each = sum_one_more (λ (e : RipEntry). entry_weight net e.hops) entries in
      let each_service = sum_one_more (λ (s : Service). entry_weight net s.hops) services in
      let most : sum_by (λ page. 1 + routes_weight net page) (pages entries_a_page entries) ≤ routes_told net entries = omega (arith, few, each) in
      let most_too : sum_by (λ page. 1 + sum_by (λ (s : Service). entry_weight net s.hops) page) (pages services_a_page services) ≤ services_told net services =
      omega (arith, few_services, each_service) in
      let scaled = mul-le-mul_left others most in
      let scaled_too = mul-le-mul_left others most_too in
      let split = mul-add others (routes_told net entries) (services_told net services) in
      let joined = ap (sum_by (w net most_routes most_services)) (flat_map-append (deliveries_of net router) (rip_broadcast ports j entries) (sap_broadcast ports j services)) in
      let sum = sum_by-append (w net most_routes most_services) (flat_map (deliveries_of net router) (rip_broadcast ports j entries))
      (flat_map (deliveries_of net router) (sap_broadcast ports j services)) in
      omega (arith, of_routes, of_services, scaled, scaled_too, split, joined, sum)

  module _ (entries : ℕ → List RipEntry) (services : ℕ → List Service) (written : (j : ℕ) → AllByRecursion (Writable AnyEntry) (entries j))
      (tellable : (j : ℕ) → AllByRecursion (Tellable AnyService) (services j)) where
    pub on_ports : (js : List ℕ) → AllByRecursion (λ j. j < length ports) js
        → sum_by (w net most_routes most_services) (flat_map (deliveries_of net router) (flat_map (λ j. broadcasts ports j (entries j) (services j)) js))
        ≤ others * (sum_by (λ j. routes_told net (entries j)) js + sum_by (λ j. services_told net (services j)) js)
    on_ports [] all = omega arith
    on_ports (j ∷ js) all =
        let sends = λ (j : ℕ). broadcasts ports j (entries j) (services j) in
        let one = on_port j all.0 (entries j) (services j) (written j) (tellable j) in
        let rest = on_ports js all.1 in
        let joined = ap (sum_by (w net most_routes most_services)) (flat_map-append (deliveries_of net router) (sends j) (flat_map sends js)) in
        let sum = sum_by-append (w net most_routes most_services) (flat_map (deliveries_of net router) (sends j)) (flat_map (deliveries_of net router) (flat_map sends js)) in
        let routes = sum_by-cons (λ j. routes_told net (entries j)) j js in
        let of_services = sum_by-cons (λ j. services_told net (services j)) j js in
        let here = routes_told net (entries j) + services_told net (services j) in
        let later = sum_by (λ j. routes_told net (entries j)) js + sum_by (λ j. services_told net (services j)) js in
        let whole : sum_by (λ j. routes_told net (entries j)) (j ∷ js) + sum_by (λ j. services_told net (services j)) (j ∷ js) ≡ here + later = omega (arith, routes, of_services) in
        let scaled = ap (λ (n : ℕ). others * n) whole in
        let split = mul-add others here later in
        omega (arith, one, rest, joined, sum, scaled, split)
