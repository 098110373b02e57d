-- What a router answers to a request or a query weighs less than that: it goes to one port, and holds no more than the tables.
use Rattle.std.proofs.Common.{◌≡◌, refl, sym, ap, ℕ, ◌+◌, ◌-◌, ◌*◌, ◌/◌, ◌<◌, ◌≤◌, ◌==◌, min, if◌then◌else◌, Bool, true, false, List, [], ◌∷◌, ◌++◌, length, map, filter, flat_map, inl, inr, arith, length-append, mul-le-mul_right, add-mul, one-mul}
use Rattle.std.specs.List.{AllByRecursion, sum_by}
use Rattle.std.proofs.lemmas.Bool.{cases_Bool, cases_lt, lt-ltb, le-ltb}
use Rattle.std.proofs.lemmas.List.Sums.{sum_by-cons}
use Rattle.ipx_wire.specs.declared.address.Address.{Address}
use Rattle.ipx_wire.specs.declared.rip.Operation.TheVariants.{Response}
use Rattle.ipx_wire.specs.declared.rip.RipEntry.{RipEntry}
use Rattle.ipx_wire.specs.declared.service.Service.{Service}
use Rattle.ipx_router.specs.Numbers.{rip_socket, sap_socket, entries_a_page, services_a_page}
use Rattle.ipx_router.specs.Pages.{pages_from, pages}
use Rattle.ipx_router.specs.Port.{Port, IsPort, broadcast, port_at, same_node, reply_to, own_address, own_services}
use Rattle.ipx_router.specs.Sends.{rip_sends, sap_sends, is_nearer, nearest_of}
use Rattle.ipx_router.specs.Told.{network_before, name_before, is_service_told, told_at, direct, learned, told, farther, told_services}
use Rattle.ipx_router.specs.declared.route_offer.RouteOffer.{RouteOffer}
use Rattle.ipx_router.specs.declared.service_offer.ServiceOffer.{ServiceOffer}
use Rattle.ipx_router.proofs.bytes.FieldsAreBytes.{IsPlace as IsWritten}
use Rattle.ipx_router.proofs.lists.EachElement.{all_sorted}
use Rattle.ipx_router.proofs.sending.OwnPacketsAreValid.{Writable, reply_is}
use Rattle.ipx_router.proofs.lists.CountOfPages.{length-pages, room_left, page_full}
use Rattle.ipx_router.proofs.lists.ItemsOfPages.{all_pages}
use Rattle.ipx_router.proofs.port_values.PortOfEachNumber.{port-all}
use Rattle.ipx_internet.specs.Delivery.{receives, delivered}
use Rattle.ipx_internet.specs.Internet.{Internet, Place, IsInternet, IsPlace, NodesDiffer, ports_of}
use Rattle.ipx_internet.specs.InternetWeight.{entry_weight, routes_weight, entries_a_service, most_answered, request_weight, query_weight}
use Rattle.ipx_internet.specs.Queue.{deliveries_of}
use Rattle.ipx_internet.proofs.lists.EachElement.{all_of, all_then, all-map, at_most_one}
use Rattle.ipx_internet.proofs.packets.PagesReadAgain.{Tellable}
use Rattle.ipx_internet.proofs.packets.SentOnOrReply.{Layouts}
use Rattle.ipx_internet.proofs.packets.SentOnReadAgain.{Wire}
use Rattle.ipx_internet.proofs.places.EachPortOnce.{delivered_within, delivered_differ}
use Rattle.ipx_internet.proofs.places.OneReceiverOfANode.{ports_at, receives_is, one_receiver}
use Rattle.ipx_internet.proofs.weights.PagesAtEitherProcess.{IsTold, IsToldService, short, rip_page_lands, sap_page_lands, nearest_lands}
use Rattle.ipx_internet.proofs.weights.PagesAtTheirProcess.{w, farther_lighter, pages_land, lists_land}
use Rattle.ipx_internet.proofs.weights.PagesWeighTheirItems.{sum_one_more, sum_few, paged}

-- ---- what is told

module _ (ports : List Port) (are : AllByRecursion IsPort ports) (number : ℕ) (within : number < length ports) where
  told_so : (e : RipEntry) → IsTold (told_at (port_at ports number).cost e)
  told_so e = grind (arith, port-all, cases_lt, lt-ltb, le-ltb)

  pub all_told : (up : List ℕ) (routes : List RouteOffer) → AllByRecursion IsTold (told ports up routes number)
  all_told up routes =
      let items = direct ports up number ++ learned routes number in
      all_sorted IsTold network_before (map (told_at (port_at ports number).cost) items)
      (all-map (λ e. Unit {0}) IsTold (told_at (port_at ports number).cost) (λ e any. told_so e) items (all_of (λ e. Unit {0}) (λ e. tt) items))

pub all_told_services : (services : List ServiceOffer) (number : ℕ) → AllByRecursion IsToldService (told_services services number)
all_told_services services number =
    let passed = filter (is_service_told number) services in
    all_sorted IsToldService name_before (map (λ s. farther s.service) passed)
    (all-map (λ s. Unit {0}) IsToldService (λ s. farther s.service) (λ s any. omega arith) passed (all_of (λ s. Unit {0}) (λ s. tt) passed))

-- the nearest of services is one of them, alone
pub nearest_such : (P : Service → Type 0) (services : List Service) → AllByRecursion P services → AllByRecursion P (nearest_of services)
nearest_such P [] all = tt
nearest_such P (service ∷ services) all = nearer (nearest_of services) (nearest_such P services all.1)
  where
    nearer : (found : List Service) → AllByRecursion P found → AllByRecursion P (elim found [
      | [] ↦ service ∷ []
      | ◌∷◌ best rest ↦ if is_nearer best service then best ∷ [] else service ∷ []
    ])
    nearer [] some = (all.0, tt)
    nearer (best ∷ rest) some = elim (cases_Bool (is_nearer best service)) [
      | inl e ↦ rw e (some.0, tt)
      | inr e ↦ rw e (all.0, tt)
    ]

pub one_nearest : (services : List Service) → length (nearest_of services) ≤ 1
one_nearest [] = omega arith
one_nearest (service ∷ services) = nearer (nearest_of services)
  where
    nearer : (found : List Service) → length {A = Service} (elim found [
      | [] ↦ service ∷ []
      | ◌∷◌ best rest ↦ if is_nearer best service then best ∷ [] else service ∷ []
    ]) ≤ 1
    nearer [] = omega arith
    nearer (best ∷ rest) = elim (cases_Bool (is_nearer best service)) [
      | inl e ↦ rw e (omega arith)
      | inr e ↦ rw e (omega arith)
    ]

-- ---- sums over pages

-- parts of pages are no more than of the whole
parts_few : {X : Type 0} (f : X → ℕ) (xs : List X) → sum_by (λ x. f x / 8) xs ≤ sum_by f xs / 8
parts_few f [] = omega arith
parts_few f (x ∷ xs) =
    let rest = parts_few f xs in
    let one = sum_by-cons (λ x. f x / 8) x xs in
    let other = sum_by-cons f x xs in
    omega (arith, rest, one, other)

sum_scaled : {X : Type 0} (f : X → ℕ) (each : ℕ) (xs : List X) → sum_by (λ x. f x * each) xs ≡ sum_by f xs * each
sum_scaled f each [] = omega arith
sum_scaled f each (x ∷ xs) =
    let rest = sum_scaled f each xs in
    let one = sum_by-cons (λ x. f x * each) x xs in
    let other = ap (λ (n : ℕ). n * each) (sum_by-cons f x xs) in
    let split = add-mul (f x) (sum_by f xs) each in
    omega (arith, rest, one, other, split)

sum_ones : {X : Type 0} (xs : List X) → sum_by (λ x. 1) xs ≡ length xs
sum_ones [] = omega arith
sum_ones (x ∷ xs) =
    let rest = sum_ones xs in
    let one = sum_by-cons (λ x. 1) x xs in
    omega (arith, rest, one)

sum_same : {X : Type 0} (f g : X → ℕ) → ((x : X) → f x ≡ g x) → (xs : List X) → sum_by f xs ≡ sum_by g xs
sum_same f g same xs = grind arith

-- pages hold all items
items_of : {X : Type 0} (n : ℕ) (xs : List X) → 0 < n → sum_by (λ page. length page) (pages n xs) ≡ length xs
items_of n xs some =
    let all = paged (λ x. 1) n xs some in
    let ones = sum_ones xs in
    let same = sum_same (λ page. length page) (λ page. sum_by (λ x. 1) page) (λ page. sym (sum_ones page)) (pages n xs) in
    omega (arith, all, ones, same)

-- no page but the last is short
short_page : (page : List Service) → length page < services_a_page → short page ≡ length page
short_page page less = rw (lt-ltb (length page) services_a_page less) refl

full_page : (page : List Service) → services_a_page ≤ length page → short page ≡ 0
full_page page full = rw (le-ltb (length page) services_a_page full) refl

short_from : (page xs : List Service) → length page ≤ services_a_page → sum_by short (pages_from services_a_page page xs) ≤ min (services_a_page - 1) (length page + length xs)
short_from [] [] few = omega arith
short_from (p ∷ page) [] few =
    let one = sum_by-cons short (p ∷ page) [] in
    elim (cases_lt (length (p ∷ page)) services_a_page) [
      | inl less ↦ let all = short_page (p ∷ page) less in omega (arith, one, all, less)
      | inr full ↦ let none = full_page (p ∷ page) full in omega (arith, one, none)
    ]
short_from [] (x ∷ xs) few =
    let next = ap (sum_by short) (room_left services_a_page [] x xs (omega arith)) in
    let rest = short_from (x ∷ []) xs (omega arith) in
    omega (arith, next, rest)
short_from (p ∷ page) (x ∷ xs) few = elim (cases_lt (length (p ∷ page)) services_a_page) [
  | inl room ↦
      let next = ap (sum_by short) (room_left services_a_page (p ∷ page) x xs room) in
      let longer = length-append (p ∷ page) (x ∷ []) in
      let rest = short_from ((p ∷ page) ++ x ∷ []) xs (omega (arith, longer, room)) in
      omega (arith, next, rest, longer)
  | inr full ↦
      let next = ap (sum_by short) (page_full services_a_page p page x xs full) in
      let first = sum_by-cons short (p ∷ page) (pages_from services_a_page (x ∷ []) xs) in
      let none = full_page (p ∷ page) full in
      let rest = short_from (x ∷ []) xs (omega arith) in
      omega (arith, next, first, none, rest)
]

-- ---- answers

module _ (wire : Wire) (net : Internet) (laws : Layouts) (is : IsInternet net) (differ : NodesDiffer net) (most_routes most_services router number : ℕ)
    (within : number < length (ports_of net router)) (source : Address) (one : same_node source.node broadcast ≡ false) (source_is : IsWritten source) where
  abbrev ports : List Port
  ports = ports_of net router

  abbrev to : Address
  to = reply_to (port_at ports number) source

  is_port : IsPort (port_at ports number)
  is_port = port-all IsPort ports number (ports_at net is router) within

  from : Place
  from = record { router = router; port = number }

  single : length (delivered net (record { router = router; port = number }) source.node) ≤ 1
  single =
      let from : Place = record { router = router; port = number } in
      at_most_one (λ to. IsPlace net to × (receives net from source.node to ≡ true))
      (λ a b on_a on_b. one_receiver wire net is differ from source.node a b one on_a.0 on_b.0 (receives_is net from source.node a on_a.1) (receives_is net from source.node b on_b.1))
      (delivered net from source.node) (delivered_within net from source.node) (delivered_differ net from source.node)

  -- entries of routes
  pub entries_answer : (entries : List RipEntry) → AllByRecursion (Writable IsTold) entries → length entries ≤ most_answered net most_routes
      → sum_by (w net most_routes most_services) (flat_map (deliveries_of net router) (rip_sends ports number to Response entries)) + 1
      ≤ request_weight net most_routes source.socket.0
  entries_answer entries all few =
      let most = most_answered net most_routes in
      let ps = pages entries_a_page entries in
      let land = pages_land net most_routes most_services router laws is number within to (reply_is (port_at ports number) source is_port source_is) refl 1 single IsTold
      (λ page. 1 + read_as page) (λ page is_page says. rip_page_lands net most_routes most_services (own_address (port_at ports number)) to page is_page says)
      ps (all_pages (Writable IsTold) entries_a_page (omega arith) entries all) in
      let times = one-mul (sum_by (λ page. 1 + read_as page) ps) in
      let each = sum_one_more read_as ps in
      let count = length-pages entries_a_page most entries (omega arith) few in
      let read = by_socket in
      omega (arith, land, times, each, count, read)
    where
      read_as : List RipEntry → ℕ
      read_as page =
          if source.socket.0 == rip_socket then routes_weight net page
          else if source.socket.0 == sap_socket then (length page / entries_a_service) * entry_weight net 1
          else 0

      by_socket : sum_by read_as (pages entries_a_page entries)
          ≤ (if source.socket.0 == rip_socket then most_answered net most_routes * entry_weight net 1
          else if source.socket.0 == sap_socket then (most_answered net most_routes / entries_a_service) * entry_weight net 1
          else 0)
      by_socket = by (source.socket.0 == rip_socket) (source.socket.0 == sap_socket)
        where
          by : (rip sap : Bool)
              → sum_by (λ page. if rip then routes_weight net page else if sap then (length page / entries_a_service) * entry_weight net 1 else 0) (pages entries_a_page entries)
              ≤ (if rip then most_answered net most_routes * entry_weight net 1
              else if sap then (most_answered net most_routes / entries_a_service) * entry_weight net 1
              else 0)
          by true sap =
              let all_pages_have = paged (λ (e : RipEntry). entry_weight net e.hops) entries_a_page entries (omega arith) in
              let light = sum_few (λ (e : RipEntry). entry_weight net e.hops) (entry_weight net 1) entries
              (all_then (Writable IsTold) (λ e. entry_weight net e.hops ≤ entry_weight net 1) (λ e told. farther_lighter net 1 e.hops told.1.0) entries all) in
              let more = mul-le-mul_right (entry_weight net 1) few in
              omega (arith, all_pages_have, light, more)
          by false true =
              let ps = pages entries_a_page entries in
              let scaled = sum_scaled (λ (page : List RipEntry). length page / 8) (entry_weight net 1) ps in
              let parts = parts_few (λ (page : List RipEntry). length page) ps in
              let items = items_of entries_a_page entries (omega arith) in
              let fewer : sum_by (λ (page : List RipEntry). length page / 8) ps ≤ most_answered net most_routes / 8 = omega (arith, parts, items, few) in
              let more = mul-le-mul_right (entry_weight net 1) fewer in
              omega (arith, scaled, more)
          by false false = nothing (pages entries_a_page entries)
            where
              nothing : (ps : List (List RipEntry)) → sum_by (λ page. 0) ps ≤ 0
              nothing [] = omega arith
              nothing (p ∷ ps) = let rest = nothing ps in let one = sum_by-cons (λ (page : List RipEntry). 0) p ps in omega (arith, rest, one)

  -- services of a type
  pub services_answer : (services : List Service) → AllByRecursion (Tellable IsToldService) services → length services ≤ most_services
      → sum_by (w net most_routes most_services) (flat_map (deliveries_of net router) (sap_sends ports number to false services)) + 1
      ≤ query_weight net most_services false source.socket.0
  services_answer services all few =
      let ps = pages services_a_page services in
      let land = lists_land net most_routes most_services router laws is number within to (reply_is (port_at ports number) source is_port source_is) refl 1 single IsToldService false
      (λ page. 1 + read_as page) (λ page is_page says. sap_page_lands net most_routes most_services (own_services (port_at ports number)) to page is_page says)
      ps (all_pages (Tellable IsToldService) services_a_page (omega arith) services all) in
      let times = one-mul (sum_by (λ page. 1 + read_as page) ps) in
      let each = sum_one_more read_as ps in
      let count = length-pages services_a_page most_services services (omega arith) few in
      let read = by_socket in
      omega (arith, land, times, each, count, read)
    where
      read_as : List Service → ℕ
      read_as page =
          if source.socket.0 == rip_socket then (short page * entries_a_service) * entry_weight net 0
          else if source.socket.0 == sap_socket then sum_by (λ s. entry_weight net s.hops) page
          else 0

      by_socket : sum_by read_as (pages services_a_page services)
          ≤ (if source.socket.0 == rip_socket then (min (services_a_page - 1) most_services * entries_a_service) * entry_weight net 0
          else if source.socket.0 == sap_socket then most_services * entry_weight net 1
          else 0)
      by_socket = by (source.socket.0 == rip_socket) (source.socket.0 == sap_socket)
        where
          by : (rip sap : Bool)
              → sum_by (λ page. if rip then (short page * entries_a_service) * entry_weight net 0 else if sap then sum_by (λ s. entry_weight net s.hops) page else 0) (pages services_a_page services)
              ≤ (if rip then (min (services_a_page - 1) most_services * entries_a_service) * entry_weight net 0
              else if sap then most_services * entry_weight net 1
              else 0)
          by true sap =
              let ps = pages services_a_page services in
              let scaled = sum_scaled (λ (page : List Service). short page * entries_a_service) (entry_weight net 0) ps in
              let eight = sum_scaled short entries_a_service ps in
              let shorts = short_from [] services (omega arith) in
              let fewer : sum_by (λ (page : List Service). short page * entries_a_service) ps ≤ min (services_a_page - 1) most_services * entries_a_service =
              omega (arith, eight, shorts, few) in
              let more = mul-le-mul_right (entry_weight net 0) fewer in
              omega (arith, scaled, more)
          by false true =
              let all_pages_have = paged (λ (s : Service). entry_weight net s.hops) services_a_page services (omega arith) in
              let light = sum_few (λ (s : Service). entry_weight net s.hops) (entry_weight net 1) services
              (all_then (Tellable IsToldService) (λ s. entry_weight net s.hops ≤ entry_weight net 1) (λ s told. farther_lighter net 1 s.hops told.1) services all) in
              let more = mul-le-mul_right (entry_weight net 1) few in
              omega (arith, all_pages_have, light, more)
          by false false = nothing (pages services_a_page services)
            where
              nothing : (ps : List (List Service)) → sum_by (λ page. 0) ps ≤ 0
              nothing [] = omega arith
              nothing (p ∷ ps) = let rest = nothing ps in let one = sum_by-cons (λ (page : List Service). 0) p ps in omega (arith, rest, one)

  -- the nearest service
  pub nearest_answer : (services : List Service) → AllByRecursion (Tellable IsToldService) services → length services ≤ 1
      → sum_by (w net most_routes most_services) (flat_map (deliveries_of net router) (sap_sends ports number to true services)) + 1 ≤ query_weight net most_services true source.socket.0
  nearest_answer services all few =
      let ps = pages services_a_page services in
      let land = lists_land net most_routes most_services router laws is number within to (reply_is (port_at ports number) source is_port source_is) refl 1 single IsToldService true
      (λ page. 1) (λ page is_page says. nearest_lands net most_routes most_services (own_services (port_at ports number)) to page)
      ps (all_pages (Tellable IsToldService) services_a_page (omega arith) services all) in
      let times = one-mul (sum_by (λ (page : List Service). 1) ps) in
      let ones = sum_ones ps in
      let count = length-pages services_a_page 1 services (omega arith) few in
      omega (arith, land, times, ones, count)
