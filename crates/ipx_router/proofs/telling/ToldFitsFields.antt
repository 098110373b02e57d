-- What is told on a port fits into the fields of a packet.
use Rattle.std.proofs.Common.{◌≡◌, ℕ, ◌+◌, ◌-◌, ◌<◌, ◌^◌, ◌==◌, ◌&&◌, not, true, Bool, lit<, length, List, ◌++◌, map, filter, arith, inl, inr}
use Rattle.std.specs.List.{AllByRecursion}
use Rattle.std.proofs.lemmas.Bool.{cases_lt, lt-ltb, le-ltb, ltb-true}
use Rattle.ipx_wire.specs.Rip.{IsEntry}
use Rattle.ipx_wire.specs.declared.rip.RipEntry.{RipEntry}
use Rattle.ipx_wire.specs.declared.service.Service.{Service}
use Rattle.ipx_router.specs.Numbers.{unreachable, most_ticks}
use Rattle.ipx_router.specs.Port.{Port, IsPort, port_at}
use Rattle.ipx_router.specs.Told.{network_before, name_before, by_network, by_name, is_reached_on, told_at, dead, farther, dead_service, direct_entry, direct, entry_of, is_route_told, told, is_service_told, told_services}
use Rattle.ipx_router.specs.declared.route_offer.RouteOffer.{RouteOffer}
use Rattle.ipx_router.specs.declared.service_offer.ServiceOffer.{ServiceOffer}
use Rattle.ipx_router.proofs.bytes.FieldsAreBytes.{IsTellable}
use Rattle.ipx_router.proofs.lists.EachElement.{all-filter, all_passed, all_sorted, all-map}
use Rattle.ipx_router.proofs.tables.HeldFitsFields.{RouteFits, ServiceFits}
use Rattle.ipx_router.proofs.port_values.PortOfEachNumber.{port-all}
use Rattle.ipx_router.proofs.tables.HeldWasOffered.{all-append}

-- ---- in order

pub by_network_fit : (entries : List RipEntry) → AllByRecursion IsEntry entries → AllByRecursion IsEntry (by_network entries)
by_network_fit entries all = all_sorted IsEntry network_before entries all

pub by_name_fit : (services : List Service) → AllByRecursion IsTellable services → AllByRecursion IsTellable (by_name services)
by_name_fit services all = all_sorted IsTellable name_before services all

-- ---- one hop farther, or gone

-- what is reached from the next router on, one hop farther
abbrev pub IsNear : ℕ → Type 0
IsNear hops = hops + 1 < unreachable

-- an entry that fits and is still reached from the next router on
abbrev pub IsReached : RipEntry → Type 0
IsReached entry = IsEntry entry × IsNear entry.hops

pub reached : (hops : ℕ) → is_reached_on hops ≡ true → IsNear hops
reached hops e = omega (arith, ltb-true hops (unreachable - 1) e)

pub told_at_fits : (cost : ℕ) (entry : RipEntry) → IsReached entry → IsEntry (told_at cost entry)
told_at_fits cost entry is = record { network = is.0.network; hops = omega (arith, is.1); ticks = ticks }
  where
    ticks : (told_at cost entry).ticks < 2 ^ 16
    ticks = elim (cases_lt (entry.ticks + cost) most_ticks) [
      | inl below ↦ rw (lt-ltb (entry.ticks + cost) most_ticks below) (omega (arith, below))
      | inr over ↦ rw (le-ltb (entry.ticks + cost) most_ticks over) (lit< tt)
    ]

pub dead_fits : (entry : RipEntry) → IsEntry entry → IsEntry (dead entry)
dead_fits entry is = record { network = is.network; hops = lit< tt; ticks = lit< tt }

pub farther_fits : (service : Service) → IsTellable service → IsNear service.hops → IsTellable (farther service)
farther_fits service is near = grind arith

pub down_fits : (service : Service) → IsTellable service → IsTellable (dead_service service)
down_fits service is = grind arith

-- ---- routes

second_passes : (x y : Bool) → (x && y) ≡ true → y ≡ true
second_passes x y e = grind arith

module _ (ports : List Port) (are : AllByRecursion IsPort ports) where
  pub direct_fits : (other : ℕ) → other < length ports → IsReached (direct_entry ports other)
  direct_fits other within = grind (arith, port-all)

  pub told_fits : (up : List ℕ) (routes : List RouteOffer) (number : ℕ) → AllByRecursion (λ j. j < length ports) up → AllByRecursion RouteFits routes
      → AllByRecursion IsEntry (told ports up routes number)
  told_fits up routes number within all =
      let cost = (port_at ports number).cost in
      let others = filter (λ other. not (other == number)) up in
      let learned = map entry_of (filter (is_route_told number) routes) in
      let heard : AllByRecursion IsReached learned =
      all-map (λ r. RouteFits r × (is_route_told number r ≡ true)) IsReached entry_of
      (λ r is. (is.0, reached r.hops (second_passes (not (r.port == number)) (is_reached_on r.hops) is.1)))
      (filter (is_route_told number) routes) (all_passed RouteFits (is_route_told number) routes all) in
      let own : AllByRecursion IsReached (direct ports up number) =
      all-map (λ other. other < length ports) IsReached (direct_entry ports) direct_fits others
      (all-filter (λ other. other < length ports) (λ other. not (other == number)) up within) in
      by_network_fit (map (told_at cost) (direct ports up number ++ learned))
      (all-map IsReached IsEntry (told_at cost) (told_at_fits cost) (direct ports up number ++ learned)
      (all-append IsReached (direct ports up number) learned own heard))

-- ---- services

pub told_services_fit : (services : List ServiceOffer) (number : ℕ) → AllByRecursion ServiceFits services
    → AllByRecursion IsTellable (told_services services number)
told_services_fit services number all =
    let passed = all_passed ServiceFits (is_service_told number) services all in
    by_name_fit (map (λ s. farther s.service) (filter (is_service_told number) services))
    (all-map (λ s. ServiceFits s × (is_service_told number s ≡ true)) IsTellable (λ s. farther s.service)
    (λ s is. farther_fits s.service is.0 (reached s.service.hops (second_passes (not (s.port == number)) (is_reached_on s.service.hops) is.1)))
    (filter (is_service_told number) services) passed)
