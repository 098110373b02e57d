use Rattle.std.proofs.Common.{◌≡◌, refl, sym, ◌∙◌, subst, ℕ, ◌+◌, ◌<◌, ◌≤◌, true, List, [], ◌++◌, length, arith}
use Rattle.std.specs.List.{AllByRecursion}
use Rattle.ipx_wire.specs.declared.network.Network.{Network}
use Rattle.ipx_router.specs.History.{History}
use Rattle.ipx_router.specs.Numbers.{period}
use Rattle.ipx_router.specs.Port.{is_up}
use Rattle.ipx_router.proofs.port_values.PortOfEachNumber.{one_up}
use Rattle.ipx_internet.specs.BusyTick.{IsBusyTick}
use Rattle.ipx_internet.specs.Internet.{Internet, IsInternet, NodesDiffer, ports_of}
use Rattle.ipx_internet.specs.Run.{Step, Run, AreHistories, begun}
use Rattle.ipx_internet.specs.Ticks.{IsTick, AreTicks, ticked}
use Rattle.ipx_internet.proofs.trees.RunIsALog.{router_there}
use Rattle.ipx_laws.specs.Apart.{HasRoomBeside}
use Rattle.ipx_laws.specs.Departure.{departures}
use Rattle.ipx_laws.specs.Gone.{most_ticks_gone}
use Rattle.ipx_laws.specs.Least.{AreCheap, HasRoom, FifteenSuffice, most_ticks_right}
use Rattle.ipx_laws.specs.Meanwhile.{AreCalmTicks}
use Rattle.ipx_laws.specs.Setting.{IsSetting}
use Rattle.ipx_laws.specs.Tables.{AreReal}
use Rattle.ipx_laws.specs.Upkeep.{IsOfUpkeep, has, TablesStay, ServicesStay, steps_of, sent_by, all_pages}
use Rattle.ipx_laws.specs.Ups.{ups}
use Rattle.ipx_laws.proofs.laws.costs.tables_stay.Goals as goal
use Rattle.ipx_laws.proofs.laws.costs.tables_stay.Goals.{After-upkeep}
use Rattle.ipx_laws.proofs.tables.AnyTablesBecomeRight.{from_any, from_real}
use Rattle.ipx_laws.proofs.tables.AnEmptyList.{beside_none, real_beside}
use Rattle.ipx_laws.proofs.tables.LeastWays.{ups_within}
use Rattle.ipx_laws.proofs.tables.TablesAreRight.{parts_of}
use Rattle.ipx_laws.proofs.ticks.NoServiceInTicks.{NoService, stays_none, from_any as none_from_any, at_once}
use Rattle.ipx_laws.proofs.ticks.TickAfterTick.{IsCalmTick, CalmTicks, Rests, calm_ticks, ticks_are_calm, rested}
use Rattle.ipx_laws.proofs.upkeep.TablesStayInTicks.{tables_stay_in}
use Rattle.ipx_laws.proofs.upkeep.TicksAreOfUpkeep.{are_of_upkeep, seconds_in}

-- whichever that is
any_network : Network
any_network = record { 0 = 0 }

module _ (c : After-upkeep) (net : Internet) (most_routes most_services : ℕ) (histories : List History) (ticks further : List (List Step))
    (settings : (network : Network) → IsSetting net most_routes histories network) where
  is : IsInternet net
  is = (settings any_network).0

  differ : NodesDiffer net
  differ = (settings any_network).1

  suffice : (network : Network) → FifteenSuffice net (ups net histories) network
  suffice network = (settings network).2

  cheap : AreCheap net
  cheap = (settings any_network).3

  room : HasRoom net most_routes
  room = (settings any_network).4

  -- with an empty list
  room_beside : HasRoomBeside net most_routes []
  room_beside = beside_none net most_routes room

  are : AreHistories net histories
  are = (settings any_network).5

  abbrev run : Run
  run = ticked net most_routes most_services (begun histories) ticks

  abbrev Calm : List (List Step) → Type 0
  Calm = CalmTicks net most_routes most_services [] (begun histories)

  abbrev Services : Type 0
  Services = ServicesStay net most_routes most_services run.histories run (steps_of further)

  abbrev Tables : Type 0
  Tables = TablesStay net most_routes most_services run.histories run (steps_of further)

  -- from any tables, and from real routes
  stay_then : Calm (ticks ++ further) → most_ticks_right ≤ length ticks → Services → Tables
  stay_then calm long services =
      let parts = parts_of net most_routes most_services (IsCalmTick net most_routes most_services []) (begun histories) ticks further calm in
      tables_stay_in net c.layouts.ensures is differ cheap (ups net histories) (ups_within net histories) most_routes most_services room_beside suffice
      (λ ports history. c.tables.ensures.routes_rise ports most_routes history) (length ticks) long run further
      (λ network. from_any net c.layouts.ensures is differ cheap most_routes most_services [] room_beside network refl (begun histories) are (suffice network) []
      ticks (tt, tt, refl) tt parts.0
      (omega (arith, long)))
      parts.1 services

  stay_sooner : AreReal net most_routes histories (ups net histories) → Calm (ticks ++ further) → period ≤ length ticks → Services → Tables
  stay_sooner real calm long services =
      let parts = parts_of net most_routes most_services (IsCalmTick net most_routes most_services []) (begun histories) ticks further calm in
      tables_stay_in net c.layouts.ensures is differ cheap (ups net histories) (ups_within net histories) most_routes most_services room_beside suffice
      (λ ports history. c.tables.ensures.routes_rise ports most_routes history) (length ticks + most_ticks_gone) (omega (arith, long)) run further
      (λ network. from_real net c.layouts.ensures is differ cheap most_routes most_services [] room_beside network refl (begun histories) are (suffice network)
      ticks refl parts.0
      (real_beside net most_routes histories (ups net histories) [] real))
      parts.1 services

  -- ---- what is sent in a minute

  module _ (all_calm : AreCalmTicks net most_routes most_services (begun histories) (ticks ++ further)) where
    abbrev both_calm : Calm ticks × CalmTicks net most_routes most_services [] run further
    both_calm =
        parts_of net most_routes most_services (IsCalmTick net most_routes most_services []) (begun histories) ticks further
        (calm_ticks net most_routes most_services [] (begun histories) (ticks ++ further) all_calm)

    rests : Rests net c.layouts.ensures is most_routes most_services (ups net histories) [] (length ticks) run
    rests = rested net c.layouts.ensures is most_routes most_services (ups net histories) [] (begun histories) ticks are (λ router. refl) refl both_calm.0

    minute_then : (router number : ℕ) → AllByRecursion (IsOfUpkeep net) (steps_of further) → length further ≡ period → is_up (ups net histories router) number ≡ true
        → Tables → sent_by router number (departures net most_routes most_services run (steps_of further))
        ≡ all_pages (ports_of net router) (has net most_routes most_services run.histories router) number
    minute_then router number of_upkeep sixty on stay =
        let place = one_up (λ j. j < length (ports_of net router)) (ups net histories router) number (ups_within net histories router) on in
        let inside = router_there net router number place in
        let on_now : is_up (ups net run.histories router) number ≡ true =
        subst (λ (us : List ℕ). is_up us number ≡ true) (sym (rests.routers router inside).ups) on in
        c.upkeep.ensures.pages net most_routes most_services run (steps_of further) router number is rests.are rests.quiet of_upkeep stay
        (seconds_in net most_routes most_services router inside run further
        (parts_of net most_routes most_services (IsBusyTick net most_routes most_services) (begun histories) ticks further all_calm.0.0).1 ∙ sixty) on_now

  -- ---- where nothing but ticks happens

  module _ (passes : AreTicks net most_routes most_services (begun histories) (ticks ++ further)) where
    abbrev parts : AreTicks net most_routes most_services (begun histories) ticks × AreTicks net most_routes most_services run further
    parts = parts_of net most_routes most_services (IsTick net most_routes most_services) (begun histories) ticks further passes

    calm : Calm (ticks ++ further)
    calm =
        calm_ticks net most_routes most_services [] (begun histories) (ticks ++ further)
        (ticks_are_calm net most_routes most_services (begun histories) (ticks ++ further) passes)

    alone_then : most_ticks_right ≤ length ticks → Tables
    alone_then long =
        stay_then calm long (stays_none net c.layouts.ensures is most_routes most_services (length ticks + 0) (omega (arith, long)) run further
        (none_from_any net c.layouts.ensures is most_routes most_services histories are ticks parts.0) parts.1)

    alone_soon : AreReal net most_routes histories (ups net histories) → NoService net c.layouts.ensures is most_routes most_services histories → period ≤ length ticks → Tables
    alone_soon real none long =
        stay_sooner real calm long (stays_none net c.layouts.ensures is most_routes most_services (length ticks + most_ticks_gone) (omega (arith, long)) run further
        (at_once net c.layouts.ensures is most_routes most_services histories are none ticks parts.0) parts.1)

    ticks_of_upkeep : AllByRecursion (IsOfUpkeep net) (steps_of further)
    ticks_of_upkeep = are_of_upkeep net most_routes most_services run further parts.1

pub returns-clause-stay : goal.returns-clause-stay
returns-clause-stay c net most_routes most_services histories ticks further settings calm long services =
    stay_then c net most_routes most_services histories ticks further settings
    (calm_ticks net most_routes most_services [] (begun histories) (ticks ++ further) calm) long services

pub returns-clause-sooner : goal.returns-clause-sooner
returns-clause-sooner c net most_routes most_services histories ticks further settings real calm long services =
    stay_sooner c net most_routes most_services histories ticks further settings real
    (calm_ticks net most_routes most_services [] (begun histories) (ticks ++ further) calm) long services

pub returns-clause-alone : goal.returns-clause-alone
returns-clause-alone c net most_routes most_services histories ticks further settings passes long =
    alone_then c net most_routes most_services histories ticks further settings passes long

pub returns-clause-alone_sooner : goal.returns-clause-alone_sooner
returns-clause-alone_sooner c net most_routes most_services histories ticks further settings real none passes long =
    alone_soon c net most_routes most_services histories ticks further settings passes real none long

pub returns-clause-minute : goal.returns-clause-minute
returns-clause-minute c net most_routes most_services histories ticks further router number settings passes long sixty on =
    minute_then c net most_routes most_services histories ticks further settings
    (ticks_are_calm net most_routes most_services (begun histories) (ticks ++ further) passes) router number
    (ticks_of_upkeep c net most_routes most_services histories ticks further settings passes) sixty on
    (alone_then c net most_routes most_services histories ticks further settings passes long)

pub returns-clause-minute_meanwhile : goal.returns-clause-minute_meanwhile
returns-clause-minute_meanwhile c net most_routes most_services histories ticks further router number settings calm of_upkeep sixty long on
    services =
    minute_then c net most_routes most_services histories ticks further settings calm router number of_upkeep sixty on
    (stay_then c net most_routes most_services histories ticks further settings
    (calm_ticks net most_routes most_services [] (begun histories) (ticks ++ further) calm) long services)
