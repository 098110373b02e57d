use Rattle.std.proofs.Common.{◌≡◌, sym, subst, ◌+◌, ◌≤◌, ◌++◌, length, arith, refl}
use Rattle.ipx_internet.specs.Run.{Run, run_of}
use Rattle.ipx_internet.specs.Ticks.{ticked}
use Rattle.ipx_laws.specs.Gone.{most_ticks_gone}
use Rattle.ipx_laws.specs.Least.{least_route, ticks_right}
use Rattle.ipx_laws.specs.Tables.{route_of}
use Rattle.ipx_laws.specs.Upkeep.{steps_of}
use Rattle.ipx_laws.specs.Ups.{ups}
use Rattle.ipx_laws.proofs.laws.apart.right_apart.Goals as goal
use Rattle.ipx_laws.proofs.tables.AnyTablesBecomeRight.{here, from_any, from_real}
use Rattle.ipx_laws.proofs.tables.RoutesStayAtEachStep.{routes_stay, route_stays_in}
use Rattle.ipx_laws.proofs.tables.TablesAreRight.{some_ticks, table_is, stays, parts_of, ticked_on}
use Rattle.ipx_laws.proofs.ticks.TickAfterTick.{IsCalmTick, ticks_beside}

pub returns-clause-tables : goal.returns-clause-tables
returns-clause-tables c net most_routes most_services foreign run first ticks router network (is, differ, suffice, cheap, room, are, unlisted)
    (rest, leaves, calm) inside sure =
    let next = run_of net most_routes most_services run first in
    let long = some_ticks (least_route net (ups net run.histories) router network) (length ticks) sure in
    table_is (here net c.layouts.ensures is differ cheap most_routes most_services foreign room network unlisted run are suffice) (length ticks)
    (ticked net most_routes most_services next ticks)
    (from_any net c.layouts.ensures is differ cheap most_routes most_services foreign room network unlisted run are suffice first ticks rest leaves
    (ticks_beside net most_routes most_services foreign next ticks calm) long) long router inside sure

pub returns-clause-stay : goal.returns-clause-stay
returns-clause-stay c net most_routes most_services foreign run first ticks further router network (is, differ, suffice, cheap, room, are, unlisted)
    (rest, leaves, calm) inside sure =
    let next = run_of net most_routes most_services run first in
    let long = some_ticks (least_route net (ups net run.histories) router network) (length ticks) sure in
    let parts = parts_of net most_routes most_services (IsCalmTick net most_routes most_services foreign) next ticks further
    (ticks_beside net most_routes most_services foreign next (ticks ++ further) calm) in
    subst (λ (later : Run).
    route_of net most_routes later.histories router network ≡ route_of net most_routes (ticked net most_routes most_services next ticks).histories router network)
    (sym (ticked_on net most_routes most_services next ticks further))
    (stays (here net c.layouts.ensures is differ cheap most_routes most_services foreign room network unlisted run are suffice) (length ticks)
    (ticked net most_routes most_services next ticks) further
    (from_any net c.layouts.ensures is differ cheap most_routes most_services foreign room network unlisted run are suffice first ticks rest leaves parts.0 long)
    parts.1 router inside sure)

pub returns-clause-each_step : goal.returns-clause-each_step
returns-clause-each_step c net most_routes most_services foreign run first ticks further network (is, differ, suffice, cheap, room, are, unlisted)
    (rest, leaves, calm) long =
    let next = run_of net most_routes most_services run first in
    let given = here net c.layouts.ensures is differ cheap most_routes most_services foreign room network unlisted run are suffice in
    let parts = parts_of net most_routes most_services (IsCalmTick net most_routes most_services foreign) next ticks further
    (ticks_beside net most_routes most_services foreign next (ticks ++ further) calm) in
    let now = ticked net most_routes most_services next ticks in
    route_stays_in given now now (steps_of further)
    (routes_stay given (length ticks) long now now further
    (from_any net c.layouts.ensures is differ cheap most_routes most_services foreign room network unlisted run are suffice first ticks rest leaves parts.0
    (omega (arith, long))) parts.1 (λ router inside. refl))

-- as if that many ticks had passed
pub returns-clause-sooner : goal.returns-clause-sooner
returns-clause-sooner c net most_routes most_services foreign run ticks router network (is, differ, suffice, cheap, room, are, unlisted) real quiet calm inside sure =
    let enough : ticks_right (least_route net (ups net run.histories) router network) ≤ length ticks + most_ticks_gone = omega (arith, sure) in
    table_is (here net c.layouts.ensures is differ cheap most_routes most_services foreign room network unlisted run are suffice) (length ticks + most_ticks_gone)
    (ticked net most_routes most_services run ticks)
    (from_real net c.layouts.ensures is differ cheap most_routes most_services foreign room network unlisted run are suffice ticks quiet
    (ticks_beside net most_routes most_services foreign run ticks calm) real) (omega arith) router inside enough

pub returns-clause-sooner_stay : goal.returns-clause-sooner_stay
returns-clause-sooner_stay c net most_routes most_services foreign run ticks further router network (is, differ, suffice, cheap, room, are, unlisted)
    real quiet calm inside sure =
    let enough : ticks_right (least_route net (ups net run.histories) router network) ≤ length ticks + most_ticks_gone = omega (arith, sure) in
    let parts = parts_of net most_routes most_services (IsCalmTick net most_routes most_services foreign) run ticks further
    (ticks_beside net most_routes most_services foreign run (ticks ++ further) calm) in
    subst (λ (later : Run).
    route_of net most_routes later.histories router network ≡ route_of net most_routes (ticked net most_routes most_services run ticks).histories router network)
    (sym (ticked_on net most_routes most_services run ticks further))
    (stays (here net c.layouts.ensures is differ cheap most_routes most_services foreign room network unlisted run are suffice) (length ticks + most_ticks_gone)
    (ticked net most_routes most_services run ticks) further
    (from_real net c.layouts.ensures is differ cheap most_routes most_services foreign room network unlisted run are suffice ticks quiet parts.0 real)
    parts.1 router inside enough)
