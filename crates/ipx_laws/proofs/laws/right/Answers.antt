use Rattle.std.proofs.Common.{[], ◌++◌}
use Rattle.ipx_laws.specs.Ups.{ups}
use Rattle.ipx_laws.proofs.laws.right.Goals as goal
use Rattle.ipx_laws.proofs.tables.AnEmptyList.{setting_beside, real_beside}
use Rattle.ipx_laws.proofs.tables.TablesAreRight.{soon_enough}
use Rattle.ipx_laws.proofs.ticks.AfterRest.{beside_after}
use Rattle.ipx_laws.proofs.ticks.TickAfterTick.{calm_beside}

-- with an empty list
pub returns-clause-tables : goal.returns-clause-tables
returns-clause-tables c net most_routes most_services run first ticks router network setting calm inside sure =
    c.right_apart.ensures.tables net most_routes most_services [] run first ticks router network (setting_beside net most_routes run.histories network setting)
    (beside_after net most_routes most_services [] run first ticks calm) inside sure

pub returns-clause-stay : goal.returns-clause-stay
returns-clause-stay c net most_routes most_services run first ticks further router network setting calm inside sure =
    c.right_apart.ensures.stay net most_routes most_services [] run first ticks further router network (setting_beside net most_routes run.histories network setting)
    (beside_after net most_routes most_services [] run first (ticks ++ further) calm) inside sure

pub returns-clause-soon : goal.returns-clause-soon
returns-clause-soon c way = soon_enough way

pub returns-clause-sooner : goal.returns-clause-sooner
returns-clause-sooner c net most_routes most_services run ticks router network setting real quiet calm inside sure =
    c.right_apart.ensures.sooner net most_routes most_services [] run ticks router network (setting_beside net most_routes run.histories network setting)
    (real_beside net most_routes run.histories (ups net run.histories) [] real) quiet (calm_beside net most_routes most_services [] run ticks calm) inside sure

pub returns-clause-sooner_stay : goal.returns-clause-sooner_stay
returns-clause-sooner_stay c net most_routes most_services run ticks further router network setting real quiet calm inside sure =
    c.right_apart.ensures.sooner_stay net most_routes most_services [] run ticks further router network (setting_beside net most_routes run.histories network setting)
    (real_beside net most_routes run.histories (ups net run.histories) [] real) quiet
    (calm_beside net most_routes most_services [] run (ticks ++ further) calm) inside sure
