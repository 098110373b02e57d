use Rattle.std.proofs.Common.{refl, [], ◌∷◌, ◌++◌}
use Rattle.ipx_laws.specs.Outsiders.{ups_with}
use Rattle.ipx_laws.proofs.laws.outsiders.right_with_outsiders.Goals as goal
use Rattle.ipx_laws.proofs.outsiders.PortsOfOutsiders.{with_within}
use Rattle.ipx_laws.proofs.outsiders.TicksWithOutsiders.{table_right, table_right_then}
use Rattle.ipx_laws.proofs.tables.FifteenHopsSuffice.{of_few_routers}

pub returns-clause-tables : goal.returns-clause-tables
returns-clause-tables c net most_routes most_services ours foreign run first ticks router network (is, differ, suffice, cheap, room, are, stopped, unlisted)
    (rest, leaves, hosts) say heard within mine long =
    table_right net c.layouts.ensures is most_routes most_services ours foreign run first ticks are stopped rest leaves hosts router within mine differ cheap room network suffice
    unlisted say heard long

pub returns-clause-meanwhile : goal.returns-clause-meanwhile
returns-clause-meanwhile c net most_routes most_services ours foreign run first ticks steps more router network
    (is, differ, suffice, cheap, room, are, stopped, unlisted) (rest, leaves, hosts) say heard within mine long =
    table_right_then net c.layouts.ensures is most_routes most_services ours foreign run first (ticks ++ (steps ++ more) ∷ []) are stopped rest leaves hosts router within mine differ
    cheap room network suffice unlisted ticks steps more refl say heard long

pub returns-clause-few_routers : goal.returns-clause-few_routers
returns-clause-few_routers c net ours histories network is few_routers =
    of_few_routers net (ups_with net ours histories) (with_within net ours histories) is network few_routers
