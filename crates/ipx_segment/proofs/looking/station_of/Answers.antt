use Rattle.std.proofs.Common.{◌∙◌, rules, tests}
use Rattle.std.proofs.lemmas.Iterator.{YieldsList-from_slice}
use Rattle.std.proofs.lemmas.Iterator.Search.{find_from_yields_List}
use Rattle.ipx_segment.specs.Nodes.{same_node}
use Rattle.ipx_segment.specs.declared.station.Station.{Station}
use Rattle.ipx_segment.proofs.looking.station_of.Goals as goal

pub returns : goal.returns
returns c =
    c.copied.ensures
    ∙ find_from_yields_List (λ (s : Station). same_node s.node c.args.node) _ _ _ c.find.ensures.ran (YieldsList-from_slice c.args.stations.now cc) (λ x b q k. search (rules, tests))
